use Rattle.std.proofs.Common.{Err, Ok}
use Rattle.std.proofs.lemmas.Result.{err_from_is_err_and}
use Rattle.mesh_model.specs.Acts.FactRows.{fact_acts}
use Rattle.mesh_model.specs.Acts.FrameRows.{here_acts}
use Rattle.mesh_model.specs.Packets.FactMessages.{fact_message_of}
use Rattle.node_ground.specs.KnowledgeStands.{place}
use Rattle.node_ground.proofs.PutsLemmas.{puts_behind, stops_among}
use Rattle.mesh_node.proofs.carrying.unicast_came.Goals as goal

pub returns-in_err-here-clause-puts : goal.returns-in_err-here-clause-puts
returns-in_err-here-clause-puts g c = λ known own stands before owns bridge.
    let p = err_from_is_err_and c.from_residual.result c.from_residual.ensures.1 in
    let q = g.A.Algo.queries c.args.at.me in
    let first = here_acts q known own.mentions own.bridge (place c.args.at) c.args.ttl c.args.tail.now in
    let rest = fact_acts q known (place c.args.at) (fact_message_of c.args.tail.now) in
    rw (p.1, p.2) (stops_among g.P.Port.takes g.P.Port.same g.P.Port.over c.in_err-here.field-0.0 c.args.port.now c.here.new.port first rest (c.in_err-here.ensures known own stands owns bridge))

pub returns-in_err-here-2-clause-puts : goal.returns-in_err-here-2-clause-puts
returns-in_err-here-2-clause-puts g c = λ known own stands before owns bridge.
    let p = err_from_is_err_and c.from_residual-in_err-here-2.result c.from_residual-in_err-here-2.ensures.1 in
    let q = g.A.Algo.queries c.args.at.me in
    let first = here_acts q known own.mentions own.bridge (place c.args.at) c.args.ttl c.args.tail.now in
    let rest = fact_acts q known (place c.args.at) (fact_message_of c.args.tail.now) in
    rw (p.1, p.2) (puts_behind g.P.Port.takes g.P.Port.same g.P.Port.over c.args.port.now c.here.new.port c.here-2.new.port first rest (Err c.in_err-here-2.field-0.0)
    (c.in_ok-here.ensures known own stands owns bridge) (c.in_err-here-2.ensures.puts known stands before))

pub returns-clause-puts : goal.returns-clause-puts
returns-clause-puts g c = λ known own stands before owns bridge.
    let q = g.A.Algo.queries c.args.at.me in
    let first = here_acts q known own.mentions own.bridge (place c.args.at) c.args.ttl c.args.tail.now in
    let rest = fact_acts q known (place c.args.at) (fact_message_of c.args.tail.now) in
    puts_behind g.P.Port.takes g.P.Port.same g.P.Port.over c.args.port.now c.here.new.port c.here-2.new.port first rest (Ok tt)
    (c.in_ok-here.ensures known own stands owns bridge) (c.in_ok-here-2.ensures.puts known stands before)
