use Rattle.std.proofs.Common.{Err, Ok, ◌++◌}
use Rattle.std.proofs.lemmas.Result.{err_from_is_err_and}
use Rattle.mesh_model.specs.Acts.BridgeRows.{unclaim_acts}
use Rattle.mesh_model.specs.Acts.TableRows.{own_answer}
use Rattle.mesh_model.specs.Knowledge.Told.{message_in}
use Rattle.mesh_model.specs.Packets.Containers.{containers_of}
use Rattle.mesh_model.specs.Packets.Contents.{first_roaming, first_table}
use Rattle.node_ground.specs.KnowledgeStands.{place}
use Rattle.node_ground.specs.declared.failure.NodeErr.TheVariants.{Memory}
use Rattle.node_ground.proofs.PutsLemmas.{puts_behind, stops_among, stops_free, stops_last}
use Rattle.node_tables.proofs.containers.containers_here.Goals as goal

pub returns-in_err-table_here-clause-puts : goal.returns-in_err-table_here-clause-puts
returns-in_err-table_here-clause-puts g c = λ known own stands owns bridged.
    let p = err_from_is_err_and c.from_residual.result c.from_residual.ensures.1 in
    rw (p.1, p.2) (stops_among g.P.Port.takes g.P.Port.same g.P.Port.over c.in_err-table_here.field-0.0 c.args.port.now c.table_here.new.port
    (own_answer (g.A.Algo.queries c.args.at.me) c.args.at.me known c.args.at.now own.last own.told c.args.src (message_in (first_table (containers_of c.args.tail.now))))
    (unclaim_acts (place c.args.at) own.bridge (first_roaming (containers_of c.args.tail.now)))
    (c.in_err-table_here.ensures.puts known own stands owns))

pub returns-in_err-part_here-clause-puts : goal.returns-in_err-part_here-clause-puts
returns-in_err-part_here-clause-puts g c = λ known own stands owns bridged.
    let p = err_from_is_err_and c.from_residual-in_err-part_here.result c.from_residual-in_err-part_here.ensures.1 in
    let acts = unclaim_acts (place c.args.at) own.bridge (first_roaming (containers_of c.args.tail.now)) in
    rw (p.1, p.2) (puts_behind g.P.Port.takes g.P.Port.same g.P.Port.over c.args.port.now c.table_here.new.port c.table_here.new.port
    (own_answer (g.A.Algo.queries c.args.at.me) c.args.at.me known c.args.at.now own.last own.told c.args.src (message_in (first_table (containers_of c.args.tail.now))))
    acts (Err Memory) (c.in_ok-table_here.ensures.puts known own stands owns)
    (stops_free g.P.Port.takes g.P.Port.same g.P.Port.over c.table_here.new.port acts (g.met.P.Port.same_refl c.table_here.new.port)))

pub returns-in_err-unclaim-clause-puts : goal.returns-in_err-unclaim-clause-puts
returns-in_err-unclaim-clause-puts g c = λ known own stands owns bridged.
    let p = err_from_is_err_and c.from_residual-in_err-unclaim.result c.from_residual-in_err-unclaim.ensures.1 in
    rw (p.1, p.2, ← c.first_roaming-roamed.ensures) (puts_behind g.P.Port.takes g.P.Port.same g.P.Port.over c.args.port.now c.table_here.new.port c.unclaim.new.port
    (own_answer (g.A.Algo.queries c.args.at.me) c.args.at.me known c.args.at.now own.last own.told c.args.src (message_in (first_table (containers_of c.args.tail.now))))
    (unclaim_acts (place c.args.at) own.bridge c.first_roaming-roamed.result) (Err c.in_err-unclaim.field-0.0)
    (c.in_ok-table_here.ensures.puts known own stands owns) (c.in_err-unclaim.ensures own.bridge bridged))

pub returns-in_err-mark_roamed-clause-puts : goal.returns-in_err-mark_roamed-clause-puts
returns-in_err-mark_roamed-clause-puts g c = λ known own stands owns bridged.
    let p = err_from_is_err_and c.from_residual-in_err-mark_roamed.result c.from_residual-in_err-mark_roamed.ensures.1 in
    rw (p.1, p.2, ← c.first_roaming-roamed.ensures) (stops_last g.P.Port.takes g.P.Port.same g.P.Port.over c.args.port.now c.unclaim.new.port
    (own_answer (g.A.Algo.queries c.args.at.me) c.args.at.me known c.args.at.now own.last own.told c.args.src (message_in (first_table (containers_of c.args.tail.now)))
    ++ unclaim_acts (place c.args.at) own.bridge c.first_roaming-roamed.result)
    (puts_behind g.P.Port.takes g.P.Port.same g.P.Port.over c.args.port.now c.table_here.new.port c.unclaim.new.port
    (own_answer (g.A.Algo.queries c.args.at.me) c.args.at.me known c.args.at.now own.last own.told c.args.src (message_in (first_table (containers_of c.args.tail.now))))
    (unclaim_acts (place c.args.at) own.bridge c.first_roaming-roamed.result) (Ok tt)
    (c.in_ok-table_here.ensures.puts known own stands owns) (c.in_ok-unclaim.ensures own.bridge bridged))
    (g.met.P.Port.same_refl c.unclaim.new.port))

pub returns-clause-puts : goal.returns-clause-puts
returns-clause-puts g c = λ known own stands owns bridged.
    rw (← c.first_roaming-roamed.ensures) (puts_behind g.P.Port.takes g.P.Port.same g.P.Port.over c.args.port.now c.table_here.new.port c.unclaim.new.port
    (own_answer (g.A.Algo.queries c.args.at.me) c.args.at.me known c.args.at.now own.last own.told c.args.src (message_in (first_table (containers_of c.args.tail.now))))
    (unclaim_acts (place c.args.at) own.bridge c.first_roaming-roamed.result) (Ok tt)
    (c.in_ok-table_here.ensures.puts known own stands owns) (c.in_ok-unclaim.ensures own.bridge bridged))
