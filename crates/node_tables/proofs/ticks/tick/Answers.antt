use Rattle.std.proofs.Common.{Err, Ok, subst}
use Rattle.std.proofs.lemmas.Result.{err_from_is_err_and}
use Rattle.mesh_model.specs.Acts.BridgeRows.{round_acts}
use Rattle.node_ground.specs.KnowledgeStands.{place}
use Rattle.node_ground.specs.Puts.{Puts}
use Rattle.node_ground.proofs.PutsLemmas.{puts_behind, stops_among}
use Rattle.node_tables.proofs.TickLemmas.{beat_acts, tick_is}
use Rattle.node_tables.proofs.ticks.tick.Goals as goal

pub returns-in_err-beat-clause-puts : goal.returns-in_err-beat-clause-puts
returns-in_err-beat-clause-puts g c = λ known mentions history since gateway is stands late bridged.
    let p = err_from_is_err_and c.from_residual.result c.from_residual.ensures.1 in
    let q = g.A.Algo.queries c.args.at.me in
    rw (p.1, p.2) (subst (λ acts. Puts g.P.Port.takes g.P.Port.same g.P.Port.over c.args.port.now acts (Err c.in_err-beat.field-0.0) c.beat.new.port)
    (tick_is q c.args.at.me known.services.settings known.routes mentions history gateway c.args.at.now c.args.index)
    (stops_among g.P.Port.takes g.P.Port.same g.P.Port.over c.in_err-beat.field-0.0 c.args.port.now c.beat.new.port
    (beat_acts q c.args.at.me known.services.settings known.routes mentions history c.args.at.now c.args.index) (round_acts (place c.args.at) gateway c.args.index)
    (c.in_err-beat.ensures.puts known mentions history since is stands late)))

pub returns-in_err-round-clause-puts : goal.returns-in_err-round-clause-puts
returns-in_err-round-clause-puts g c = λ known mentions history since gateway is stands late bridged.
    let p = err_from_is_err_and c.from_residual-in_err-round.result c.from_residual-in_err-round.ensures.1 in
    let q = g.A.Algo.queries c.args.at.me in
    rw (p.1, p.2) (subst (λ acts. Puts g.P.Port.takes g.P.Port.same g.P.Port.over c.args.port.now acts (Err c.in_err-round.field-0.0) c.round.new.port)
    (tick_is q c.args.at.me known.services.settings known.routes mentions history gateway c.args.at.now c.args.index)
    (puts_behind g.P.Port.takes g.P.Port.same g.P.Port.over c.args.port.now c.beat.new.port c.round.new.port
    (beat_acts q c.args.at.me known.services.settings known.routes mentions history c.args.at.now c.args.index) (round_acts (place c.args.at) gateway c.args.index) (Err c.in_err-round.field-0.0)
    (c.in_ok-beat.ensures.puts known mentions history since is stands late) (c.in_err-round.ensures gateway bridged)))

pub returns-clause-puts : goal.returns-clause-puts
returns-clause-puts g c = λ known mentions history since gateway is stands late bridged.
    let q = g.A.Algo.queries c.args.at.me in
    subst (λ acts. Puts g.P.Port.takes g.P.Port.same g.P.Port.over c.args.port.now acts (Ok tt) c.round.new.port)
    (tick_is q c.args.at.me known.services.settings known.routes mentions history gateway c.args.at.now c.args.index)
    (puts_behind g.P.Port.takes g.P.Port.same g.P.Port.over c.args.port.now c.beat.new.port c.round.new.port
    (beat_acts q c.args.at.me known.services.settings known.routes mentions history c.args.at.now c.args.index) (round_acts (place c.args.at) gateway c.args.index) (Ok tt)
    (c.in_ok-beat.ensures.puts known mentions history since is stands late) (c.in_ok-round.ensures gateway bridged))
