use Rattle.std.proofs.Common.{◌∷◌, Err, Ok, subst}
use Rattle.std.proofs.lemmas.Result.{err_from_is_err_and}
use Rattle.mesh_model.specs.declared.probe.Told.{Told}
use Rattle.mesh_model.specs.Knowledge.Steps.{following}
use Rattle.mesh_model.specs.Probes.OpenProbes.{Answered}
use Rattle.node_probes.specs.Icmp.{icmp_of}
use Rattle.node_ground.specs.KnowledgeStands.{KnowledgeStands, place}
use Rattle.node_probes.proofs.ProbeLemmas.{answer_puts, with_sessions}
use Rattle.node_probes.proofs.probes.answer.Goals as goal

pub returns-in_err-follow-clause-puts : goal.returns-in_err-follow-clause-puts
returns-in_err-follow-clause-puts g c = λ known stands.
    let p = err_from_is_err_and c.from_residual-in_err-follow.result c.from_residual-in_err-follow.ensures.1 in
    let calls = Answered c.args.at.now c.args.message.seq c.args.message.kind ∷ known.probes in
    let stand = with_sessions {calls = calls} stands (c.answer-told.ensures.taken known.probes stands.probes) in
    rw (p.1, p.2) (answer_puts g.P.Port.takes g.P.Port.same g.P.Port.over (g.A.Algo.queries c.args.at.me) known (place c.args.at) (icmp_of c.args.message)
    c.in-Some.asked c.answer-told.result c.answer_event.result c.args.port.now c.put.new.self c.follow.new.port (Err c.in_err-follow.field-0.0)
    (c.in-Some.ensures known.probes stands.probes) (c.answer-told.ensures.told known.probes stands.probes) c.answer_event.ensures
    c.in_ok-put.ensures.taken c.in_ok-put.ensures.within
    (c.in_err-follow.ensures.puts (record known { probes = calls }) stand))

pub returns-clause-puts : goal.returns-clause-puts
returns-clause-puts g c = λ known stands.
    let calls = Answered c.args.at.now c.args.message.seq c.args.message.kind ∷ known.probes in
    let stand = with_sessions {calls = calls} stands (c.answer-told.ensures.taken known.probes stands.probes) in
    answer_puts g.P.Port.takes g.P.Port.same g.P.Port.over (g.A.Algo.queries c.args.at.me) known (place c.args.at) (icmp_of c.args.message)
    c.in-Some.asked c.answer-told.result c.answer_event.result c.args.port.now c.put.new.self c.follow.new.port (Ok tt)
    (c.in-Some.ensures known.probes stands.probes) (c.answer-told.ensures.told known.probes stands.probes) c.answer_event.ensures
    c.in_ok-put.ensures.taken c.in_ok-put.ensures.within
    (c.in_ok-follow.ensures.puts (record known { probes = calls }) stand)

pub returns-clause-noted : goal.returns-clause-noted
returns-clause-noted g c = λ known stands.
    let calls = Answered c.args.at.now c.args.message.seq c.args.message.kind ∷ known.probes in
    let stand = with_sessions {calls = calls} stands (c.answer-told.ensures.taken known.probes stands.probes) in
    subst (λ (says : Told). KnowledgeStands g.A.Algo.stands c.follow.new.kept c.args.at.me (record known {
      probes = following (g.A.Algo.queries c.args.at.me) known.routes c.args.at.now says calls;
    }))
    (c.answer-told.ensures.told known.probes stands.probes) (c.in_ok-follow.ensures.noted (record known { probes = calls }) stand)
