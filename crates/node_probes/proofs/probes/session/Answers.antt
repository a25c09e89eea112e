use Rattle.std.proofs.Common.{◌∷◌, Err, Ok, subst}
use Rattle.std.proofs.lemmas.Result.{err_from_is_err_and}
use Rattle.mesh_model.specs.declared.probe.Probe.{Probe}
use Rattle.mesh_model.specs.Acts.ProbeRows.{probe_acts, session_acts}
use Rattle.mesh_model.specs.Knowledge.Steps.{unless_sent}
use Rattle.mesh_model.specs.Probes.OpenProbes.{Started}
use Rattle.node_ground.specs.KnowledgeStands.{KnowledgeStands}
use Rattle.node_ground.specs.Puts.{Puts}
use Rattle.node_probes.proofs.ProbeLemmas.{with_sessions}
use Rattle.node_probes.proofs.probes.session.Goals as goal

pub returns-in_err-put_probe-clause-puts : goal.returns-in_err-put_probe-clause-puts
unfolding session_acts
returns-in_err-put_probe-clause-puts g c = λ known stands.
    let p = err_from_is_err_and c.from_residual-in_err-put_probe.result c.from_residual-in_err-put_probe.ensures.1 in
    let calls = Started c.args.at.now c.args.target c.args.trace ∷ known.probes in
    let stand = with_sessions {calls = calls} stands (c.in_ok-probe.ensures.ok known.probes stands.probes) in
    rw (p.1, p.2) (subst (λ (probe : Probe). Puts g.P.Port.takes g.P.Port.same g.P.Port.over c.args.port.now
    (probe_acts c.args.at.me c.args.trace probe ((g.A.Algo.queries c.args.at.me).route known.routes c.args.at.now probe.target))
    (Err c.in_err-put_probe.field-0.0) c.put_probe.new.port)
    (c.in_ok-probe.ensures.probe known.probes stands.probes) (c.in_err-put_probe.ensures.puts (record known { probes = calls }) stand))

pub returns-clause-puts : goal.returns-clause-puts
unfolding session_acts
returns-clause-puts g c = λ known stands.
    let calls = Started c.args.at.now c.args.target c.args.trace ∷ known.probes in
    let stand = with_sessions {calls = calls} stands (c.in_ok-probe.ensures.ok known.probes stands.probes) in
    subst (λ (probe : Probe). Puts g.P.Port.takes g.P.Port.same g.P.Port.over c.args.port.now
    (probe_acts c.args.at.me c.args.trace probe ((g.A.Algo.queries c.args.at.me).route known.routes c.args.at.now probe.target))
    (Ok tt) c.put_probe.new.port)
    (c.in_ok-probe.ensures.probe known.probes stands.probes) (c.in_ok-put_probe.ensures.puts (record known { probes = calls }) stand)

pub returns-clause-noted : goal.returns-clause-noted
returns-clause-noted g c = λ known stands.
    let calls = Started c.args.at.now c.args.target c.args.trace ∷ known.probes in
    let stand = with_sessions {calls = calls} stands (c.in_ok-probe.ensures.ok known.probes stands.probes) in
    subst (λ (probe : Probe). KnowledgeStands g.A.Algo.stands c.put_probe.new.kept c.args.at.me (record known {
      probes = unless_sent ((g.A.Algo.queries c.args.at.me).route known.routes c.args.at.now probe.target) probe calls;
    }))
    (c.in_ok-probe.ensures.probe known.probes stands.probes) (c.in_ok-put_probe.ensures.noted (record known { probes = calls }) stand)
