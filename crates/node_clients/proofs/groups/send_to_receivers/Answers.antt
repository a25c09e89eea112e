use Rattle.std.proofs.lemmas.Result.{err_from_is_err_and}
use Rattle.mesh_codec.specs.Payloads.{seen_frame}
use Rattle.mesh_model.specs.Acts.GroupRows.{receivers_acts}
use Rattle.node_ground.specs.KnowledgeStands.{place}
use Rattle.node_ground.proofs.PutsLemmas.{stops_free}
use Rattle.node_clients.proofs.groups.send_to_receivers.Goals as goal

pub returns-in_err-payload-in-Each-clause-puts : goal.returns-in_err-payload-in-Each-clause-puts
returns-in_err-payload-in-Each-clause-puts g c = λ known stands.
    let p = err_from_is_err_and c.from_residual.result c.from_residual.ensures.1 in
    rw (p.1, p.2) (stops_free g.P.Port.takes g.P.Port.same g.P.Port.over c.args.port.now
    (receivers_acts (g.A.Algo.queries c.args.at.me) known (place c.args.at) (seen_frame c.args.frame.now) c.args.receivers.now) (g.met.P.Port.same_refl c.args.port.now))
