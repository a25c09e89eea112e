use Rattle.std.proofs.lemmas.Result.{err_from_is_err_and}
use Rattle.mesh_model.specs.declared.act.Act.TheVariants.{Link}
use Rattle.node_cuts.specs.Collected.{cutter_of}
use Rattle.node_cuts.proofs.CutLemmas.{free_one}
use Rattle.node_cuts.proofs.cutter.Cutter.put_packet.Goals as goal

pub returns-in_err-cuts-clause-puts : goal.returns-in_err-cuts-clause-puts
returns-in_err-cuts-clause-puts g c =
    let p = err_from_is_err_and c.from_residual-in_err-cuts.result c.from_residual-in_err-cuts.ensures.1 in
    rw (p.1, p.2) (free_one g.P.Port.takes g.P.Port.same g.P.Port.over (cutter_of c.args.self.now) c.args.port.now (Link c.args.to c.args.reason c.args.bytes) (g.met.P.Port.same_refl c.args.port.now))
