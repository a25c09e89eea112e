use Rattle.mesh_loops.proofs.SetLemmas.{settled}
use Rattle.mesh_loops.proofs.watch.Watch.settle.Goals as goal

pub returns-clause-ok : goal.returns-clause-ok
returns-clause-ok c =
    λ calls stands.
    settled c.args.self.now c.forget.new.self calls stands c.forget.ensures.routes c.forget.ensures.before
