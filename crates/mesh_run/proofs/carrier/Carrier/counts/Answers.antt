use Rattle.mesh_run.proofs.carrier.Carrier.counts.Goals as goal

pub returns-in-Stage : goal.returns-in-Stage
returns-in-Stage c = rw c.in-Stage.is (λ choice state stands. c.counts.ensures state stands)
