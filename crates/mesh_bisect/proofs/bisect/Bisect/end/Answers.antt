use Rattle.std.proofs.Common.{refl}
use Rattle.mesh_bisect.proofs.BisectLemmas.{has_ended}
use Rattle.mesh_bisect.proofs.bisect.Bisect.end.Goals as goal

pub returns-clause-ok : goal.returns-clause-ok
returns-clause-ok c = λ lines stands. has_ended c.args.self.now lines stands _ (c.in_ok-report.ensures.ok stands.calls stands.watch) refl
