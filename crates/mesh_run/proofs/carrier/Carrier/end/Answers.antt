use Rattle.mesh_run.proofs.CarrierLemmas.{bisect_end_fails, bisect_ends, stage_ends}
use Rattle.mesh_run.proofs.carrier.Carrier.end.Goals as goal

pub returns-in-Stage-clause-ok : goal.returns-in-Stage-clause-ok
returns-in-Stage-clause-ok g c = rw c.in-Stage.is (λ kind base state at. stage_ends kind c.in-Stage.field-0 base (g.K.Sink.taken c.args.out.now) state at)

pub returns-in-Bisect-clause-ok : goal.returns-in-Bisect-clause-ok
returns-in-Bisect-clause-ok g c = rw c.in-Bisect.is (λ kind base state at. bisect_ends kind c.in-Bisect.bisect base (g.K.Sink.taken c.args.out.now) (g.K.Sink.taken c.end_routes.new.out) c.end_routes.result state at c.end_routes.ensures.ok)

pub returns-in-Bisect-clause-failed : goal.returns-in-Bisect-clause-failed
returns-in-Bisect-clause-failed g c = rw c.in-Bisect.is (λ kind base state at. bisect_end_fails kind c.in-Bisect.bisect base (g.K.Sink.taken c.args.out.now) (g.K.Sink.taken c.end_routes.new.out) c.end_routes.result state at c.end_routes.ensures.failed)
