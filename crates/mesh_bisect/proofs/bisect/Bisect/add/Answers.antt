use Rattle.std.proofs.Common.{◌∷◌, OnOk, refl, subst}
use Rattle.mesh_loops.specs.Watch.{WasSet, WatchStands}
use Rattle.mesh_bisect.proofs.BisectLemmas.{is_added}
use Rattle.mesh_bisect.proofs.bisect.Bisect.add.Goals as goal

pub returns-in-Ok : goal.returns-in-Ok
returns-in-Ok c =
    λ lines stands.
    let line = c.args.line in
    let watch = subst (λ r. OnOk r (WatchStands c.set.new.self (WasSet line ∷ stands.calls))) c.in-Ok.is (c.set.ensures.ok stands.calls line.moment stands.watch) in
    is_added c.args.self.now lines stands _ line watch refl
