use Rattle.std.proofs.Common.{◌<◌, ◌++◌, ◌∙◌, append_assoc, ap, length, rules}
use Rattle.mesh_told.proofs.PlaceLemmas.{back, entry, front, long_front, set_here, split_here, told_here}
use Rattle.mesh_told.proofs.node_routes.NodeRoutes.tell_all.Goals as goal

pub loop-place-preserved : goal.loop-place-preserved
loop-place-preserved c =
    let now = c.args.now in
    let node = c.args.node in
    let rows = c.args.rows.now in
    let table = c.args.self.now.next.entries in
    let place = c.loop-place.place in
    let loop = c.loop-place.invariant in
    let low : place < length table = search rules in
    let split = split_here now node rows table place low c.loop-place.self.next.entries loop.set in
    let long = long_front now node rows table place low in
    let done = c.in_ok-tell_at.ensures in
    record {
      set = done.set (front now node rows table place low) (back now node rows table place low) (entry now node rows table place low).0 (entry now node rows table place low).1 split long ∙ set_here now node rows table place low;
      told = told_here now node rows table place low c.args.log.now c.loop-place.log c.tell_at.new.log loop.told
          (done.told (front now node rows table place low) (back now node rows table place low) (entry now node rows table place low).0 (entry now node rows table place low).1 split long);
      grew = (loop.grew.0 ++ done.grew.0, done.grew.1 ∙ ap (λ es. es ++ done.grew.0) loop.grew.1 ∙ append_assoc c.args.log.now loop.grew.0 done.grew.0);
    }
