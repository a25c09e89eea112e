use Rattle.std.proofs.Common.{length, ap, arith}
use Rattle.std.proofs.lemmas.Option.{slice_get_past}
use Rattle.frame_store.specs.Frames.{frames}
use Rattle.mesh_net.proofs.KeptLemmas.{sending_at, sendings_count}
use Rattle.mesh_net.proofs.kept.Kept.get.Goals as goal

pub returns-in_err-root-clause-none : goal.returns-in_err-root-clause-none
returns-in_err-root-clause-none c =
    let past = c.in_err-root.ensures.lookup.3 in
    let same = ap length c.deref.ensures.value in
    let count = sendings_count (frames c.self.inside.store.older c.self.inside.store.grown)
    c.self.inside.roots.items c.self.invariant.count in
    let seen = ap length c.self.view_is in
    rw c.from_residual.ensures (slice_get_past c.args.self.now c.args.place (omega (arith, past, same, count, seen)))

pub returns-clause-some : goal.returns-clause-some
returns-clause-some c =
    let k = c.in_ok-root.ensures.lookup in
    let there = rw c.deref.ensures.value at k.3.0 in
    let is = rw c.deref.ensures.value at k.1 in
    rw (← c.self.view_is, c.get-2.ensures, c.from.ensures)
    (sending_at (frames c.self.inside.store.older c.self.inside.store.grown)
    c.self.inside.roots.items c.args.place c.in_ok-root.field-0.now c.self.invariant.count there is)
