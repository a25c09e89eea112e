use Rattle.std.proofs.Common.{◌≡◌, Some}
use Rattle.mesh_model.specs.Fragments.Assembly.{bytes_below}
use Rattle.mesh_frag.proofs.parts.Parts.first.Given as goal

abbrev pub invariant-loop-place : goal.invariant-loop-place
invariant-loop-place l =
    bytes_below l.self-inside.tails.entries l.place-counter ≡ Some l.bytes.items
