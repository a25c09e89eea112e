use Rattle.std.proofs.Common.{◌≡◌, take}
use Rattle.mesh_post.specs.Inner.Links.{between, noted}
use Rattle.mesh_post.proofs.rows.note.Given as goal

abbrev pub invariant-loop-place : goal.invariant-loop-place
invariant-loop-place l =
    l.backs.items ≡ noted (between l.from l.to) l.tp (take l.place l.rows) l.fn.backs.items
