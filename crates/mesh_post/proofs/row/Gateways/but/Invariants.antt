use Rattle.std.proofs.Common.{◌≡◌, take}
use Rattle.std.specs.List.{filter}
use Rattle.mesh_post.specs.Lanes.{is_other}
use Rattle.mesh_post.proofs.row.Gateways.but.Given as goal

abbrev pub invariant-loop-place : goal.invariant-loop-place
invariant-loop-place l = l.places.items ≡ filter (is_other l.one) (take l.place-index l.place-items)
