-- Pushes of facts. No public clause cites this module.
use Rattle.std.specs.Prelude.{ℕ, nat_lt, List, length, Result, Ok, Err, if◌then◌else◌}
use Rattle.mesh_base.specs.declared.address.Mac.{Mac}
use Rattle.mesh_model.specs.declared.service.Fact.{Fact}
use Rattle.node_ground.specs.declared.failure.NodeErr.{NodeErr}

-- how many pushes there are of facts to some nodes
abbrev pub pushes_of : List Fact → List Mac → ℕ
pushes_of facts nodes = if nat_lt 0 (length facts) then length nodes else 0

-- a call's answer apart from how many it tells
abbrev pub apart : Result ℕ NodeErr → Result Unit NodeErr
apart (Ok count) = Ok tt
apart (Err error) = Err error
