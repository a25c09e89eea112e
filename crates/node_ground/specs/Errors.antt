-- The causes of what a port and a node answer other than Ok; want of memory is free. The main words
-- are `HasPortCause` and `HasCause`.
use Rattle.std.specs.Prelude.{◌≡◌, Option, Some, ⊤}
use Rattle.mesh_model.specs.declared.ending.LimitName.{LimitName}
use Rattle.mesh_model.specs.declared.ending.LimitName.TheVariants as limits
use Rattle.tt_local.specs.declared.failure.LocalErr.{LocalErr}
use Rattle.tt_local.specs.declared.failure.LocalErr.TheVariants as local
use Rattle.node_ground.specs.declared.failure.PortErr.{PortErr}
use Rattle.node_ground.specs.declared.failure.PortErr.TheVariants as port
use Rattle.node_ground.specs.declared.failure.NodeErr.{NodeErr}
use Rattle.node_ground.specs.declared.failure.NodeErr.TheVariants.{Memory, Clients, Vlans, Frames, FrameBytes, Cuts, Dead}

-- the error of a node whose port refused an act
abbrev pub error_of : PortErr → NodeErr
error_of port.Memory = Memory
error_of port.Frames = Frames
error_of port.FrameBytes = FrameBytes

-- the error of a node whose clients refused a sighting
abbrev pub client_error_of : LocalErr → NodeErr
client_error_of local.Clients = Clients
client_error_of local.Vlans = Vlans
client_error_of local.Memory = Memory

-- why a port refuses an act whose frames would pass this limit
abbrev pub HasPortCause : Option LimitName → PortErr → Type 0
HasPortCause over port.Memory = ⊤
HasPortCause over port.Frames = over ≡ Some limits.Frames
HasPortCause over port.FrameBytes = over ≡ Some limits.FrameBytes

-- why a node stops before an act whose frames would pass this limit
abbrev pub HasCause : Option LimitName → NodeErr → Type 0
HasCause over Memory = ⊤
HasCause over Clients = ⊥
HasCause over Vlans = ⊥
HasCause over Frames = over ≡ Some limits.Frames
HasCause over FrameBytes = over ≡ Some limits.FrameBytes
HasCause over Cuts = ⊥
HasCause over Dead = ⊥

-- why a node refuses what passes this limit of its own, or none: of its clients or of its cuts
abbrev pub HasOwnCause : Option LimitName → NodeErr → Type 0
HasOwnCause limit Memory = ⊤
HasOwnCause limit Clients = limit ≡ Some limits.Clients
HasOwnCause limit Vlans = limit ≡ Some limits.Vlans
HasOwnCause limit Frames = ⊥
HasOwnCause limit FrameBytes = ⊥
HasOwnCause limit Cuts = limit ≡ Some limits.Cuts
HasOwnCause limit Dead = ⊥
