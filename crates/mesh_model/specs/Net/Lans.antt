-- LANs in the net. A LAN joins with its gateways: each of them is given the LAN's number, which is
-- its place in the order of the lines, from 1, and the addresses of all. A frame on a LAN comes to
-- its gateways at once, who take it in the order of the nodes: one by which gateways agree to all,
-- a client frame to all but the one that put it. A client frame that a gateway put has an event
-- where it comes, before its gateways take it. The main words are `joins_lan` and `lan_delivered`.
use Rattle.std.specs.Prelude.{ℕ, suc, not, nat_eq, Bool, true, filter, List, [], ◌∷◌, ◌++◌, length, map, slice_get, Option, Some, None, Ok}
use Rattle.std.specs.Option.{option_map_or}
use Rattle.mesh_base.specs.declared.event.Event.{Event}
use Rattle.mesh_base.specs.declared.event.Event.TheVariants.{Bridged}
use Rattle.mesh_model.specs.Clients.Log.{Given, Attach, LanFrame, Line}
use Rattle.mesh_model.specs.Net.Inputs.{all_given}
use Rattle.mesh_model.specs.Net.Mesh.{NetLan, LanPut, Mesh, Setup, address_at}
use Rattle.mesh_model.specs.Net.Sending.{Attempt}
use Rattle.mesh_model.specs.Packets.LanFrames.{client_frame_in, lan_message_of}
use Rattle.mesh_model.specs.Packets.Payload.{ClientFrame}

-- ---- joining

-- what the gateways at these places of a LAN that joins a mesh are given
abbrev pub attachment : Mesh → List ℕ → Given
attachment mesh gateways = Line (Attach (suc (length mesh.lans))
    (map (λ place. address_at place mesh.nodes) gateways))

-- the mesh with one more LAN
abbrev pub with_lan : NetLan → Mesh → Mesh
with_lan lan mesh = record mesh { lans = mesh.lans ++ lan ∷ [] }

-- the mesh after a LAN of this name joins at a moment, with gateways at these places
abbrev pub joins_lan : Setup → List ℕ → List ℕ → ℕ → Mesh → Attempt
joins_lan setup name gateways now mesh = all_given setup gateways now (attachment mesh gateways)
    (with_lan (record { name = name; gateways = gateways }) mesh)

-- ---- frames

-- the places of the gateways of the LAN at a place
abbrev pub gateways_at : ℕ → List NetLan → List ℕ
gateways_at place lans = option_map_or (λ (lan : NetLan). lan.gateways) (slice_get lans place) []

-- whether the gateway at a place gets a frame of its LAN, which is this client frame or none, and
-- which the gateway at another place put, or none
abbrev pub gets : Option ClientFrame → Option ℕ → ℕ → Bool
gets None by gateway = true
gets (Some frame) None gateway = true
gets (Some frame) (Some other) gateway = not (nat_eq other gateway)

-- the event of a frame that comes on the LAN at a place: there is one where it is a client frame
-- and a gateway put it
abbrev pub reach_events : ℕ → ℕ → Option ℕ → Option ClientFrame → List Event
reach_events now lan by None = []
reach_events now lan None (Some frame) = []
reach_events now lan (Some gateway) (Some frame) =
    Bridged now (suc lan) frame.vid frame.src frame.dst frame.text ∷ []

-- the mesh with further events
abbrev pub with_events : List Event → Mesh → Mesh
with_events more mesh = record mesh { events = mesh.events ++ more }

-- the mesh after a frame comes on a LAN, which is this client frame or none
abbrev pub put_over : Setup → ℕ → LanPut → Option ClientFrame → Option NetLan → Mesh → Attempt
put_over setup now put frame None mesh = Ok mesh
put_over setup now put frame (Some lan) mesh =
    all_given setup (filter (gets frame put.by) lan.gateways) now (LanFrame put.bytes)
    (with_events (reach_events now put.lan put.by frame) mesh)

-- the mesh after the LAN frame that stands at a place comes on its LAN
abbrev pub put_given : Setup → ℕ → Option LanPut → Mesh → Attempt
put_given setup now None mesh = Ok mesh
put_given setup now (Some put) mesh = put_over setup now put
    (client_frame_in (lan_message_of put.bytes)) (slice_get mesh.lans put.lan) mesh

-- the mesh after the LAN frame at a place is delivered at a moment
abbrev pub lan_delivered : Setup → ℕ → ℕ → Mesh → Attempt
lan_delivered setup place now mesh = put_given setup now (slice_get mesh.puts place) mesh
