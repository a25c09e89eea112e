-- Laws of LANs: what lines do to them keeps what holds of every mesh that is reached, takes nothing
-- away that is to come, and adds what comes later; and what a gateway puts on its LAN of a frame to
-- a group from the mesh it puts as the holder of the frame's source.
use Rattle.std.specs.Prelude.{◌≡◌, ℕ, ◌<◌, ◌⊎◌, false, List, length, Some, Ok, ⊤}
use Rattle.mesh_model.specs.declared.act.Act.TheVariants.{Lan}
use Rattle.mesh_model.specs.declared.claim.Spread.{Spread}
use Rattle.mesh_model.specs.declared.claim.Spread.TheVariants.{Unicast, Flood, SameLan}
use Rattle.mesh_model.specs.declared.happening.Happening.{Happening}
use Rattle.mesh_model.specs.Acts.BridgeRows.{Place, out_acts}
use Rattle.mesh_model.specs.Bridges.Claims.{claim_holder}
use Rattle.mesh_model.specs.Clients.Lans.{Bridge}
use Rattle.mesh_model.specs.Clients.Log.{LineGiven, Line}
use Rattle.mesh_model.specs.Clients.Mentions.{key_of}
use Rattle.mesh_model.specs.Net.Inputs.{all_given}
use Rattle.mesh_model.specs.Net.Lans.{joins_lan}
use Rattle.mesh_model.specs.Net.Mesh.{LanPut, Mesh, Setup}
use Rattle.mesh_model.specs.Net.Next.{Has, Happens}
use Rattle.mesh_model.specs.Net.Sending.{with_put}
use Rattle.mesh_model.specs.Packets.LanFrames.{is_of_gateway}
use Rattle.mesh_model.specs.Packets.Payload.{ClientFrame}
use Rattle.mesh_laws.specs.Soundness.{FitsPlaces, IsSound, KeepsBytes}

-- ---- lines

-- a LAN that joins keeps what holds of every mesh
abbrev pub LansKeepSound : Type 0
LansKeepSound = (setup : Setup) (name gateways : List ℕ) (now : ℕ) (mesh after : Mesh) →
    FitsPlaces setup → IsSound mesh →
    joins_lan setup name gateways now mesh ≡ Ok after → IsSound after

-- so does a frame that comes on a LAN
abbrev pub PutsKeepSound : Type 0
PutsKeepSound = (setup : Setup) (put : LanPut) (mesh after : Mesh) →
    FitsPlaces setup → IsSound mesh → put.lan < length mesh.lans →
    with_put setup put mesh ≡ Ok after → IsSound after

-- and a line that gives several nodes something
abbrev pub GatewaysKeepSound : Type 0
GatewaysKeepSound = (setup : Setup) (gateways : List ℕ) (now : ℕ) (line : LineGiven)
    (mesh after : Mesh) → FitsPlaces setup → IsSound mesh →
    all_given setup gateways now (Line line) mesh ≡ Ok after → IsSound after

-- what happens in a mesh, before or to come, happens in another too, and what the other has beside
-- that comes after a moment
abbrev pub AddsLater : ℕ → Mesh → Mesh → Happening → Type 0
AddsLater now mesh after x =
    (Happens mesh x → Happens after x) × (Happens after x → Happens mesh x ⊎ (now < x.moment))

-- a LAN that joins takes nothing away and adds what comes later
abbrev pub LansAddLater : Type 0
LansAddLater = (setup : Setup) (name gateways : List ℕ) (now : ℕ) (mesh after : Mesh)
    (x : Happening) → IsSound mesh →
    joins_lan setup name gateways now mesh ≡ Ok after → AddsLater now mesh after x

-- so does a frame that comes on a LAN
abbrev pub PutsAddLater : Type 0
PutsAddLater = (setup : Setup) (put : LanPut) (mesh after : Mesh) (x : Happening) →
    IsSound mesh → put.lan < length mesh.lans →
    with_put setup put mesh ≡ Ok after → AddsLater put.moment mesh after x

-- and a line that gives several nodes something
abbrev pub GatewaysAddLater : Type 0
GatewaysAddLater = (setup : Setup) (gateways : List ℕ) (now : ℕ) (line : LineGiven)
    (mesh after : Mesh) (x : Happening) → IsSound mesh →
    all_given setup gateways now (Line line) mesh ≡ Ok after → AddsLater now mesh after x

-- a LAN that joins leaves every link frame in every log with its bytes
abbrev pub LansKeepBytes : Type 0
LansKeepBytes = (setup : Setup) (name gateways : List ℕ) (now : ℕ) (mesh after : Mesh) →
    KeepsBytes mesh → joins_lan setup name gateways now mesh ≡ Ok after → KeepsBytes after

-- so does a frame that comes on a LAN
abbrev pub PutsKeepBytes : Type 0
PutsKeepBytes = (setup : Setup) (put : LanPut) (mesh after : Mesh) → KeepsBytes mesh →
    put.lan < length mesh.lans → with_put setup put mesh ≡ Ok after → KeepsBytes after

-- and a line that gives several nodes something
abbrev pub GatewaysKeepBytes : Type 0
GatewaysKeepBytes = (setup : Setup) (gateways : List ℕ) (now : ℕ) (line : LineGiven)
    (mesh after : Mesh) → KeepsBytes mesh →
    all_given setup gateways now (Line line) mesh ≡ Ok after → KeepsBytes after

-- ---- frames to a group

-- a frame is meant to go to a group
abbrev pub GoesToGroup : Spread → Type 0
GoesToGroup Unicast = ⊥
GoesToGroup Flood = ⊤
GoesToGroup SameLan = ⊤

-- what a gateway puts on its LAN of a frame to a group from the mesh, beside the frames by which
-- gateways agree, it puts as the holder of the frame's source
abbrev pub PutsAsHolder : Type 0
PutsAsHolder = (bridge : Bridge) (at : Place) (spread : Spread) (frame : ClientFrame)
    (bytes : List ℕ) → length at.me.0 ≡ 6 → GoesToGroup spread →
    Has (out_acts bridge at spread frame) (Lan bytes) → is_of_gateway bytes ≡ false →
    claim_holder bridge.claims at.now (key_of frame.src frame.vid) ≡ Some at.me
