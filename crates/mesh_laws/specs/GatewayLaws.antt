-- Laws of gateways: in every mesh that is reached, each LAN has gateways that stand, in rising
-- order and none of another LAN; each node's log tells of its LAN what the net has of it; and all
-- gateways of a LAN had the same claims, so they have the same holder of every client. The main
-- words are `LansStand` and `GatewaysAgree`.
use Rattle.std.specs.Prelude.{◌≡◌, ℕ, ◌<◌, suc, List, [], ◌∷◌, ◌++◌, length, map, slice_get, Option, Some, None, option_and_then, option_map, Ok, ⊤}
use Rattle.mesh_base.specs.declared.address.Mac.{Mac}
use Rattle.mesh_base.specs.declared.client.Key.{Key}
use Rattle.mesh_model.specs.declared.happening.Happening.{Happening}
use Rattle.mesh_model.specs.declared.route_line.RouteLine.{RouteLine}
use Rattle.mesh_model.specs.Bridges.Claims.{claim_holder}
use Rattle.mesh_model.specs.Clients.Lans.{LanOf, bridge}
use Rattle.mesh_model.specs.Clients.Log.{LineGiven, Attach, Line}
use Rattle.mesh_model.specs.Net.Inputs.{all_given, given_to}
use Rattle.mesh_model.specs.Net.Lans.{joins_lan}
use Rattle.mesh_model.specs.Net.Mesh.{NodeLog, NetLan, NetLink, LanPut, Mesh, Setup, address_at, begun_mesh}
use Rattle.mesh_model.specs.Net.Next.{Has}
use Rattle.mesh_model.specs.Net.Runs.{after_happening, delivered, run_to}
use Rattle.mesh_model.specs.Net.Sending.{lan_of, with_put}

-- numbers rise
abbrev pub Rise : List ℕ → Type 0
Rise [] = ⊤
Rise (first ∷ rest) = ((x : ℕ) → Has rest x → first < x) × Rise rest

-- what the net has of a LAN at a place, as a gateway is told
abbrev pub lan_told : Mesh → ℕ → NetLan → LanOf
lan_told mesh place lan = record {
  number = suc place;
  gateways = map (λ gateway. address_at gateway mesh.nodes) lan.gateways;
}

-- what the net has of the LAN of the node at a place, where that is a gateway
abbrev pub lan_beside : Mesh → ℕ → Option LanOf
lan_beside mesh place = option_and_then
    (λ at. option_map (lan_told mesh at) (slice_get mesh.lans at)) (lan_of place mesh.lans)

-- the gateways of the LAN at a place rise, stand, and are of no other
pub record AreGateways (mesh : Mesh) (place : ℕ) (gateways : List ℕ) : Type 0 where
  pub rise : Rise gateways
  pub stand : (gateway : ℕ) → Has gateways gateway → gateway < length mesh.nodes
  pub here : (gateway : ℕ) → Has gateways gateway → lan_of gateway mesh.lans ≡ Some place

-- the LANs of a mesh stand, and its nodes' logs agree with them and with each other
pub record LansStand (mesh : Mesh) : Type 0 where
  pub gateways : (place : ℕ) (lan : NetLan) → slice_get mesh.lans place ≡ Some lan
      → AreGateways mesh place lan.gateways
  pub attached : (place : ℕ) (node : NodeLog) → slice_get mesh.nodes place ≡ Some node
      → (bridge node.log).lan ≡ lan_beside mesh place
  pub outside : (place : ℕ) (node : NodeLog) → slice_get mesh.nodes place ≡ Some node
      → lan_of place mesh.lans ≡ None → (bridge node.log).claims ≡ []
  pub agree : (first second : ℕ) (a b : NodeLog) → slice_get mesh.nodes first ≡ Some a
      → slice_get mesh.nodes second ≡ Some b
      → lan_of first mesh.lans ≡ lan_of second mesh.lans
      → (bridge a.log).claims ≡ (bridge b.log).claims

-- two gateways of a LAN have the same holder of every client, at every moment
abbrev pub GatewaysAgree : Type 0
GatewaysAgree = (mesh : Mesh) (place : ℕ) (lan : NetLan) (first second : ℕ) (a b : NodeLog)
    (now : ℕ) (key : Key) → LansStand mesh → slice_get mesh.lans place ≡ Some lan →
    Has lan.gateways first → Has lan.gateways second →
    slice_get mesh.nodes first ≡ Some a → slice_get mesh.nodes second ≡ Some b →
    claim_holder (bridge a.log).claims now key ≡ claim_holder (bridge b.log).claims now key

-- ---- what keeps it

-- it holds before the first line, whether routes are watched or not
abbrev pub EmptyLansStand : Type 0
EmptyLansStand = (watch : Option (List RouteLine)) → LansStand (begun_mesh watch)

-- a happening keeps it
abbrev pub HappeningsKeepLans : Type 0
HappeningsKeepLans = (setup : Setup) (mesh after : Mesh) (h : Happening) → LansStand mesh →
    after_happening setup h mesh ≡ Ok after → LansStand after

-- so does a run, also one that a limit ends
abbrev pub RunsKeepLans : Type 0
RunsKeepLans = (setup : Setup) (t : ℕ) (mesh : Mesh) → LansStand mesh →
    LansStand (run_to setup t mesh).mesh

-- a line makes no node a gateway
abbrev pub IsNoLan : LineGiven → Type 0
IsNoLan line = (lan : ℕ) (gateways : List Mac) → line ≡ Attach lan gateways → ⊥

-- a line that gives a node something
abbrev pub InputsKeepLans : Type 0
InputsKeepLans = (setup : Setup) (place now root : ℕ) (line : LineGiven) (mesh after : Mesh) →
    LansStand mesh → IsNoLan line →
    given_to setup place now root (Line line) mesh ≡ Ok after → LansStand after

-- or several nodes
abbrev pub GatewaysKeepLans : Type 0
GatewaysKeepLans = (setup : Setup) (places : List ℕ) (now : ℕ) (line : LineGiven)
    (mesh after : Mesh) → LansStand mesh → IsNoLan line →
    all_given setup places now (Line line) mesh ≡ Ok after → LansStand after

-- a frame that is delivered again
abbrev pub DeliveriesKeepLans : Type 0
DeliveriesKeepLans = (setup : Setup) (place now : ℕ) (mesh after : Mesh) → LansStand mesh →
    delivered setup place now mesh ≡ Ok after → LansStand after

-- a frame that comes on a LAN
abbrev pub PutsKeepLans : Type 0
PutsKeepLans = (setup : Setup) (put : LanPut) (mesh after : Mesh) → LansStand mesh →
    put.lan < length mesh.lans → with_put setup put mesh ≡ Ok after → LansStand after

-- nodes can become the gateways of a LAN: they rise, stand, and are none yet
pub record CanJoin (mesh : Mesh) (gateways : List ℕ) : Type 0 where
  pub rise : Rise gateways
  pub stand : (gateway : ℕ) → Has gateways gateway → gateway < length mesh.nodes
  pub free : (gateway : ℕ) → Has gateways gateway → lan_of gateway mesh.lans ≡ None

-- a LAN that joins
abbrev pub LansKeepLans : Type 0
LansKeepLans = (setup : Setup) (name gateways : List ℕ) (now : ℕ) (mesh after : Mesh) →
    LansStand mesh → CanJoin mesh gateways →
    joins_lan setup name gateways now mesh ≡ Ok after → LansStand after

-- a new node
abbrev pub NodesKeepLans : Type 0
NodesKeepLans = (mesh : Mesh) (node : NodeLog) → LansStand mesh → node.log ≡ [] →
    LansStand (record mesh { nodes = mesh.nodes ++ node ∷ [] })

-- a new link
abbrev pub LinksKeepLans : Type 0
LinksKeepLans = (mesh : Mesh) (link : NetLink) → LansStand mesh →
    LansStand (record mesh { links = mesh.links ++ link ∷ [] })
