-- The meshes that a net can come to: from the one at the begin, by new nodes, links and LANs, by what
-- lines give nodes, one or several, by frames that come on a LAN or are delivered again, by
-- happenings, each the next, and by the passing of time in which nothing happens. What is proved of
-- every run can be applied to them. The main word is `IsReached`.
use Rattle.std.specs.Prelude.{◌≡◌, ℕ, ◌<◌, ◌≤◌, Bool, true, false, List, [], length, Ok, Option, Some, None}
use Rattle.mesh_base.specs.declared.address.Mac.{Mac}
use Rattle.mesh_model.specs.declared.happening.Happening.{Happening}
use Rattle.mesh_model.specs.declared.route_line.RouteLine.{RouteLine}
use Rattle.mesh_model.specs.Clients.Log.{Given, Tick, LinkFrame, LanFrame, Line, LineGiven, Attach, Frame, Gone, Join, Leave, Arp, Dhcp, Sets, Put, Get, Ping, Trace, Reboot}
use Rattle.mesh_model.specs.Net.Mesh.{NetLink, LanPut, Mesh, Setup, begun_mesh}
use Rattle.mesh_model.specs.Net.Inputs.{all_given, given_to}
use Rattle.mesh_model.specs.Net.Lans.{joins_lan}
use Rattle.mesh_model.specs.Net.Due.{next_happening}
use Rattle.mesh_model.specs.Net.Limits.{nodes_limit, links_limit, lans_limit, clock_limit}
use Rattle.mesh_model.specs.Net.Next.{IsQuiet}
use Rattle.mesh_model.specs.Net.Runs.{after_happening, delivered}
use Rattle.mesh_model.specs.Net.Sending.{with_put}
use Rattle.mesh_model.specs.Scenario.LinkOptions.{least_delay, delay_limit}
use Rattle.mesh_model.specs.Run.Steps.{new_node}
use Rattle.mesh_laws.specs.GatewayLaws.{CanJoin}
use Rattle.mesh_post.specs.Joining.{with_node, with_link}

-- a link that may join: it leads from one node to another, with a delay of a link line
pub record IsNewLink (mesh : Mesh) (link : NetLink) : Type 0 where
  pub from : link.from < length mesh.nodes
  pub to : link.to < length mesh.nodes
  pub least : least_delay ≤ link.delay
  pub most : link.delay ≤ delay_limit

-- nodes that may be the gateways of a LAN that joins: there is one, they rise, stand, and are
-- none yet
pub record IsNewLan (mesh : Mesh) (gateways : List ℕ) : Type 0 where
  pub some : 0 < length gateways
  pub can : CanJoin mesh gateways

-- a line gives a node this where it stands: all but that it becomes a gateway
abbrev pub LeavesPlace : LineGiven → Type 0
LeavesPlace (Attach lan gateways) = ⊥
LeavesPlace (Frame src dst vid text) = Unit
LeavesPlace (Gone key) = Unit
LeavesPlace (Join key) = Unit
LeavesPlace (Leave key) = Unit
LeavesPlace (Arp mac own_ip asked_ip vid) = Unit
LeavesPlace (Dhcp key text) = Unit
LeavesPlace (Sets setting) = Unit
LeavesPlace (Put type_no version text) = Unit
LeavesPlace (Get type_no) = Unit
LeavesPlace (Ping target) = Unit
LeavesPlace (Trace target) = Unit
LeavesPlace Reboot = Unit

-- what a line of a scenario gives a node, where it stands
abbrev pub IsOfLine : Given → Type 0
IsOfLine (Tick index) = ⊥
IsOfLine (LinkFrame number from throughput bytes) = ⊥
IsOfLine (LanFrame bytes) = ⊥
IsOfLine (Line line) = LeavesPlace line

-- what is watched at the begin, by whether routes are watched: nothing was told yet
abbrev pub begun_watch : Bool → Option (List RouteLine)
begun_watch true = Some []
begun_watch false = None

-- a mesh that is reached, with the clock
pub data IsReached (setup : Setup) : ℕ → Mesh → Type 0 where
  begins : (watched : Bool) → IsReached setup 0 (begun_mesh (begun_watch watched))
  joins : (clock : ℕ) (mesh : Mesh) (name : List ℕ) (mac : Mac) → IsReached setup clock mesh
      → length mesh.nodes < nodes_limit
      → IsReached setup clock (with_node (new_node name mac clock) mesh)
  links : (clock : ℕ) (mesh : Mesh) (link : NetLink) → IsReached setup clock mesh
      → length mesh.links < links_limit → IsNewLink mesh link
      → IsReached setup clock (with_link link mesh)
  lan_joins : (clock : ℕ) (mesh after : Mesh) (name gateways : List ℕ)
      → IsReached setup clock mesh → length mesh.lans < lans_limit → IsNewLan mesh gateways
      → joins_lan setup name gateways clock mesh ≡ Ok after → IsReached setup clock after
  lan_comes : (clock : ℕ) (mesh after : Mesh) (put : LanPut) → IsReached setup clock mesh
      → put.by ≡ None → put.moment ≡ clock → put.lan < length mesh.lans
      → with_put setup put mesh ≡ Ok after → IsReached setup clock after
  all_are_given : (clock : ℕ) (mesh after : Mesh) (places : List ℕ) (line : LineGiven)
      → IsReached setup clock mesh → LeavesPlace line
      → all_given setup places clock (Line line) mesh ≡ Ok after → IsReached setup clock after
  is_given : (clock : ℕ) (mesh after : Mesh) (place : ℕ) (given : Given)
      → IsReached setup clock mesh → IsOfLine given
      → given_to setup place clock 0 given mesh ≡ Ok after → IsReached setup clock after
  is_delivered : (clock : ℕ) (mesh after : Mesh) (place : ℕ) → IsReached setup clock mesh
      → delivered setup place clock mesh ≡ Ok after → IsReached setup clock after
  happens : (clock : ℕ) (mesh after : Mesh) (h : Happening) → IsReached setup clock mesh
      → next_happening mesh ≡ Some h → clock ≤ h.moment → h.moment ≤ clock_limit
      → after_happening setup h mesh ≡ Ok after → IsReached setup h.moment after
  passes : (clock later : ℕ) (mesh : Mesh) → IsReached setup clock mesh
      → clock ≤ later → later ≤ clock_limit → IsQuiet later mesh
      → IsReached setup later mesh
