-- What a node asks its routing algorithm. Each question is answered from the algorithm's log alone.
-- The main word is `Queries`.
use Rattle.std.specs.Prelude.{ℕ, Bool, true, false, List, Option, None}
use Rattle.mesh_base.specs.declared.address.Mac.{Mac}
use Rattle.mesh_model.specs.declared.packet.Head.{Head}
use Rattle.mesh_model.specs.declared.packet.Head.TheVariants.{IvOgm, Bcast, Elp, Ogm2, Unicast, Frag, Unicast4, Icmp, Utvlv}
use Rattle.mesh_model.specs.declared.route.Beats.{Beats}
use Rattle.mesh_model.specs.declared.route.Hearing.{Hearing}
use Rattle.mesh_model.specs.declared.route.LinkRow.{LinkRow}
use Rattle.mesh_model.specs.declared.route.OrigRow.{OrigRow}
use Rattle.mesh_model.specs.Routes.RouteLog.{RouteLog}

-- the questions, each over the log so far
pub record Queries : Type 0 where
  -- what is sent at a tick of an index right after the log
  pub beats : RouteLog → (index : ℕ) → Beats
  -- what is made of a head that comes right after the log
  pub hear : RouteLog → (moment : ℕ) → (from : Mac) → (throughput : ℕ) → Head → Hearing
  -- an originator's metric at a moment, 0 without a route
  pub metric : RouteLog → (moment : ℕ) → (orig : Mac) → ℕ
  -- the best neighbour to an originator at a moment
  pub route : RouteLog → (moment : ℕ) → (orig : Mac) → Option Mac
  -- whether an originator is live at a moment
  pub live : RouteLog → (moment : ℕ) → (orig : Mac) → Bool
  -- the live originators at a moment, in the order of their addresses
  pub originators : RouteLog → (moment : ℕ) → List OrigRow
  -- the neighbours at a moment, in the order of their addresses
  pub neighbours : RouteLog → (moment : ℕ) → List LinkRow

-- what is made of a head that isn't heard: nothing
abbrev pub unheard : Hearing
unheard = record { accepted = false; began = false; forward = None }

-- whether a head is that of an originator message, of either algorithm
abbrev pub is_ogm : Head → Bool
is_ogm (IvOgm ttl flags seq orig prev tq) = true
is_ogm (Bcast ttl seq orig) = false
is_ogm (Elp orig seq interval) = false
is_ogm (Ogm2 ttl flags seq orig throughput) = true
is_ogm (Unicast ttl ttvn dst) = false
is_ogm (Frag ttl number priority dst orig seq total) = false
is_ogm (Unicast4 ttl ttvn dst src subtype) = false
is_ogm (Icmp ttl msg dst orig uid seq) = false
is_ogm (Utvlv ttl dst src) = false

-- whether a head is that of an ELP, by which a neighbour says that it is there
abbrev pub is_elp : Head → Bool
is_elp (IvOgm ttl flags seq orig prev tq) = false
is_elp (Bcast ttl seq orig) = false
is_elp (Elp orig seq interval) = true
is_elp (Ogm2 ttl flags seq orig throughput) = false
is_elp (Unicast ttl ttvn dst) = false
is_elp (Frag ttl number priority dst orig seq total) = false
is_elp (Unicast4 ttl ttvn dst src subtype) = false
is_elp (Icmp ttl msg dst orig uid seq) = false
is_elp (Utvlv ttl dst src) = false
