-- Laws of gateways and groups: which gateway is chosen among the rows of those that are known, by
-- each policy; and to whom a frame for a group goes. The main words are `ChosenIsAmong` and
-- `GroupGoesToReceivers`.
use Rattle.std.specs.Prelude.{◌≡◌, ◌⊎◌, ◌≤◌, ◌<◌, ℕ, ◌+◌, Bool, true, false, List, [], ◌∷◌, filter, length, Option, Some, None, ⊤}
use Rattle.std.specs.List.Sorted.{IsStrictlySortedBy}
use Rattle.mesh_base.specs.declared.address.Mac.{Mac}
use Rattle.mesh_base.specs.declared.client.Key.{Key}
use Rattle.mesh_base.specs.declared.event.Reason.{Reason}
use Rattle.mesh_base.specs.declared.event.Reason.TheVariants.{Roam, Table, Old, Gw, Mc, Alfred, Fwd}
use Rattle.mesh_model.specs.declared.act.Act.{Act}
use Rattle.mesh_model.specs.declared.act.Act.TheVariants.{Link, Lan, Print}
use Rattle.mesh_model.specs.declared.line_form.Policy.{Policy}
use Rattle.mesh_model.specs.declared.line_form.Policy.TheVariants.{Best, Stable, Late}
use Rattle.mesh_model.specs.declared.packet.Head.TheVariants.{Unicast}
use Rattle.mesh_model.specs.declared.service.GwRow.{GwRow}
use Rattle.mesh_model.specs.Acts.BridgeRows.{Place}
use Rattle.mesh_model.specs.Acts.GroupRows.{group_acts}
use Rattle.mesh_model.specs.Acts.Packing.{sent_to}
use Rattle.mesh_model.specs.Clients.Mentions.{key_of}
use Rattle.mesh_model.specs.Knowledge.Known.{Knowledge}
use Rattle.mesh_model.specs.Knowledge.Offers.{receivers}
use Rattle.mesh_model.specs.Net.Next.{Has}
use Rattle.mesh_model.specs.Packets.Numbers.{first_ttl}
use Rattle.mesh_model.specs.Packets.Payload.{ClientFrame, payload_spelling}
use Rattle.mesh_model.specs.Routes.Addresses.{is_smaller, mac_order}
use Rattle.mesh_model.specs.Routes.Queries.{Queries}
use Rattle.mesh_model.specs.Services.Gateways.{chosen_gateway}
use Rattle.mesh_model.specs.Services.Groups.{most_each}

-- ---- the choice of a gateway

-- a gateway is that of a row of which something holds
pub record IsOfRow (rows : List GwRow) (P : GwRow → Type 0) (gateway : Mac) : Type 0 where
  pub row : GwRow
  pub among : Has rows row
  pub orig_is : row.orig ≡ gateway
  pub holds : P row

-- the chosen gateway is among the rows
abbrev pub ChosenIsAmong : Type 0
ChosenIsAmong = (policy : Policy) (old : Option Mac) (rows : List GwRow) (gateway : Mac) →
    chosen_gateway policy old rows ≡ Some gateway → IsOfRow rows (λ row. ⊤) gateway

-- none is chosen only where there is no row
abbrev pub AnyIsChosen : Type 0
AnyIsChosen = (policy : Policy) (old : Option Mac) (rows : List GwRow) →
    chosen_gateway policy old rows ≡ None → rows ≡ []

-- a row is no better than one: of a smaller metric, or of the same and not of the smaller address
abbrev pub IsNoBetter : GwRow → GwRow → Type 0
IsNoBetter one other = (other.metric < one.metric)
    ⊎ ((other.metric ≡ one.metric) × (is_smaller other.orig one.orig ≡ false))

-- by `best` no row is better than that of the chosen gateway
abbrev pub BestIsGreatest : Type 0
BestIsGreatest = (old : Option Mac) (rows : List GwRow) (gateway : Mac) →
    chosen_gateway Best old rows ≡ Some gateway →
    IsOfRow rows (λ row. (other : GwRow) → Has rows other → IsNoBetter row other) gateway

-- by `late` with a lead above 0 no row's metric has that lead over the chosen gateway's
abbrev pub NoneLeadsTheLate : Type 0
NoneLeadsTheLate = (lead : ℕ) (old : Option Mac) (rows : List GwRow) (gateway : Mac) → 0 < lead →
    chosen_gateway (Late lead) old rows ≡ Some gateway →
    IsOfRow rows (λ row. (other : GwRow) → Has rows other → other.metric < row.metric + lead)
    gateway

-- by `stable` the old choice stays while it is among the rows
abbrev pub StableStays : Type 0
StableStays = (rows : List GwRow) (row : GwRow) → Has rows row →
    chosen_gateway Stable (Some row.orig) rows ≡ Some row.orig

-- ---- the frames of groups

-- the group of a client frame, in its VLAN
abbrev pub group_of : ClientFrame → Key
group_of frame = key_of frame.dst frame.vid

-- whether something is sent for a group
abbrev pub is_for_group : Reason → Bool
is_for_group Roam = false
is_for_group Table = false
is_for_group Old = false
is_for_group Gw = false
is_for_group Mc = true
is_for_group Alfred = false
is_for_group Fwd = false

-- the same of a reason, where there is one
abbrev pub is_any_for_group : Option Reason → Bool
is_any_for_group None = false
is_any_for_group (Some reason) = is_for_group reason

-- whether an act sends something for a group
abbrev pub sends_for_group : Act → Bool
sends_for_group (Link to reason bytes) = is_any_for_group reason
sends_for_group (Lan bytes) = false
sends_for_group (Print event) = false

-- an act sends a client frame to an originator, on its route
pub record GoesTo (q : Queries) (known : Knowledge) (at : Place) (frame : ClientFrame) (act : Act)
    (orig : Mac) : Type 0 where
  pub next : Mac
  pub ttvn : ℕ
  pub route : q.route known.routes at.now orig ≡ Some next
  pub act_is : act
      ≡ sent_to next (Some Mc) (Unicast first_ttl ttvn orig) (payload_spelling frame)

-- acts send it to originators, in their order, each once
abbrev pub GoToEach : Queries → Knowledge → Place → ClientFrame → List Act → List Mac → Type 0
GoToEach q known at frame [] [] = ⊤
GoToEach q known at frame [] (orig ∷ rest) = ⊥
GoToEach q known at frame (act ∷ acts) [] = ⊥
GoToEach q known at frame (act ∷ acts) (orig ∷ rest) =
    GoesTo q known at frame act orig × GoToEach q known at frame acts rest

-- a frame for a group with at most sixteen receivers goes to each of them, and to no other
abbrev pub GroupGoesToReceivers : Type 0
GroupGoesToReceivers = (q : Queries) (known : Knowledge) (at : Place) (frame : ClientFrame)
    (joined : Bool) →
    length (receivers q known at.now (group_of frame)) ≤ most_each →
    GoToEach q known at frame (filter sends_for_group (group_acts q known at frame joined))
    (receivers q known at.now (group_of frame))

-- with more it goes to none of them by a packet of its own
abbrev pub GroupIsFlooded : Type 0
GroupIsFlooded = (q : Queries) (known : Knowledge) (at : Place) (frame : ClientFrame)
    (joined : Bool) →
    most_each < length (receivers q known at.now (group_of frame)) →
    filter sends_for_group (group_acts q known at frame joined) ≡ []

-- receivers stand in the order of their addresses, each once
abbrev pub ReceiversAscend : Type 0
ReceiversAscend = (q : Queries) (known : Knowledge) (now : ℕ) (key : Key) →
    IsStrictlySortedBy mac_order (receivers q known now key)
