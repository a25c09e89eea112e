-- Events at two nodes, A and B, and on a LAN, L. The main words are `two_names` and `first_to_b`.
use Rattle.std.specs.Prelude.{ℕ, Bool, List, [], ◌∷◌, codes, Option}
use Rattle.mesh_base.specs.declared.event.Event.{Event}
use Rattle.mesh_base.specs.declared.event.Event.TheVariants.{FrameSent, Received, LanSent, Bridged, Lost}
use Rattle.mesh_base.specs.declared.event.LossReason.TheVariants.{Unknown}
use Rattle.mesh_base.specs.declared.event.Reason.{Reason}
use Rattle.mesh_base.specs.Names.{NamesGiven}
use Rattle.mesh_model.specs.Packets.LanFrames.{claim_spelling}
use Rattle.mesh_rows.specs.CallRows.{client}
use Rattle.mesh_rows.specs.RouteRows.{mac_a, mac_b}

-- the names of both, and of the LAN
abbrev pub two_names : NamesGiven
two_names = record {
  nodes = record { mac = mac_a; name = codes "A" } ∷ record { mac = mac_b; name = codes "B" } ∷ [];
  lans = codes "L" ∷ [];
}

-- the first frame, from A to B, with these bytes
abbrev pub first_to_b : Option Reason → List ℕ → Event
first_to_b reason bytes = FrameSent 1 1000 mac_a mac_b reason bytes

-- a frame from client 2 to client 1 reaches the clients of B
abbrev pub received_at_b : Event
received_at_b = Received 5501 mac_b (record { 0 = 0 }) (client 2).mac (client 1).mac (codes "hi")

-- a frame from client 1 to client 9 is lost at A
abbrev pub lost_at_a : Event
lost_at_a = Lost 0 mac_a (record { 0 = 32775 }) (client 1).mac (client 9).mac Unknown

-- A claims client 1 on the LAN, or for `claim` false gives it up, by the second LAN frame
abbrev pub claimed_by_a : Bool → Event
claimed_by_a claim = LanSent 2 0 1 (claim_spelling claim 1 mac_a (client 1))

-- a frame from client 2 to client 1 reaches the LAN
abbrev pub reached_the_lan : Event
reached_the_lan =
    Bridged 5 1 (record { 0 = 0 }) (client 2).mac (client 1).mac (codes "hi")
