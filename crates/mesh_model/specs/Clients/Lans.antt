-- A node as a gateway of a LAN, by its log: the LAN, since the line that made it, and the claim and
-- unclaim frames that came on it. A node is a gateway of at most one LAN; while it is one, it isn't
-- rebooted. The main word is `bridge`.
use Rattle.std.specs.Prelude.{ℕ, List, [], ◌∷◌, Option, Some, None}
use Rattle.mesh_base.specs.declared.address.Mac.{Mac}
use Rattle.mesh_model.specs.Bridges.Claims.{ClaimCalls}
use Rattle.mesh_model.specs.Clients.Log.{Given, Tick, LinkFrame, LanFrame, Line, LineGiven, Attach, Frame, Gone, Join, Leave, Arp, Dhcp, Sets, Put, Get, Ping, Trace, Reboot, Log}
use Rattle.mesh_model.specs.Packets.LanFrames.{LanMessage, Claims, Carries, Nothing, lan_message_of}

-- the LAN of a gateway: its number, from 1, and the addresses of its gateways
pub record LanOf : Type 0 where
  pub number : ℕ
  pub gateways : List Mac

-- a node's LAN, where it is a gateway, and the claims and unclaims that came on it, newest first
pub record Bridge : Type 0 where
  pub lan : Option LanOf
  pub claims : ClaimCalls

-- a node that is no gateway
abbrev pub no_bridge : Bridge
no_bridge = record { lan = None; claims = [] }

-- the claims after a frame on the LAN
abbrev pub with_claim : ℕ → LanMessage → ClaimCalls → ClaimCalls
with_claim moment (Claims claim sender key) before =
    record { moment = moment; sender = sender; key = key; claim = claim } ∷ before
with_claim moment (Carries frame) before = before
with_claim moment Nothing before = before

-- a node as a gateway after a line, from before it
abbrev pub after_line : LineGiven → Bridge → Bridge
after_line (Attach lan gateways) before =
    record before { lan = Some (record { number = lan; gateways = gateways }) }
after_line (Frame src dst vid text) before = before
after_line (Gone key) before = before
after_line (Join key) before = before
after_line (Leave key) before = before
after_line (Arp mac own_ip asked_ip vid) before = before
after_line (Dhcp key text) before = before
after_line (Sets setting) before = before
after_line (Put type_no version text) before = before
after_line (Get type_no) before = before
after_line (Ping target) before = before
after_line (Trace target) before = before
after_line Reboot before = before

-- the same after an input
abbrev pub next_bridge : Bridge → ℕ → Given → Bridge
next_bridge before moment (Tick index) = before
next_bridge before moment (LinkFrame number from throughput bytes) = before
next_bridge before moment (LanFrame bytes) =
    record before { claims = with_claim moment (lan_message_of bytes) before.claims }
next_bridge before moment (Line line) = after_line line before

-- a node as a gateway by its log
abbrev pub bridge : Log → Bridge
bridge [] = no_bridge
bridge (entry ∷ older) = next_bridge (bridge older) entry.moment entry.given
