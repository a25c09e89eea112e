-- The rows of a gateway on its LAN: claims and unclaims, client frames from the mesh, and at every
-- twentieth tick how many claims it holds. What comes from the mesh for the clients of a node is
-- handed out at one that is no gateway; at a gateway its verdict decides what goes on the LAN. The
-- main words are `out_acts`, `unclaim_acts` and `round_acts`.
use Rattle.std.specs.Prelude.{ℕ, Bool, true, false, List, [], ◌∷◌, ◌++◌, Option, Some, None, if◌then◌else◌}
use Rattle.std.specs.List.{list_any}
use Rattle.std.specs.Option.{option_map_or}
use Rattle.mesh_base.specs.Address.{is_group}
use Rattle.mesh_base.specs.declared.address.Mac.{Mac}
use Rattle.mesh_base.specs.declared.client.Key.{Key}
use Rattle.mesh_base.specs.declared.event.Event.TheVariants.{Received}
use Rattle.mesh_model.specs.declared.act.Act.{Act}
use Rattle.mesh_model.specs.declared.act.Act.TheVariants.{Lan, Print}
use Rattle.mesh_model.specs.declared.claim.Spread.{Spread}
use Rattle.mesh_model.specs.declared.claim.Spread.TheVariants.{Unicast, Flood, SameLan}
use Rattle.mesh_model.specs.declared.claim.Verdict.{Verdict}
use Rattle.mesh_model.specs.Bridges.Claims.{ClaimCalls, claim_holder, claims_of}
use Rattle.mesh_model.specs.Bridges.Verdicts.{verdict_from_mesh}
use Rattle.mesh_model.specs.Clients.Lans.{Bridge, LanOf}
use Rattle.mesh_model.specs.Clients.Mentions.{key_of}
use Rattle.mesh_model.specs.Packets.LanFrames.{announce_spelling, claim_spelling}
use Rattle.mesh_model.specs.Packets.Payload.{ClientFrame, payload_spelling}
use Rattle.mesh_model.specs.Routes.Addresses.{same_mac}
use Rattle.mesh_model.specs.Routes.RouteLog.{is_round}

-- where and when something is at a node
pub record Place : Type 0 where
  pub me : Mac
  pub now : ℕ

-- a client frame reaches the clients of a node
abbrev pub handed_out : Place → ClientFrame → Act
handed_out at frame = Print (Received at.now at.me frame.vid frame.src frame.dst frame.text)

-- a claim of a key, where one is made
abbrev pub claim_acts : Place → LanOf → Key → Bool → List Act
claim_acts at lan key claim =
    if claim then Lan (claim_spelling true lan.number at.me key) ∷ [] else []

-- a client frame on the LAN, where it is passed
abbrev pub bridged_acts : ClientFrame → Bool → List Act
bridged_acts frame pass = if pass then Lan (payload_spelling frame) ∷ [] else []

-- what a gateway puts on its LAN of a client frame from the mesh, by this verdict
abbrev pub verdict_acts : Place → LanOf → ClientFrame → Verdict → List Act
verdict_acts at lan frame verdict =
    claim_acts at lan (key_of frame.src frame.vid) verdict.claim ++ bridged_acts frame verdict.pass

-- a client frame that came from the mesh for the clients of a node
abbrev pub out_by : Place → Spread → ClientFrame → ClaimCalls → Option LanOf → List Act
out_by at spread frame claims None = handed_out at frame ∷ []
out_by at spread frame claims (Some lan) = verdict_acts at lan frame
    (verdict_from_mesh at.me claims at.now (key_of frame.src frame.vid) spread)

-- the same by the node as a gateway
abbrev pub out_acts : Bridge → Place → Spread → ClientFrame → List Act
out_acts bridge at spread frame = out_by at spread frame bridge.claims bridge.lan

-- whether a node is a gateway of a LAN, where there is one
abbrev pub is_beside : Option LanOf → Mac → Bool
is_beside None mac = false
is_beside (Some lan) mac = list_any (same_mac mac) lan.gateways

-- how far a frame goes that came by a broadcast of an originator
abbrev pub spread_of_broadcast : Bridge → Mac → ClientFrame → Spread
spread_of_broadcast bridge orig frame =
    if is_group frame.dst then (if is_beside bridge.lan orig then SameLan else Flood) else Unicast

-- how far a frame goes that came by a packet for the node
abbrev pub spread_of_packet : ClientFrame → Spread
spread_of_packet frame = if is_group frame.dst then Flood else Unicast

-- ---- other frames of a gateway

-- whether a gateway holds a key
abbrev pub holds : Place → Bridge → Key → Bool
holds at bridge key = option_map_or (λ holder. same_mac holder at.me)
    (claim_holder bridge.claims at.now key) false

-- an unclaim of a client that roamed away from a gateway that holds it
abbrev pub unclaim_by : Place → Bridge → Key → Option LanOf → List Act
unclaim_by at bridge key None = []
unclaim_by at bridge key (Some lan) =
    if holds at bridge key then Lan (claim_spelling false lan.number at.me key) ∷ [] else []

-- the same, where a client roamed away
abbrev pub unclaim_acts : Place → Bridge → Option Key → List Act
unclaim_acts at bridge None = []
unclaim_acts at bridge (Some key) = unclaim_by at bridge key bridge.lan

-- a gateway tells on its LAN how many claims it holds
abbrev pub holding_acts : Place → ClaimCalls → Option LanOf → List Act
holding_acts at claims None = []
holding_acts at claims (Some lan) =
    Lan (announce_spelling lan.number at.me (claims_of at.me claims at.now)) ∷ []

-- the same at the tick of an index
abbrev pub round_acts : Place → Bridge → ℕ → List Act
round_acts at bridge index =
    if is_round index then holding_acts at bridge.claims bridge.lan else []
