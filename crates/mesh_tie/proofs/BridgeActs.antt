-- What the rows of a gateway put: frames on its LAN. What comes from the mesh is handed out at a node
-- that is no gateway.
use Rattle.std.proofs.Common.{ℕ, Bool, true, false, cond, List, [], ◌∷◌, Option, Some, None}
use Rattle.std.specs.List.{AllByRecursion}
use Rattle.mesh_base.specs.declared.address.Mac.{Mac}
use Rattle.mesh_base.specs.declared.client.Key.{Key}
use Rattle.mesh_model.specs.declared.act.Act.{Act}
use Rattle.mesh_model.specs.declared.act.Act.TheVariants.{Lan}
use Rattle.mesh_model.specs.declared.claim.Spread.{Spread}
use Rattle.mesh_model.specs.Acts.BridgeRows.{Place, bridged_acts, claim_acts, handed_out, holding_acts, holds, out_acts, out_by, round_acts, unclaim_acts, unclaim_by}
use Rattle.mesh_model.specs.Acts.Choosing.{claimed_first, claiming_acts}
use Rattle.mesh_model.specs.Routes.RouteLog.{is_round}
use Rattle.mesh_model.specs.Bridges.Claims.{ClaimCalls, claims_of}
use Rattle.mesh_model.specs.Bridges.Verdicts.{verdict_from_lan, verdict_from_mesh}
use Rattle.mesh_model.specs.Clients.Lans.{Bridge, LanOf}
use Rattle.mesh_model.specs.Clients.Lans.{bridge as bridge_by}
use Rattle.mesh_model.specs.Clients.Log.{Log}
use Rattle.mesh_model.specs.Clients.Mentions.{key_of}
use Rattle.mesh_model.specs.Packets.LanFrames.{announce_spelling, claim_spelling}
use Rattle.mesh_model.specs.Packets.Payload.{ClientFrame, payload_spelling}
use Rattle.mesh_tie.proofs.EntryLemmas.{each_appended}

-- an act of a gateway, or a client frame that is handed out
pub data IsBridging : Act → Type 0 where
  puts_on_lan : (bytes : List ℕ) → IsBridging (Lan bytes)
  hands_out : (at : Place) (frame : ClientFrame) → IsBridging (handed_out at frame)

abbrev pub AreBridging : List Act → Type 0
AreBridging acts = AllByRecursion IsBridging acts

claim_puts : (at : Place) (lan : LanOf) (key : Key) (claim : Bool) → AreBridging (claim_acts at lan key claim)
claim_puts at lan key true = (puts_on_lan (claim_spelling true lan.number at.me key), tt)
claim_puts at lan key false = tt

bridged_puts : (frame : ClientFrame) (pass : Bool) → AreBridging (bridged_acts frame pass)
bridged_puts frame true = (puts_on_lan (payload_spelling frame), tt)
bridged_puts frame false = tt

out_by_puts : (at : Place) (spread : Spread) (frame : ClientFrame) (claims : ClaimCalls) (o : Option LanOf) → AreBridging (out_by at spread frame claims o)
out_by_puts at spread frame claims None = (hands_out at frame, tt)
out_by_puts at spread frame claims (Some lan) =
    let key = key_of frame.src frame.vid in
    let verdict = verdict_from_mesh at.me claims at.now key spread in
    each_appended IsBridging (claim_acts at lan key verdict.claim) (bridged_acts frame verdict.pass) (claim_puts at lan key verdict.claim) (bridged_puts frame verdict.pass)

pub out_puts : (bridge : Bridge) (at : Place) (spread : Spread) (frame : ClientFrame) → AreBridging (out_acts bridge at spread frame)
out_puts bridge at spread frame = out_by_puts at spread frame bridge.claims bridge.lan

unclaim_by_puts : (at : Place) (bridge : Bridge) (key : Key) (o : Option LanOf) → AreBridging (unclaim_by at bridge key o)
unclaim_by_puts at bridge key None = tt
unclaim_by_puts at bridge key (Some lan) = go (holds at bridge key)
  where
    go : (b : Bool) → AreBridging (cond b (Lan (claim_spelling false lan.number at.me key) ∷ []) [])
    go true = (puts_on_lan (claim_spelling false lan.number at.me key), tt)
    go false = tt

pub unclaim_puts : (at : Place) (bridge : Bridge) (o : Option Key) → AreBridging (unclaim_acts at bridge o)
unclaim_puts at bridge None = tt
unclaim_puts at bridge (Some key) = unclaim_by_puts at bridge key bridge.lan

pub round_puts : (at : Place) (bridge : Bridge) (index : ℕ) → AreBridging (round_acts at bridge index)
round_puts at bridge index = go (is_round index)
  where
    tells : (o : Option LanOf) → AreBridging (holding_acts at bridge.claims o)
    tells None = tt
    tells (Some lan) = (puts_on_lan (announce_spelling lan.number at.me (claims_of at.me bridge.claims at.now)), tt)

    go : (b : Bool) → AreBridging (cond b (holding_acts at bridge.claims bridge.lan) [])
    go true = tells bridge.lan
    go false = tt

claiming_puts : (me : Mac) (log : Log) (now : ℕ) (frame : ClientFrame) (o : Option LanOf) → AreBridging (claiming_acts me log now frame o)
claiming_puts me log now frame None = tt
claiming_puts me log now frame (Some lan) =
    let key = key_of frame.src frame.vid in
    claim_puts (record { me = me; now = now }) lan key (verdict_from_lan me (bridge_by log).claims now key).claim

pub claimed_puts : (me : Mac) (log : Log) (now : ℕ) (o : Option ClientFrame) → AreBridging (claimed_first me log now o)
claimed_puts me log now None = tt
claimed_puts me log now (Some frame) = claiming_puts me log now frame (bridge_by log).lan
