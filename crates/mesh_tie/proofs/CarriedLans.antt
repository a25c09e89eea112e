-- What a gateway puts on its LAN carries payloads that came.
use Rattle.std.proofs.Common.{◌≡◌, inr, ◌==◌, slice_index, drop, ℕ, Bool, true, false, cond, List, [], ◌∷◌, ◌++◌, Option, Some, None, refl, sym, ap, subst, ◌∙◌, arith}
use Rattle.byteorder.specs.Endian.{big_bytes}
use Rattle.mesh_base.specs.declared.address.Mac.{Mac}
use Rattle.mesh_base.specs.declared.client.Key.{Key}
use Rattle.mesh_model.specs.declared.act.Act.TheVariants.{Lan}
use Rattle.mesh_model.specs.declared.claim.Spread.{Spread}
use Rattle.mesh_model.specs.Acts.BridgeRows.{Place, bridged_acts, claim_acts, holding_acts, holds, out_acts, out_by, round_acts, unclaim_acts, unclaim_by}
use Rattle.mesh_model.specs.Acts.Choosing.{claimed_first, claiming_acts}
use Rattle.mesh_model.specs.Bridges.Claims.{claims_of}
use Rattle.mesh_model.specs.Bridges.Verdicts.{verdict_from_lan, verdict_from_mesh}
use Rattle.mesh_model.specs.Clients.Lans.{Bridge, LanOf}
use Rattle.mesh_model.specs.Clients.Lans.{bridge as bridge_by}
use Rattle.mesh_model.specs.Clients.Log.{Log}
use Rattle.mesh_model.specs.Clients.Mentions.{key_of}
use Rattle.mesh_model.specs.Packets.Bodies.{key_of_bytes}
use Rattle.mesh_model.specs.Packets.BodySpellings.{key_spelling}
use Rattle.mesh_model.specs.Packets.Ethernet.{address_in}
use Rattle.mesh_model.specs.Packets.Numbers.{claim_ethertype}
use Rattle.mesh_model.specs.Packets.LanFrames.{Claims, Nothing, announce_spelling, carried_by, claim_in, claim_spelling, client_frame_in, gateway_front, is_claiming, is_of_gateway, lan_message_of}
use Rattle.mesh_model.specs.Packets.Payload.{ClientFrame, client_frame_of}
use Rattle.mesh_model.specs.Routes.RouteLog.{is_round}
use Rattle.mesh_tie.specs.Sources.{IsWhole}
use Rattle.mesh_tie.proofs.CarriedHeads.{ActHas, ActsHave, Kept, handed_has}
use Rattle.mesh_tie.proofs.EntryLemmas.{each_appended}
use Rattle.mesh_tie.proofs.EtherReading.{type_begins}
use Rattle.mesh_tie.proofs.HeadLemmas.{mac6, six}

-- ---- frames of gateways
-- a frame by which gateways agree is no client frame
claim_none : (bytes : List ℕ) (b : Bool) → client_frame_in (cond b (Claims (slice_index bytes 3 == 0) (address_in 6 bytes) (key_of_bytes (drop 14 bytes))) Nothing) ≡ None
claim_none bytes true = refl
claim_none bytes false = refl

gateway_none : (kind lan a b c d e f : ℕ) (rest : List ℕ) → client_frame_in (lan_message_of (gateway_front kind lan (mac6 a b c d e f) ++ rest)) ≡ None
unfolding lan_message_of
gateway_none kind lan a b c d e f rest =
    let bytes = gateway_front kind lan (mac6 a b c d e f) ++ rest in
    let is : is_of_gateway bytes ≡ true = type_begins claim_ethertype claim_ethertype rest (omega arith) in
    ap (λ t. client_frame_in (cond t (claim_in bytes) (carried_by (client_frame_of bytes)))) is ∙ claim_none bytes (is_claiming bytes)

front_none : (kind lan : ℕ) (me : Mac) (rest : List ℕ) → IsWhole me → client_frame_in (lan_message_of (gateway_front kind lan me ++ rest)) ≡ None
front_none kind lan me rest whole =
    let m = six me whole in
    subst (λ (x : Mac). client_frame_in (lan_message_of (gateway_front kind lan x ++ rest)) ≡ None) (sym m.is) (gateway_none kind lan m.a m.b m.c m.d m.e m.f rest)

none_has : (P : Kept) (bytes : List ℕ) → client_frame_in (lan_message_of bytes) ≡ None → ActHas P (Lan bytes)
none_has P bytes none frame is = let both : ◌≡◌ {A = Option ClientFrame} None (Some frame) = sym none ∙ is in absurd cc

claim_has : (P : Kept) (at : Place) (lan : LanOf) (key : Key) (claim : Bool) → IsWhole at.me → ActsHave P (claim_acts at lan key claim)
claim_has P at lan key true whole = (none_has P (claim_spelling true lan.number at.me key) (front_none 0 lan.number at.me (key_spelling key) whole), tt)
claim_has P at lan key false whole = tt

pub unclaim_has : (P : Kept) (at : Place) (bridge : Bridge) (o : Option Key) → IsWhole at.me → ActsHave P (unclaim_acts at bridge o)
unclaim_has P at bridge None whole = tt
unclaim_has P at bridge (Some key) whole = go bridge.lan
  where
    by : (lan : LanOf) (b : Bool) → ActsHave P (cond b (Lan (claim_spelling false lan.number at.me key) ∷ []) [])
    by lan true = (none_has P (claim_spelling false lan.number at.me key) (front_none 1 lan.number at.me (key_spelling key) whole), tt)
    by lan false = tt

    go : (o : Option LanOf) → ActsHave P (unclaim_by at bridge key o)
    go None = tt
    go (Some lan) = by lan (holds at bridge key)

pub round_has : (P : Kept) (at : Place) (bridge : Bridge) (index : ℕ) → IsWhole at.me → ActsHave P (round_acts at bridge index)
round_has P at bridge index whole = go (is_round index)
  where
    tells : (o : Option LanOf) → ActsHave P (holding_acts at bridge.claims o)
    tells None = tt
    tells (Some lan) =
        let count = claims_of at.me bridge.claims at.now in
        (none_has P (announce_spelling lan.number at.me count) (front_none 2 lan.number at.me (big_bytes 4 count) whole), tt)

    go : (b : Bool) → ActsHave P (cond b (holding_acts at bridge.claims bridge.lan) [])
    go true = tells bridge.lan
    go false = tt

pub claimed_has : (P : Kept) (me : Mac) (log : Log) (now : ℕ) (o : Option ClientFrame) → IsWhole me → ActsHave P (claimed_first me log now o)
claimed_has P me log now None whole = tt
claimed_has P me log now (Some frame) whole = go (bridge_by log).lan
  where
    go : (o : Option LanOf) → ActsHave P (claiming_acts me log now frame o)
    go None = tt
    go (Some lan) =
        let key = key_of frame.src frame.vid in
        claim_has P (record { me = me; now = now }) lan key (verdict_from_lan me (bridge_by log).claims now key).claim whole

-- ---- client frames
-- a client frame that is read of a payload that came goes out to the clients of a node
pub out_has : (P : Kept) (bridge : Bridge) (at : Place) (spread : Spread) (frame : ClientFrame) (payload : List ℕ) → IsWhole at.me → P.carried payload → client_frame_of payload ≡ Some frame → ActsHave P (out_acts bridge at spread frame)
out_has P bridge at spread frame payload whole p is = go bridge.lan
  where
    key : Key
    key = key_of frame.src frame.vid

    passed : (b : Bool) → ActsHave P (bridged_acts frame b)
    passed true = ((λ other e. P.read_on payload frame p is), tt)
    passed false = tt

    go : (o : Option LanOf) → ActsHave P (out_by at spread frame bridge.claims o)
    go None = (handed_has P at frame (inr (payload, p, is)), tt)
    go (Some lan) =
        let verdict = verdict_from_mesh at.me bridge.claims at.now key spread in
        each_appended (ActHas P) (claim_acts at lan key verdict.claim) (bridged_acts frame verdict.pass) (claim_has P at lan key verdict.claim whole) (passed verdict.pass)
