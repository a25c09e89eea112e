-- What lines do to LANs, and what a gateway puts on its LAN.
use Rattle.std.proofs.Common.{◌≡◌, ℕ, zero, suc, ◌-◌, ◌<◌, ◌&&◌, if◌then◌else◌, option_map, append_assoc, ◌⊎◌, inl, inr, Bool, true, false, List, [], ◌∷◌, ◌++◌, length, drop, Option, Some, None, Ok, refl, sym, ap, ◌∙◌, arith}
use Rattle.std.proofs.lemmas.Bool.{le-leb, true≢false}
use Rattle.mesh_base.specs.declared.address.Mac.{Mac}
use Rattle.byteorder.specs.Endian.{big_bytes}
use Rattle.mesh_base.specs.declared.client.Key.{Key}
use Rattle.mesh_base.specs.declared.event.Event.{Event}
use Rattle.mesh_base.specs.declared.event.Event.TheVariants.{Received}
use Rattle.mesh_model.specs.declared.act.Act.TheVariants.{Lan, Print}
use Rattle.mesh_model.specs.declared.claim.Spread.{Spread}
use Rattle.mesh_model.specs.declared.claim.Spread.TheVariants.{Unicast, Flood, SameLan}
use Rattle.mesh_model.specs.declared.claim.Verdict.{Verdict}
use Rattle.mesh_model.specs.declared.happening.Happening.{Happening}
use Rattle.mesh_model.specs.Acts.BridgeRows.{Place, bridged_acts, claim_acts, out_by}
use Rattle.mesh_model.specs.Bridges.Claims.{ClaimCall, ClaimCalls, claim_holder, standing_claim}
use Rattle.mesh_model.specs.Bridges.Verdicts.{Ours, Anothers, by_spread, hold_by, verdict_from_mesh}
use Rattle.mesh_model.specs.Clients.Lans.{LanOf}
use Rattle.mesh_model.specs.Clients.Mentions.{key_of}
use Rattle.mesh_model.specs.Net.Lans.{joins_lan, with_lan}
use Rattle.mesh_model.specs.Net.Mesh.{NetLan, Mesh, Setup}
use Rattle.mesh_model.specs.Net.Next.{Has, Happens}
use Rattle.mesh_model.specs.Packets.BodySpellings.{key_spelling}
use Rattle.mesh_model.specs.Packets.Ethernet.{begin_type}
use Rattle.mesh_model.specs.Packets.LanFrames.{claim_spelling, is_of_gateway}
use Rattle.mesh_model.specs.Packets.Numbers.{claim_ethertype}
use Rattle.mesh_model.specs.Packets.Payload.{ClientFrame}
use Rattle.mesh_model.specs.Routes.Addresses.{same_mac}
use Rattle.mesh_laws.specs.LanLaws.{AddsLater, GoesToGroup, PutsAsHolder}
use Rattle.mesh_laws.specs.Soundness.{FitsPlaces, IsSound, KeepsBytes}
use Rattle.mesh_laws.proofs.MacLemmas.{same_exact}
use Rattle.mesh_laws.proofs.Schedule.Added.{added, lan_sound}
use Rattle.mesh_laws.proofs.Schedule.Kept.{bytes_after}
use Rattle.mesh_laws.proofs.Schedule.Members.{has_either}
use Rattle.mesh_laws.proofs.Schedule.Sound.{lines_keep_sound}
use Rattle.mesh_laws.proofs.Schedule.Steps.{Effect, lan_joins, no_ticks}
use Rattle.mesh_laws.proofs.Schedule.ToCome.{lans_add_nothing, lans_stay, stays_to_come}

-- ---- lines

-- what an input without ticks leaves takes nothing away, and adds what comes later
pub effect_later : (setup : Setup) (now : ℕ) (mesh after : Mesh) (x : Happening) → IsSound mesh → Effect setup no_ticks now mesh after → AddsLater now mesh after x
effect_later setup now mesh after x sound effect =
    (stays_to_come setup no_ticks now mesh after x effect.nodes effect.count effect.adds, added setup no_ticks now mesh after x sound effect.nodes effect.adds)

pub effect_bytes : (setup : Setup) (now : ℕ) (mesh after : Mesh) → KeepsBytes mesh → Effect setup no_ticks now mesh after → KeepsBytes after
effect_bytes setup now mesh after kept effect = bytes_after setup no_ticks now mesh after kept effect.nodes effect.adds

pub joined_sound : (setup : Setup) (name gateways : List ℕ) (now : ℕ) (mesh after : Mesh) → FitsPlaces setup → IsSound mesh → joins_lan setup name gateways now mesh ≡ Ok after → IsSound after
joined_sound setup name gateways now mesh after fits sound e =
    let lan : NetLan = record { name = name; gateways = gateways } in
    lines_keep_sound setup (with_lan lan mesh) now after fits (lan_sound mesh lan sound) (lan_joins setup name gateways now mesh after e)

pub joined_later : (setup : Setup) (name gateways : List ℕ) (now : ℕ) (mesh after : Mesh) (x : Happening) → IsSound mesh → joins_lan setup name gateways now mesh ≡ Ok after → AddsLater now mesh after x
joined_later setup name gateways now mesh after x sound e = (λ happens. (later.0) (lans_stay mesh lan x happens), λ happens. either ((later.1) happens))
  where
    lan : NetLan
    lan = record { name = name; gateways = gateways }

    later : AddsLater now (with_lan lan mesh) after x
    later = effect_later setup now (with_lan lan mesh) after x (lan_sound mesh lan sound) (lan_joins setup name gateways now mesh after e)

    either : Happens (with_lan lan mesh) x ⊎ (now < x.moment) → Happens mesh x ⊎ (now < x.moment)
    either (inl old) = inl (lans_add_nothing mesh lan x old)
    either (inr l) = inr l

pub joined_bytes : (setup : Setup) (name gateways : List ℕ) (now : ℕ) (mesh after : Mesh) → KeepsBytes mesh → joins_lan setup name gateways now mesh ≡ Ok after → KeepsBytes after
joined_bytes setup name gateways now mesh after kept e =
    effect_bytes setup now (with_lan (record { name = name; gateways = gateways }) mesh) after kept (lan_joins setup name gateways now mesh after e)

-- ---- frames to a group

-- a verdict that passes such a frame is the holder's
pass_of : (me : Mac) (now : ℕ) (spread : Spread) (o : Option ClaimCall) → GoesToGroup spread → (by_spread spread (hold_by me now o)).pass ≡ true → (call : ClaimCall) × (o ≡ Some call) × (call.sender ≡ me)
pass_of me now Unicast o group p = absurd group
pass_of me now SameLan o group p = absurd (true≢false (sym p))
pass_of me now Flood None group p = absurd (true≢false (sym p))
pass_of me now Flood (Some call) group p = ours (same_mac call.sender me) refl p
  where
    ours : (b : Bool) → same_mac call.sender me ≡ b → (by_spread Flood (if b then Ours (now - call.moment) else Anothers)).pass ≡ true → (c : ClaimCall) × (Some call ≡ Some c) × (c.sender ≡ me)
    ours true same q = (call, refl, same_exact call.sender me same)
    ours false same q = absurd (true≢false (sym q))

holder_of : (me : Mac) (calls : ClaimCalls) (now : ℕ) (key : Key) (spread : Spread) → GoesToGroup spread → (verdict_from_mesh me calls now key spread).pass ≡ true → claim_holder calls now key ≡ Some me
holder_of me calls now key spread group p =
    let f = pass_of me now spread (standing_claim calls now key) group p in
    ap (option_map (λ (call : ClaimCall). call.sender)) f.1 ∙ ap Some f.2

drop_front : (front rest : List ℕ) (n : ℕ) → length front ≡ n → drop n (front ++ rest) ≡ rest
drop_front [] rest zero e = refl
drop_front [] rest (suc n) e = cc
drop_front (x ∷ front) rest zero e = cc
drop_front (x ∷ front) rest (suc n) e = drop_front front rest n (omega (arith, e))

-- a claim is a frame by which gateways agree
claim_of_gateway : (claim : Bool) (lan : ℕ) (me : Mac) (key : Key) → length me.0 ≡ 6 → is_of_gateway (claim_spelling claim lan me key) ≡ true
claim_of_gateway claim lan me key six =
    ap (λ bytes. begin_type claim_ethertype (drop 6 bytes)) (append_assoc me.0 (big_bytes 2 claim_ethertype) (key_spelling key))
    ∙ ap (begin_type claim_ethertype) (drop_front me.0 (big_bytes 2 claim_ethertype ++ key_spelling key) 6 six)
    ∙ ap (λ whole. whole && true) (le-leb 2 (suc (suc (length (key_spelling key)))) (omega arith))

one_lan : (a b : List ℕ) → Lan a ≡ Lan b → a ≡ b
one_lan a b e = cc

no_print : (bytes : List ℕ) (event : Event) → Lan bytes ≡ Print event → ⊥
no_print bytes event e = cc

not_claim : (at : Place) (lan : LanOf) (key : Key) (claim : Bool) (bytes : List ℕ) → length at.me.0 ≡ 6 → is_of_gateway bytes ≡ false → Has (claim_acts at lan key claim) (Lan bytes) → ⊥
not_claim at lan key true bytes six other (inl e) =
    true≢false (sym (claim_of_gateway true lan.number at.me key six) ∙ ap is_of_gateway (sym (one_lan bytes (claim_spelling true lan.number at.me key) e)) ∙ other)
not_claim at lan key true bytes six other (inr h) = absurd h
not_claim at lan key false bytes six other h = absurd h

passes : (frame : ClientFrame) (pass : Bool) (bytes : List ℕ) → Has (bridged_acts frame pass) (Lan bytes) → pass ≡ true
passes frame true bytes h = refl
passes frame false bytes h = absurd h

by_holder : (at : Place) (spread : Spread) (frame : ClientFrame) (calls : ClaimCalls) (o : Option LanOf) (bytes : List ℕ) → length at.me.0 ≡ 6 → GoesToGroup spread → Has (out_by at spread frame calls o) (Lan bytes)
    → is_of_gateway bytes ≡ false → claim_holder calls at.now (key_of frame.src frame.vid) ≡ Some at.me
by_holder at spread frame calls None bytes six group (inl e) other = absurd (no_print bytes (Received at.now at.me frame.vid frame.src frame.dst frame.text) e)
by_holder at spread frame calls None bytes six group (inr h) other = absurd h
by_holder at spread frame calls (Some lan) bytes six group h other = either (has_either (claim_acts at lan key verdict.claim) (bridged_acts frame verdict.pass) (Lan bytes) h)
  where
    key : Key
    key = key_of frame.src frame.vid

    verdict : Verdict
    verdict = verdict_from_mesh at.me calls at.now key spread

    either : Has (claim_acts at lan key verdict.claim) (Lan bytes) ⊎ Has (bridged_acts frame verdict.pass) (Lan bytes) → claim_holder calls at.now key ≡ Some at.me
    either (inl claim) = absurd (not_claim at lan key verdict.claim bytes six other claim)
    either (inr put) = holder_of at.me calls at.now key spread group (passes frame verdict.pass bytes put)

pub puts_as_holder : PutsAsHolder
puts_as_holder bridge at spread frame bytes six group h other = by_holder at spread frame bridge.claims bridge.lan bytes six group h other
