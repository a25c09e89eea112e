-- Each payload that is carried is a client frame that a line gave; and the client frame that it is
-- read as is from a client that records can tell.
use Rattle.std.proofs.Common.{◌⊎◌, inl, inr, ◌≡◌, ◌<◌, ◌≤◌, ◌^◌, ◌+◌, ◌-◌, ◌==◌, ℕ, Bool, true, false, cond, nat_lt, List, [], ◌++◌, length, drop, slice_get, Option, Some, None, option_map, refl, sym, ap, ap₂, subst, ◌∙◌, append_assoc, arith}
use Rattle.std.proofs.lemmas.Bool.{eqb-true}
use Rattle.std.proofs.lemmas.Bool.Decides.{nat_tests}
use Rattle.byteorder.specs.Endian.{big_bytes, big_number}
use Rattle.byteorder.specs.Numbers.{big_number-reads_back}
use Rattle.mesh_base.specs.declared.address.Mac.{Mac}
use Rattle.mesh_base.specs.declared.client.Vid.{Vid}
use Rattle.mesh_model.specs.Clients.Log.{Frame}
use Rattle.mesh_model.specs.Clients.Mentions.{key_of}
use Rattle.mesh_model.specs.Net.Mesh.{LanPut, Mesh}
use Rattle.mesh_model.specs.Packets.Ethernet.{EtherFrame, address_in, begin_type, ether_frame_of, frame_behind, frame_by_type, is_vlan, tag_spelling, tagged_frame}
use Rattle.mesh_model.specs.Packets.Numbers.{client_ethertype, vlan_ethertype}
use Rattle.mesh_model.specs.Packets.Payload.{ClientFrame, client_frame, client_frame_of, ether_frame, payload_spelling}
use Rattle.mesh_model.specs.Routes.Queries.{Queries}
use Rattle.mesh_tie.specs.Carried.{CarriesClients, CarriesGivenFrames, HandsOutGivenFrames, IsFromClient, IsGivenFrame, IsKept, IsReadOf, WasGiven, on_lan, to_node}
use Rattle.mesh_tie.specs.Sources.{IsWhole}
use Rattle.mesh_tie.specs.Steps.{IsClient, IsReachable, TellsClient}
use Rattle.mesh_tie.specs.TieLaws.{AllKeep}
use Rattle.mesh_tie.proofs.EtherReading.{dst_whole, read_from, type_begins}
use Rattle.mesh_tie.proofs.CarriedOn.{carried_on, was_given}
use Rattle.mesh_tie.proofs.HeadLemmas.{mac6, six}
use Rattle.mesh_tie.proofs.LanSteps.{BringsClient, lan_read}

-- ---- reading again
src_read : (dst src : Mac) (vid : Vid) (text : List ℕ) → IsWhole dst → IsWhole src → address_in 6 (payload_spelling (record { dst = dst; src = src; vid = vid; text = text })) ≡ src
src_read dst src vid text whole also =
    let d = six dst whole in
    let s = six src also in
    subst (λ (x : Mac). address_in 6 (payload_spelling (record { dst = x; src = src; vid = vid; text = text })) ≡ src) (sym d.is)
    (subst (λ (y : Mac). address_in 6 (payload_spelling (record { dst = mac6 d.a d.b d.c d.d d.e d.f; src = y; vid = vid; text = text })) ≡ y) (sym s.is) refl)

-- what is spelled with whole addresses is read from the client that it was spelled with
from_spelled : (frame found : ClientFrame) → IsClient (key_of frame.src frame.vid) → IsWhole frame.dst → client_frame_of (payload_spelling frame) ≡ Some found → IsClient (key_of found.src found.vid)
from_spelled frame found client whole is =
    let f = read_from (payload_spelling frame) found is in
    subst (λ (m : Mac). IsClient (key_of m found.vid)) (sym (f.src ∙ src_read frame.dst frame.src frame.vid frame.text whole client.fits.address))
    (record { fits = record { address = client.fits.address; vid = f.small }; bytes = client.bytes })

-- what a client frame that was given tells
given_tells : (mesh : Mesh) (frame : ClientFrame) → WasGiven mesh frame → TellsClient (Frame frame.src frame.dst frame.vid frame.text)
given_tells mesh frame (to_node place node entry line found noted is gives tells) = tells
given_tells mesh frame (on_lan place put found by is tells) = tells

clients_kept : (queries : Mac → Queries) → IsKept queries (λ mesh payload. IsFromClient payload)
clients_kept queries = record {
  stays = λ mesh after payload s is. is;
  begun = λ mesh frame was found is. let tells = given_tells mesh frame was in from_spelled frame found tells.0 tells.1 is;
  read_on = λ mesh payload frame p read found is. from_spelled frame found (p frame read) (dst_whole payload frame read) is;
}

pub carries_clients : CarriesClients
carries_clients queries keep mesh r = carried_on queries keep (λ m payload. IsFromClient payload) (clients_kept queries) mesh r

-- so each client frame on a LAN is from a client that records can tell
pub puts_bring : (queries : Mac → Queries) → AllKeep queries → (mesh : Mesh) → IsReachable queries mesh → (place : ℕ) (put : LanPut) → slice_get mesh.puts place ≡ Some put → BringsClient put.bytes
puts_bring queries keep mesh r place put got frame is = (carries_clients queries keep mesh r).puts place put got frame is frame (lan_read put.bytes frame is)

-- ---- what lines gave
-- what follows the addresses of a client frame
after_read : (dst src : Mac) (vid : Vid) (text : List ℕ) → IsWhole dst → IsWhole src → drop 12 (payload_spelling (record { dst = dst; src = src; vid = vid; text = text })) ≡ tag_spelling vid ++ (big_bytes 2 client_ethertype ++ text)
after_read dst src vid text whole also =
    let d = six dst whole in
    let s = six src also in
    subst (λ (x : Mac). drop 12 (payload_spelling (record { dst = x; src = src; vid = vid; text = text })) ≡ tag_spelling vid ++ (big_bytes 2 client_ethertype ++ text)) (sym d.is)
    (subst (λ (y : Mac). drop 12 (payload_spelling (record { dst = mac6 d.a d.b d.c d.d d.e d.f; src = y; vid = vid; text = text })) ≡ tag_spelling vid ++ (big_bytes 2 client_ethertype ++ text)) (sym s.is)
    (append_assoc (tag_spelling vid) (big_bytes 2 client_ethertype) text))

dst_read : (dst src : Mac) (vid : Vid) (text : List ℕ) → IsWhole dst → address_in 0 (payload_spelling (record { dst = dst; src = src; vid = vid; text = text })) ≡ dst
dst_read dst src vid text whole =
    let d = six dst whole in
    subst (λ (x : Mac). address_in 0 (payload_spelling (record { dst = x; src = src; vid = vid; text = text })) ≡ x) (sym d.is) refl

-- a frame that is read is in this VLAN, and the rest is its text
record IsRead (frame : EtherFrame) (tag : Vid) (text : List ℕ) : Type 0 where
  vid : frame.vid ≡ tag
  rest : frame.rest ≡ text

behind_is : (bytes : List ℕ) (vid : Vid) (text : List ℕ) (found : EtherFrame) → frame_behind client_ethertype bytes vid (big_bytes 2 client_ethertype ++ text) ≡ Some found → IsRead found vid text
behind_is bytes vid text found is = go (begin_type client_ethertype (big_bytes 2 client_ethertype ++ text)) is
  where
    one : EtherFrame
    one = record { dst = address_in 0 bytes; src = address_in 6 bytes; vid = vid; rest = text }

    go : (b : Bool) → cond b (Some one) None ≡ Some found → IsRead found vid text
    go true e = let same : one ≡ found = cc in record { vid = ap (λ (f : EtherFrame). f.vid) (sym same); rest = ap (λ (f : EtherFrame). f.rest) (sym same) }
    go false e = cc

untagged_is : (bytes text : List ℕ) (found : EtherFrame) → frame_by_type client_ethertype bytes (big_bytes 2 client_ethertype ++ text) ≡ Some found → IsRead found (record { 0 = 0 }) text
untagged_is bytes text found is =
    let after = big_bytes 2 client_ethertype ++ text in
    let none : begin_type vlan_ethertype after ≡ false = type_begins vlan_ethertype client_ethertype text (omega arith) in
    behind_is bytes (record { 0 = 0 }) text found (ap (λ (b : Bool). cond b (tagged_frame client_ethertype bytes (drop 2 after)) (frame_behind client_ethertype bytes (record { 0 = 0 }) after)) (sym none) ∙ is)

tagged_is : (bytes text : List ℕ) (vid : Vid) (found : EtherFrame) → vid.0 < 2 ^ 16 → frame_by_type client_ethertype bytes ((big_bytes 2 vlan_ethertype ++ big_bytes 2 (vid.0 - 32768)) ++ (big_bytes 2 client_ethertype ++ text)) ≡ Some found → IsRead found vid text
tagged_is bytes text vid found small is =
    let some : begin_type vlan_ethertype (big_bytes 2 vlan_ethertype ++ tail) ≡ true = type_begins vlan_ethertype vlan_ethertype tail (omega arith) in
    by_length (nat_lt (length tail) 2) (ap (λ (b : Bool). cond b (tagged_frame client_ethertype bytes tail) (frame_behind client_ethertype bytes (record { 0 = 0 }) (big_bytes 2 vlan_ethertype ++ tail))) (sym some) ∙ is)
  where
    number : ℕ
    number = vid.0 - 32768

    tail : List ℕ
    tail = big_bytes 2 (vid.0 - 32768) ++ (big_bytes 2 client_ethertype ++ text)

    read : big_number 2 (big_bytes 2 (vid.0 - 32768) ++ (big_bytes 2 client_ethertype ++ text)) ≡ vid.0 - 32768
    read = big_number-reads_back 2 (vid.0 - 32768) (big_bytes 2 client_ethertype ++ text) (omega (arith, small))

    known : Vid
    known = record { 0 = 32768 + big_number 2 (big_bytes 2 (vid.0 - 32768) ++ (big_bytes 2 client_ethertype ++ text)) }

    by_vlan : (b : Bool) → is_vlan (big_number 2 (big_bytes 2 (vid.0 - 32768) ++ (big_bytes 2 client_ethertype ++ text))) ≡ b → cond b (frame_behind client_ethertype bytes known (big_bytes 2 client_ethertype ++ text)) None ≡ Some found → IsRead found vid text
    by_vlan true t e =
        let least : 1 ≤ vid.0 - 32768 = let valid : is_vlan (vid.0 - 32768) ≡ true = ap is_vlan (sym read) ∙ t in grind (arith, nat_tests, valid) in
        let same : 32768 + big_number 2 (big_bytes 2 (vid.0 - 32768) ++ (big_bytes 2 client_ethertype ++ text)) ≡ vid.0 = omega (arith, read, least) in
        let f = behind_is bytes known text found e in
        record { vid = f.vid ∙ ap (λ (n : ℕ). record { 0 = n }) same; rest = f.rest }
    by_vlan false t e = cc

    by_length : (b : Bool) → cond b None (cond (is_vlan (big_number 2 tail)) (frame_behind client_ethertype bytes known (big_bytes 2 client_ethertype ++ text)) None) ≡ Some found → IsRead found vid text
    by_length true e = cc
    by_length false e = by_vlan (is_vlan (big_number 2 tail)) refl e

by_vid : (bytes text : List ℕ) (vid : Vid) (found : EtherFrame) → vid.0 < 2 ^ 16 → frame_by_type client_ethertype bytes (tag_spelling vid ++ (big_bytes 2 client_ethertype ++ text)) ≡ Some found → IsRead found vid text
by_vid bytes text vid found small is = go (vid.0 == 0) refl is
  where
    go : (b : Bool) → (vid.0 == 0) ≡ b → frame_by_type client_ethertype bytes (cond b [] (big_bytes 2 vlan_ethertype ++ big_bytes 2 (vid.0 - 32768)) ++ (big_bytes 2 client_ethertype ++ text)) ≡ Some found → IsRead found vid text
    go true t e = subst (λ (n : ℕ). IsRead found (record { 0 = n }) text) (sym (eqb-true vid.0 0 t)) (untagged_is bytes text found e)
    go false t e = tagged_is bytes text vid found small e

ether_read : (o : Option EtherFrame) (frame : ClientFrame) → option_map client_frame o ≡ Some frame → o ≡ Some (ether_frame frame)
ether_read None frame is = cc
ether_read (Some one) frame is = let same : client_frame one ≡ frame = cc in ap (λ (f : ClientFrame). Some (ether_frame f)) same

long_frame : (b : Bool) (o : Option EtherFrame) (found : EtherFrame) → cond b None o ≡ Some found → o ≡ Some found
long_frame true o found is = cc
long_frame false o found is = is

-- what is spelled by a client that can be told is read as what it was, if it is read
read_again : (frame found : ClientFrame) → TellsClient (Frame frame.src frame.dst frame.vid frame.text) → client_frame_of (payload_spelling frame) ≡ Some found → found ≡ frame
read_again frame found tells is =
    let bytes = payload_spelling frame in
    let src_is : IsWhole frame.src = tells.0.fits.address in
    let f = read_from bytes found is in
    let e = long_frame (nat_lt (length bytes) 12) (frame_by_type client_ethertype bytes (drop 12 bytes)) (ether_frame found) (ether_read (ether_frame_of client_ethertype bytes) found is) in
    let r = by_vid bytes frame.text frame.vid (ether_frame found) tells.0.fits.vid (ap (frame_by_type client_ethertype bytes) (sym (after_read frame.dst frame.src frame.vid frame.text tells.1 src_is)) ∙ e) in
    let d : found.dst ≡ frame.dst = f.dst ∙ dst_read frame.dst frame.src frame.vid frame.text tells.1 in
    let s : found.src ≡ frame.src = f.src ∙ src_read frame.dst frame.src frame.vid frame.text tells.1 src_is in
    ap₂ (λ (m : Mac) (n : Mac). record { dst = m; src = n; vid = found.vid; text = found.text }) d s ∙ ap₂ (λ (v : Vid) (t : List ℕ). record { dst = frame.dst; src = frame.src; vid = v; text = t }) r.vid r.rest

frames_kept : (queries : Mac → Queries) → IsKept queries IsGivenFrame
frames_kept queries = record {
  stays = λ mesh after payload s is. (is.0, was_given queries mesh after is.0 s is.1, is.2);
  begun = λ mesh frame was. (frame, was, refl);
  read_on = λ mesh payload frame is read. (is.0, is.1, ap payload_spelling (read_again is.0 frame (given_tells mesh is.0 is.1) (subst (λ bytes. client_frame_of bytes ≡ Some frame) is.2 read)));
}

pub carries_given_frames : CarriesGivenFrames
carries_given_frames queries keep mesh r = carried_on queries keep IsGivenFrame (frames_kept queries) mesh r

-- what is read of what lines gave is what they gave
read_given : (mesh : Mesh) (frame : ClientFrame) → IsReadOf (IsGivenFrame mesh) frame → WasGiven mesh frame
read_given mesh frame (payload, given, read) =
    let same = read_again given.0 frame (given_tells mesh given.0 given.1) (subst (λ bytes. client_frame_of bytes ≡ Some frame) given.2 read) in
    subst (WasGiven mesh) (sym same) given.1

either_given : (mesh : Mesh) (frame : ClientFrame) → WasGiven mesh frame ⊎ IsReadOf (IsGivenFrame mesh) frame → WasGiven mesh frame
either_given mesh frame (inl given) = given
either_given mesh frame (inr read) = read_given mesh frame read

pub hands_out_given_frames : HandsOutGivenFrames
hands_out_given_frames queries keep mesh r =
    let carries = carries_given_frames queries keep mesh r in
    record {
      handed_out = λ moment node vid src dst text has. either_given mesh (record { dst = dst; src = src; vid = vid; text = text }) (carries.handed_out moment node vid src dst text has);
      bridged = λ moment lan vid src dst text has. read_given mesh (record { dst = dst; src = src; vid = vid; text = text }) (carries.bridged moment lan vid src dst text has);
    }
