-- An Ethernet frame of a type is read where enough bytes are there; one that was written is read
-- again.
use Rattle.std.proofs.Common.{◌≡◌, refl, ℕ, ◌+◌, ◌-◌, ◌≤◌, ◌<◌, List, [], ◌∷◌, ◌++◌, length, take, drop, sym, ap, ap₂, ◌∙◌, subst, append_assoc, arith, Bool, true, false, if◌then◌else◌, Some, None, inl, inr}
use Rattle.std.specs.Prelude.{nat_lt, nat_le, ◌==◌, ◌&&◌}
use Rattle.std.proofs.lemmas.Bool.{eq-eqb}
use Rattle.std.proofs.lemmas.Bool.Decides.{nat_tests}
use Rattle.std.proofs.lemmas.List.{length-append, drop-drop}
use Rattle.std.proofs.Math.Seq.{drop-append_seam, take-append_seam}
use Rattle.byteorder.specs.Endian.{big_bytes, big_number}
use Rattle.byteorder.specs.Numbers.{big_number-reads_back}
use Rattle.mesh_base.specs.Vlan.{untagged, tagged_bit, first_vlan, last_vlan}
use Rattle.mesh_base.specs.declared.address.Mac.{Mac}
use Rattle.mesh_base.specs.declared.client.Vid.{Vid}
use Rattle.mesh_model.specs.Packets.Numbers.{vlan_ethertype}
use Rattle.mesh_model.specs.Packets.Ethernet.{EtherFrame, tag_spelling, ether_spelling, addresses_size, address_in, begin_type, frame_behind, tagged_frame, frame_by_type, ether_frame_of, is_vlan}
use Rattle.mesh_codec.specs.Payloads.{IsWireNumber, CanBeSpelled, IsOwnType}

-- the frame that enough bytes are
pub enough_read : (ethertype : ℕ) (bytes after : List ℕ) → addresses_size ≤ length bytes → after ≡ drop addresses_size bytes → ether_frame_of ethertype bytes ≡ frame_by_type ethertype bytes after
enough_read ethertype bytes after enough is =
    let few : nat_lt (length bytes) addresses_size ≡ false = grind (arith, nat_tests, enough) in
    ap (λ (b : Bool). if b then None else frame_by_type ethertype bytes (drop addresses_size bytes)) few ∙ ap (frame_by_type ethertype bytes) (sym is)

-- ---- the addresses

abbrev mac_of : List ℕ → Mac
mac_of bytes = record { 0 = bytes }

-- bytes behind a front of this length
drop_front : (n : ℕ) (front rest : List ℕ) → length front ≡ n → drop n (front ++ rest) ≡ rest
drop_front n front rest len = subst (λ (k : ℕ). drop k (front ++ rest) ≡ rest) len (drop-append_seam front rest)

-- a front of this length
take_front : (n : ℕ) (front rest : List ℕ) → length front ≡ n → take n (front ++ rest) ≡ front
take_front n front rest len = subst (λ (k : ℕ). take k (front ++ rest) ≡ front) len (take-append_seam front rest)

-- what is behind the tag of a frame
abbrev behind_tag : ℕ → List ℕ → List ℕ
behind_tag ethertype rest = big_bytes 2 ethertype ++ rest

-- what is behind the addresses of a frame
abbrev behind : ℕ → EtherFrame → List ℕ
behind ethertype frame = tag_spelling frame.vid ++ behind_tag ethertype frame.rest

-- a spelling by its parts
spelled : (ethertype : ℕ) (frame : EtherFrame) → ether_spelling ethertype frame ≡ frame.dst.0 ++ (frame.src.0 ++ behind ethertype frame)
spelled ethertype frame =
    let dst = frame.dst.0 in
    let src = frame.src.0 in
    let tag = tag_spelling frame.vid in
    append_assoc (dst ++ src ++ tag) (big_bytes 2 ethertype) frame.rest
    ∙ append_assoc (dst ++ src) tag (behind_tag ethertype frame.rest)
    ∙ append_assoc dst src (behind ethertype frame)

dst_back : (ethertype : ℕ) (frame : EtherFrame) → CanBeSpelled frame → address_in 0 (ether_spelling ethertype frame) ≡ frame.dst
dst_back ethertype frame can =
    ap mac_of (ap (take 6) (spelled ethertype frame) ∙ take_front 6 frame.dst.0 (frame.src.0 ++ behind ethertype frame) can.dst)

-- what is behind the first address
behind_dst : (ethertype : ℕ) (frame : EtherFrame) → CanBeSpelled frame → drop 6 (ether_spelling ethertype frame) ≡ frame.src.0 ++ behind ethertype frame
behind_dst ethertype frame can = ap (drop 6) (spelled ethertype frame) ∙ drop_front 6 frame.dst.0 (frame.src.0 ++ behind ethertype frame) can.dst

src_back : (ethertype : ℕ) (frame : EtherFrame) → CanBeSpelled frame → address_in 6 (ether_spelling ethertype frame) ≡ frame.src
src_back ethertype frame can =
    ap mac_of (ap (take 6) (behind_dst ethertype frame can) ∙ take_front 6 frame.src.0 (behind ethertype frame) can.src)

behind_back : (ethertype : ℕ) (frame : EtherFrame) → CanBeSpelled frame → drop addresses_size (ether_spelling ethertype frame) ≡ behind ethertype frame
behind_back ethertype frame can =
    sym (drop-drop 6 6 (ether_spelling ethertype frame)) ∙ ap (drop 6) (behind_dst ethertype frame can) ∙ drop_front 6 frame.src.0 (behind ethertype frame) can.src

long_enough : (ethertype : ℕ) (frame : EtherFrame) → CanBeSpelled frame → addresses_size ≤ length (ether_spelling ethertype frame)
long_enough ethertype frame can =
    omega (arith, ap length (spelled ethertype frame), length-append frame.dst.0 (frame.src.0 ++ behind ethertype frame), length-append frame.src.0 (behind ethertype frame), can.dst, can.src)

-- ---- the VLAN and the rest

-- the frame with the addresses that bytes begin with
abbrev framed : List ℕ → Vid → List ℕ → EtherFrame
framed bytes vid rest = record { dst = address_in 0 bytes; src = address_in 6 bytes; vid = vid; rest = rest }

abbrev vid_of : ℕ → Vid
vid_of number = record { 0 = number }

-- what a type begins
type_begins : (wanted ethertype : ℕ) (rest : List ℕ) → ethertype < 65536 → begin_type wanted (big_bytes 2 ethertype ++ rest) ≡ (ethertype == wanted)
type_begins wanted ethertype rest fits =
    let bytes = big_bytes 2 ethertype ++ rest in
    let some : nat_le 2 (length bytes) ≡ true = grind (arith, nat_tests) in
    ap (λ (test : Bool). test && (big_number 2 bytes == wanted)) some
    ∙ ap (λ (n : ℕ). n == wanted) (big_number-reads_back 2 ethertype rest fits)

-- the frame whose type comes next
frame_next : (ethertype : ℕ) → IsOwnType ethertype → (bytes rest : List ℕ) (vid : Vid) → frame_behind ethertype bytes vid (behind_tag ethertype rest) ≡ Some (framed bytes vid rest)
frame_next ethertype own bytes rest vid =
    ap (λ (b : Bool). if b then Some (framed bytes vid rest) else None) (type_begins ethertype ethertype rest own.fits ∙ eq-eqb ethertype ethertype refl)

untagged_back : (ethertype : ℕ) → IsOwnType ethertype → (bytes rest : List ℕ) → frame_by_type ethertype bytes (tag_spelling (vid_of untagged) ++ behind_tag ethertype rest) ≡ Some (framed bytes (vid_of untagged) rest)
untagged_back ethertype own bytes rest =
    ap (λ (b : Bool). if b then tagged_frame ethertype bytes rest else frame_behind ethertype bytes (vid_of untagged) (behind_tag ethertype rest)) (type_begins vlan_ethertype ethertype rest own.fits ∙ own.no_tag)
    ∙ frame_next ethertype own bytes rest (vid_of untagged)

-- the tag of a VLAN with a number
tag_is : (number : ℕ) → tag_spelling (vid_of (tagged_bit + number)) ≡ big_bytes 2 vlan_ethertype ++ big_bytes 2 number
tag_is number =
    let some : (tagged_bit + number == untagged) ≡ false = grind (arith, nat_tests) in
    ap (λ (b : Bool). if b then [] else big_bytes 2 vlan_ethertype ++ big_bytes 2 (tagged_bit + number - tagged_bit)) some
    ∙ ap (λ (n : ℕ). big_bytes 2 vlan_ethertype ++ big_bytes 2 n) (omega arith)

number_back : (ethertype : ℕ) → IsOwnType ethertype → (bytes rest : List ℕ) (number : ℕ) → first_vlan ≤ number → number ≤ last_vlan
    → frame_by_type ethertype bytes ((big_bytes 2 vlan_ethertype ++ big_bytes 2 number) ++ behind_tag ethertype rest) ≡ Some (framed bytes (vid_of (tagged_bit + number)) rest)
number_back ethertype own bytes rest number least most =
    let after = behind_tag ethertype rest in
    let tag = big_bytes 2 number ++ after in
    let some : nat_lt (length tag) 2 ≡ false = grind (arith, nat_tests) in
    let found : big_number 2 tag ≡ number = big_number-reads_back 2 number after (omega (arith, most)) in
    let is : is_vlan number ≡ true = grind (arith, nat_tests, least, most) in
    ap (λ (b : Bool). if b then tagged_frame ethertype bytes tag else frame_behind ethertype bytes (vid_of untagged) (129 ∷ 0 ∷ tag)) (type_begins vlan_ethertype vlan_ethertype tag (omega arith))
    ∙ ap (λ (b : Bool). if b then None else if is_vlan (big_number 2 tag) then frame_behind ethertype bytes (vid_of (tagged_bit + big_number 2 tag)) after else None) some
    ∙ ap (λ (n : ℕ). if is_vlan n then frame_behind ethertype bytes (vid_of (tagged_bit + n)) after else None) found
    ∙ ap (λ (b : Bool). if b then frame_behind ethertype bytes (vid_of (tagged_bit + number)) after else None) is
    ∙ frame_next ethertype own bytes rest (vid_of (tagged_bit + number))

vlan_back : (ethertype : ℕ) → IsOwnType ethertype → (bytes rest : List ℕ) (vid : Vid) → IsWireNumber vid → frame_by_type ethertype bytes (tag_spelling vid ++ behind_tag ethertype rest) ≡ Some (framed bytes vid rest)
vlan_back ethertype own bytes rest vid (inl none) =
    subst (λ (n : ℕ). frame_by_type ethertype bytes (tag_spelling (vid_of n) ++ behind_tag ethertype rest) ≡ Some (framed bytes (vid_of n) rest)) (sym none) (untagged_back ethertype own bytes rest)
vlan_back ethertype own bytes rest vid (inr tagged) =
    let number = tagged.0 in
    let whole = ap (λ (tag : List ℕ). frame_by_type ethertype bytes (tag ++ behind_tag ethertype rest)) (tag_is number) ∙ number_back ethertype own bytes rest number tagged.1 tagged.2 in
    subst (λ (n : ℕ). frame_by_type ethertype bytes (tag_spelling (vid_of n) ++ behind_tag ethertype rest) ≡ Some (framed bytes (vid_of n) rest)) (sym tagged.3) whole

-- ---- the whole frame

-- a frame with other addresses
abbrev with_addresses : EtherFrame → Mac → Mac → EtherFrame
with_addresses frame dst src = record { dst = dst; src = src; vid = frame.vid; rest = frame.rest }

pub ether_back : (ethertype : ℕ) → IsOwnType ethertype → (frame : EtherFrame) → CanBeSpelled frame → ether_frame_of ethertype (ether_spelling ethertype frame) ≡ Some frame
ether_back ethertype own frame can =
    let bytes = ether_spelling ethertype frame in
    enough_read ethertype bytes (behind ethertype frame) (long_enough ethertype frame can) (sym (behind_back ethertype frame can))
    ∙ vlan_back ethertype own bytes frame.rest frame.vid can.vid
    ∙ ap₂ (λ (dst src : Mac). Some (with_addresses frame dst src)) (dst_back ethertype frame can) (src_back ethertype frame can)
