-- How Ethernet frames of a type are read: their addresses and VLAN stand where they are spelled, and what
-- is spelled with one type isn't read as one of another.
use Rattle.std.proofs.Common.{◌≡◌, ◌<◌, ◌≤◌, ◌^◌, ◌+◌, ◌-◌, ◌==◌, ℕ, Bool, true, false, cond, nat_le, nat_lt, ◌&&◌, List, [], ◌++◌, length, drop, Option, Some, None, option_map, refl, sym, ap, subst, ◌∙◌, append_assoc, arith}
use Rattle.std.proofs.lemmas.Bool.{ltb-false}
use Rattle.std.proofs.lemmas.Bool.Decides.{nat_tests}
use Rattle.std.proofs.lemmas.List.{length-drop, length-take-le}
use Rattle.byteorder.specs.Endian.{big_bytes, big_number}
use Rattle.byteorder.specs.Numbers.{big_number-reads_back}
use Rattle.mesh_base.specs.declared.address.Mac.{Mac}
use Rattle.mesh_base.specs.declared.client.Vid.{Vid}
use Rattle.mesh_model.specs.Packets.Ethernet.{EtherFrame, address_in, begin_type, ether_frame_of, ether_spelling, frame_behind, frame_by_type, is_vlan, tag_spelling, tagged_frame}
use Rattle.mesh_model.specs.Packets.Numbers.{client_ethertype, vlan_ethertype}
use Rattle.mesh_model.specs.Packets.Payload.{ClientFrame, client_frame, client_frame_of, ether_frame}
use Rattle.mesh_tie.specs.Sources.{IsWhole}
use Rattle.mesh_tie.proofs.HeadLemmas.{mac6, six}

-- ---- where addresses stand
-- a frame is read of bytes: its addresses at their places, a VLAN's wire number that fits two bytes
pub record IsFrom (bytes : List ℕ) (frame : EtherFrame) : Type 0 where
  pub dst : frame.dst ≡ address_in 0 bytes
  pub src : frame.src ≡ address_in 6 bytes
  pub small : frame.vid.0 < 2 ^ 16
  pub whole : 12 ≤ length bytes

abbrev pub IfFrom : List ℕ → Option EtherFrame → Type 0
IfFrom bytes o = (frame : EtherFrame) → o ≡ Some frame → IsFrom bytes frame

if_from : (bytes : List ℕ) (b : Bool) (o : Option EtherFrame) → (b ≡ true → IfFrom bytes o) → IfFrom bytes (cond b o None)
if_from bytes true o from = from refl
if_from bytes false o from = λ frame is. cc

unless_from : (bytes : List ℕ) (b : Bool) (o : Option EtherFrame) → (b ≡ false → IfFrom bytes o) → IfFrom bytes (cond b None o)
unless_from bytes true o from = λ frame is. cc
unless_from bytes false o from = from refl

behind_from : (ethertype : ℕ) (bytes : List ℕ) (vid : Vid) (after : List ℕ) → 12 ≤ length bytes → vid.0 < 2 ^ 16 → IfFrom bytes (frame_behind ethertype bytes vid after)
behind_from ethertype bytes vid after enough small =
    let one : EtherFrame = record { dst = address_in 0 bytes; src = address_in 6 bytes; vid = vid; rest = drop 2 after } in
    if_from bytes (begin_type ethertype after) (Some one) (λ b frame is. let same : one ≡ frame = cc in subst (IsFrom bytes) same (record { dst = refl; src = refl; small = small; whole = enough }))

vlan_small : (n : ℕ) → is_vlan n ≡ true → 32768 + n < 2 ^ 16
vlan_small n is = let low : n ≤ 4094 = grind (arith, nat_tests, is) in omega (arith, low)

tagged_from : (ethertype : ℕ) (bytes after : List ℕ) → 12 ≤ length bytes → IfFrom bytes (tagged_frame ethertype bytes after)
tagged_from ethertype bytes after enough =
    let n = big_number 2 after in
    let vid : Vid = record { 0 = 32768 + n } in
    unless_from bytes (nat_lt (length after) 2) (cond (is_vlan n) (frame_behind ethertype bytes vid (drop 2 after)) None)
    (λ long. if_from bytes (is_vlan n) (frame_behind ethertype bytes vid (drop 2 after)) (λ is. behind_from ethertype bytes vid (drop 2 after) enough (vlan_small n is)))

typed_from : (ethertype : ℕ) (bytes after : List ℕ) → 12 ≤ length bytes → IfFrom bytes (frame_by_type ethertype bytes after)
typed_from ethertype bytes after enough = go (begin_type vlan_ethertype after)
  where
    go : (b : Bool) → IfFrom bytes (cond b (tagged_frame ethertype bytes (drop 2 after)) (frame_behind ethertype bytes (record { 0 = 0 }) after))
    go true = tagged_from ethertype bytes (drop 2 after) enough
    go false = behind_from ethertype bytes (record { 0 = 0 }) after enough (omega arith)

pub frame_from : (ethertype : ℕ) (bytes : List ℕ) → IfFrom bytes (ether_frame_of ethertype bytes)
frame_from ethertype bytes = unless_from bytes (nat_lt (length bytes) 12) (frame_by_type ethertype bytes (drop 12 bytes)) (λ long. let enough = ltb-false (length bytes) 12 long in typed_from ethertype bytes (drop 12 bytes) enough)

-- addresses that are read are whole
pub from_whole : (bytes : List ℕ) (frame : EtherFrame) → IsFrom bytes frame → IsWhole frame.dst × IsWhole frame.src
from_whole bytes frame f =
    let enough = f.whole in
    let left = length-drop 6 bytes in (
      subst IsWhole (sym f.dst) (length-take-le 6 bytes (omega (arith, enough))),
      subst IsWhole (sym f.src) (length-take-le 6 (drop 6 bytes) (omega (arith, enough, left))),
    )

-- ---- types
-- what a type begins
pub type_begins : (wanted ethertype : ℕ) (rest : List ℕ) → ethertype < 65536 → begin_type wanted (big_bytes 2 ethertype ++ rest) ≡ (ethertype == wanted)
type_begins wanted ethertype rest fits =
    let bytes = big_bytes 2 ethertype ++ rest in
    let some : nat_le 2 (length bytes) ≡ true = grind (arith, nat_tests) in
    ap (λ (test : Bool). test && (big_number 2 bytes == wanted)) some
    ∙ ap (λ (n : ℕ). n == wanted) (big_number-reads_back 2 ethertype rest fits)

-- what follows the addresses of a frame
pub addresses_dropped : (ethertype : ℕ) (dst src : Mac) (vid : Vid) (rest : List ℕ) → IsWhole dst → IsWhole src
    → drop 12 (ether_spelling ethertype (record { dst = dst; src = src; vid = vid; rest = rest })) ≡ tag_spelling vid ++ (big_bytes 2 ethertype ++ rest)
addresses_dropped ethertype dst src vid rest whole also =
    let d = six dst whole in
    let s = six src also in
    subst (λ (x : Mac). drop 12 (ether_spelling ethertype (record { dst = x; src = src; vid = vid; rest = rest })) ≡ tag_spelling vid ++ (big_bytes 2 ethertype ++ rest)) (sym d.is)
    (subst (λ (y : Mac). drop 12 (ether_spelling ethertype (record { dst = mac6 d.a d.b d.c d.d d.e d.f; src = y; vid = vid; rest = rest })) ≡ tag_spelling vid ++ (big_bytes 2 ethertype ++ rest)) (sym s.is)
    (append_assoc (tag_spelling vid) (big_bytes 2 ethertype) rest))

-- two types of their own
pub record AreTypes (wanted ethertype : ℕ) : Type 0 where
  pub fits : ethertype < 65536
  pub other : (ethertype == wanted) ≡ false
  pub own : (ethertype == vlan_ethertype) ≡ false

not_behind : (wanted ethertype : ℕ) (bytes rest : List ℕ) (vid : Vid) → AreTypes wanted ethertype → frame_behind wanted bytes vid (big_bytes 2 ethertype ++ rest) ≡ None
not_behind wanted ethertype bytes rest vid t =
    let after = big_bytes 2 ethertype ++ rest in
    let none : begin_type wanted after ≡ false = type_begins wanted ethertype rest t.fits ∙ t.other in
    ap (λ (b : Bool). cond b (Some (record { dst = address_in 0 bytes; src = address_in 6 bytes; vid = vid; rest = drop 2 after })) None) none

not_by_type : (wanted ethertype : ℕ) (bytes rest : List ℕ) (vid : Vid) → AreTypes wanted ethertype → frame_by_type wanted bytes (tag_spelling vid ++ (big_bytes 2 ethertype ++ rest)) ≡ None
not_by_type wanted ethertype bytes rest vid t = go (vid.0 == 0)
  where
    after : List ℕ
    after = big_bytes 2 ethertype ++ rest

    tail : List ℕ
    tail = big_bytes 2 (vid.0 - 32768) ++ after

    by_vlan : (b : Bool) → cond b (frame_behind wanted bytes (record { 0 = 32768 + big_number 2 tail }) after) None ≡ None
    by_vlan true = not_behind wanted ethertype bytes rest (record { 0 = 32768 + big_number 2 tail }) t
    by_vlan false = refl

    by_length : (b : Bool) → cond b None (cond (is_vlan (big_number 2 tail)) (frame_behind wanted bytes (record { 0 = 32768 + big_number 2 tail }) after) None) ≡ None
    by_length true = refl
    by_length false = by_vlan (is_vlan (big_number 2 tail))

    go : (b : Bool) → frame_by_type wanted bytes (cond b [] (big_bytes 2 vlan_ethertype ++ big_bytes 2 (vid.0 - 32768)) ++ after) ≡ None
    go true =
        let none : begin_type vlan_ethertype after ≡ false = type_begins vlan_ethertype ethertype rest t.fits ∙ t.own in
        ap (λ (b : Bool). cond b (tagged_frame wanted bytes (drop 2 after)) (frame_behind wanted bytes (record { 0 = 0 }) after)) none ∙ not_behind wanted ethertype bytes rest (record { 0 = 0 }) t
    go false =
        let some : begin_type vlan_ethertype (big_bytes 2 vlan_ethertype ++ tail) ≡ true = type_begins vlan_ethertype vlan_ethertype tail (omega arith) in
        ap (λ (b : Bool). cond b (tagged_frame wanted bytes tail) (frame_behind wanted bytes (record { 0 = 0 }) (big_bytes 2 vlan_ethertype ++ tail))) some ∙ by_length (nat_lt (length tail) 2)

-- what is spelled with a type isn't read as a frame of another
pub other_type : (wanted ethertype : ℕ) (dst src : Mac) (vid : Vid) (rest : List ℕ) → AreTypes wanted ethertype → IsWhole dst → IsWhole src
    → ether_frame_of wanted (ether_spelling ethertype (record { dst = dst; src = src; vid = vid; rest = rest })) ≡ None
other_type wanted ethertype dst src vid rest t whole also = go (nat_lt (length bytes) 12)
  where
    bytes : List ℕ
    bytes = ether_spelling ethertype (record { dst = dst; src = src; vid = vid; rest = rest })

    go : (b : Bool) → cond b None (frame_by_type wanted bytes (drop 12 bytes)) ≡ None
    go true = refl
    go false = ap (frame_by_type wanted bytes) (addresses_dropped ethertype dst src vid rest whole also) ∙ not_by_type wanted ethertype bytes rest vid t

-- ---- client frames
client_from : (bytes : List ℕ) (o : Option EtherFrame) (frame : ClientFrame) → IfFrom bytes o → option_map client_frame o ≡ Some frame → IsFrom bytes (ether_frame frame)
client_from bytes None frame from is = cc
client_from bytes (Some one) frame from is = let same : client_frame one ≡ frame = cc in subst (λ (x : ClientFrame). IsFrom bytes (ether_frame x)) same (from one refl)

pub read_from : (bytes : List ℕ) (frame : ClientFrame) → client_frame_of bytes ≡ Some frame → IsFrom bytes (ether_frame frame)
read_from bytes frame is = client_from bytes (ether_frame_of client_ethertype bytes) frame (frame_from client_ethertype bytes) is

pub dst_whole : (bytes : List ℕ) (frame : ClientFrame) → client_frame_of bytes ≡ Some frame → IsWhole frame.dst
dst_whole bytes frame is = (from_whole bytes (ether_frame frame) (read_from bytes frame is)).0

pub src_whole : (bytes : List ℕ) (frame : ClientFrame) → client_frame_of bytes ≡ Some frame → IsWhole frame.src
src_whole bytes frame is = (from_whole bytes (ether_frame frame) (read_from bytes frame is)).1
