-- The packet and the refusals that `decode` answers, from the laws of the definitions.
use Rattle.std.proofs.Common.{◌≡◌, ℕ, ◌-◌, ◌<◌, ◌^◌, List, slice_index_or, Fits, w8, length, drop, refl, sym, ap, ◌∙◌, arith, Result, Ok, Err}
use Rattle.std.proofs.lemmas.List.{length-drop}
use Rattle.std.proofs.lemmas.List.Elements.{All-from_get_or}
use Rattle.mesh_model.specs.declared.packet.Head.{Head}
use Rattle.mesh_model.specs.declared.link_frame.NoPacket.{NoPacket}
use Rattle.mesh_model.specs.declared.link_frame.NoPacket.TheVariants as no_packet
use Rattle.mesh_model.specs.Packets.Layout.{IsPacket}
use Rattle.mesh_model.specs.Packets.FirstPacket as packets
use Rattle.mesh_model.specs.Packets.FirstPacket.{first_packet}
use Rattle.mesh_laws.specs.PacketLaws.{AreBytes}
use Rattle.mesh_laws.proofs.FirstPacketLemmas.{first_packet-found}
use Rattle.mesh_laws.proofs.CauseLemmas.{found_right, refusals_first, cause_is_computed}
use Rattle.mesh_codec.specs.declared.failure.CodecErr.{CodecErr}
use Rattle.mesh_codec.specs.declared.failure.CodecErr.TheVariants.{Short, Version, Kind, Length, Long, Tail, Memory}
use Rattle.mesh_codec.specs.Decoding.{HasCause, error_of}

-- an answer is one
ok_same : (r : Result packets.Front NoPacket) {x y : packets.Front} → r ≡ Ok x → r ≡ Ok y → x ≡ y
ok_same r is same = let both = sym is ∙ same in cc

-- bytes begin with one packet at most
pub one_packet : (bytes : List ℕ) (head other : Head) (tail others : List ℕ) (used count : ℕ)
    → IsPacket bytes head tail used → IsPacket bytes other others count
    → (head ≡ other) × (tail ≡ others) × (used ≡ count)
one_packet bytes head other tail others used count one two =
    let same = ok_same (first_packet bytes) (first_packet-found bytes head tail used one) (first_packet-found bytes other others count two) in
    let rest : drop used bytes ≡ drop count bytes = ap (λ (f : packets.Front). f.rest) same in (
      ap (λ (f : packets.Front). f.packet.head) same,
      ap (λ (f : packets.Front). f.packet.tail) same,
      omega (arith, ap length rest, length-drop used bytes, length-drop count bytes, one.used_is, two.used_is),
    )

-- what a slice of bytes holds
pub are_bytes : (bytes : List ℕ) → ((i : ℕ) → Fits w8 (slice_index_or bytes i 0)) → AreBytes bytes
are_bytes bytes small = All-from_get_or (λ byte. byte < 2 ^ 8) bytes 0 (λ i within. omega (arith, small i))

-- a cause that is computed is a cause of the error
pub has_cause : (bytes : List ℕ) (cause : NoPacket) → AreBytes bytes → first_packet bytes ≡ Err cause → HasCause bytes (error_of cause)
has_cause bytes (no_packet.Short have need) small is = (refusals_first bytes (no_packet.Short have need) small).0 is
has_cause bytes (no_packet.Version version) small is = (refusals_first bytes (no_packet.Version version) small).0 is
has_cause bytes (no_packet.Kind kind) small is = (refusals_first bytes (no_packet.Kind kind) small).0 is
has_cause bytes (no_packet.Length told left) small is = (refusals_first bytes (no_packet.Length told left) small).0 is

-- a cause is computed
cause_found : (bytes : List ℕ) (error : CodecErr) → HasCause bytes error → (cause : NoPacket) × (first_packet bytes ≡ Err cause) × (error_of cause ≡ error)
cause_found bytes (Short have need) has = (no_packet.Short have need, cause_is_computed bytes (no_packet.Short have need) has, refl)
cause_found bytes (Version version) has = (no_packet.Version version, cause_is_computed bytes (no_packet.Version version) has, refl)
cause_found bytes (Kind kind) has = (no_packet.Kind kind, cause_is_computed bytes (no_packet.Kind kind) has, refl)
cause_found bytes (Length told left) has = (no_packet.Length told left, cause_is_computed bytes (no_packet.Length told left) has, refl)
cause_found bytes (Long len) has = absurd has
cause_found bytes (Tail len) has = absurd has
cause_found bytes Memory has = absurd has

-- ---- where a packet was computed

-- it is the answer
pub right_answer : (bytes : List ℕ) (front : packets.Front) → AreBytes bytes → first_packet bytes ≡ Ok front
    → IsPacket bytes front.packet.head front.packet.tail (length bytes - length front.rest)
right_answer bytes front small is = found_right bytes front small is

-- no other one is
pub only_answer : (bytes : List ℕ) (front : packets.Front) (head : Head) (tail : List ℕ) (used : ℕ) → first_packet bytes ≡ Ok front → IsPacket bytes head tail used
    → (front.packet.head ≡ head) × (front.packet.tail ≡ tail) × (length bytes - length front.rest ≡ used)
only_answer bytes front head tail used is packet =
    let same = ok_same (first_packet bytes) is (first_packet-found bytes head tail used packet) in
    let rest : front.rest ≡ drop used bytes = ap (λ (f : packets.Front). f.rest) same in (
      ap (λ (f : packets.Front). f.packet.head) same,
      ap (λ (f : packets.Front). f.packet.tail) same,
      omega (arith, ap length rest, length-drop used bytes, packet.used_is),
    )

-- no cause applies
pub no_cause : (bytes : List ℕ) (front : packets.Front) (error : CodecErr) → first_packet bytes ≡ Ok front → HasCause bytes error → ⊥
no_cause bytes front error is has =
    let found = cause_found bytes error has in let both = sym is ∙ found.1 in absurd cc

-- ---- where a refusal was computed

-- no packet begins the bytes
pub no_packet_begins : (bytes : List ℕ) (cause : NoPacket) (head : Head) (tail : List ℕ) (used : ℕ) → first_packet bytes ≡ Err cause → IsPacket bytes head tail used → ⊥
no_packet_begins bytes cause head tail used is packet =
    let both = sym is ∙ first_packet-found bytes head tail used packet in absurd cc

-- the cause that applies is the one
pub one_cause : (bytes : List ℕ) (cause : NoPacket) (error : CodecErr) → first_packet bytes ≡ Err cause → HasCause bytes error → error_of cause ≡ error
one_cause bytes cause error is has =
    let found = cause_found bytes error has in
    let same : cause ≡ found.0 = let both = sym is ∙ found.1 in cc in
    ap error_of same ∙ found.2
