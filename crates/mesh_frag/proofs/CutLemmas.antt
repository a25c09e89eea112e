-- The fragments of a cut, place by place.
use Rattle.std.proofs.Common.{◌≡◌, ◌<◌, ◌≤◌, ◌+◌, ◌*◌, ℕ, zero, suc, List, [], ◌∷◌, length, take, drop, slice_get, Option, None, Some, IsSome, option_map, Result, Ok, Err, refl, sym, ap, ◌∙◌, arith, drop-drop}
use Rattle.std.specs.List.{enumerate_from}
use Rattle.std.proofs.Math.Nat.{lt_of_mul-lt-mul_right, mul-le-mul_right}
use Rattle.std.proofs.lemmas.Grind.{div_ceil_times}
use Rattle.std.proofs.lemmas.List.{length-map}
use Rattle.std.proofs.lemmas.List.FromFn.{length-enumerate_from}
use Rattle.std.proofs.lemmas.Bool.{false≢true}
use Rattle.std.proofs.lemmas.Option.{same_Some, slice_get-map}
use Rattle.mesh_base.specs.declared.address.Mac.{Mac}
use Rattle.mesh_model.specs.declared.link_frame.NoPacket.{NoPacket}
use Rattle.mesh_model.specs.declared.packet.Head.{Head}
use Rattle.mesh_model.specs.Fragments.Cutting.{CanBeMade, Cut, Reach, fragment_count, fragment_of, fragments_within, reach_of, reach_of_front, reach_of_head, tail_size, tails}
use Rattle.mesh_model.specs.Packets.Bodies.{pieces}
use Rattle.mesh_model.specs.Packets.FirstPacket.{Front, first_packet}
use Rattle.mesh_model.specs.Packets.Layout.{IsPacket}
use Rattle.mesh_laws.proofs.FirstPacketLemmas.{first_packet-found}
use Rattle.mesh_codec.specs.Decoding.{HasCause}
use Rattle.mesh_codec.proofs.Decoded.{no_cause}
use Rattle.mesh_codec.specs.declared.failure.CodecErr.{CodecErr}

-- ---- what is decoded
-- what is decoded of bytes says where they go
pub decoded : (bytes : List ℕ) (head : Head) (tail : List ℕ) (used : ℕ) → IsPacket bytes head tail used → reach_of_head head ≡ reach_of bytes
decoded bytes head tail used is = ap reach_of_front (sym (first_packet-found bytes head tail used is))

-- where bytes begin no packet, none is decoded
pub undecoded : (bytes : List ℕ) (error : CodecErr) → HasCause bytes error → reach_of bytes ≡ None
undecoded bytes error cause = go (first_packet bytes) refl
  where
    go : (r : Result Front NoPacket) → first_packet bytes ≡ r → reach_of_front r ≡ None
    go (Ok front) is = absurd (no_cause bytes front error is cause)
    go (Err no_packet) is = refl

-- hops and receiver as a pair
abbrev pub pair_of : Reach → ℕ × Mac
pair_of reach = (reach.ttl, reach.dst)

-- where they are none, there are none
pub goes_nowhere : (reach : Option Reach) → IsSome reach → None ≡ option_map pair_of reach → ⊥
goes_nowhere None some is = false≢true some
goes_nowhere (Some reach) some is = absurd cc

-- and where they are these, these
pub goes_there : (reach : Option Reach) (ttl : ℕ) (dst : Mac) → Some (ttl, dst) ≡ option_map pair_of reach → reach ≡ Some (record { ttl = ttl; dst = dst })
goes_there None ttl dst is = absurd cc
goes_there (Some reach) ttl dst is = let same = same_Some (ttl, dst) (pair_of reach) is in λ i. Some (record { ttl = (sym same i).0; dst = (sym same i).1 })

-- ---- pieces
-- the piece at a place
abbrev pub piece_at : ℕ → List ℕ → ℕ → List ℕ
piece_at size bytes place = take size (drop (place * size) bytes)

length-pieces : (count size : ℕ) (bytes : List ℕ) → length (pieces count size bytes) ≡ count
unfolding pieces
length-pieces zero size bytes = refl
length-pieces (suc count) size bytes = ap suc (length-pieces count size (drop size bytes))

pieces-at : (count size : ℕ) (bytes : List ℕ) (place : ℕ) → place < count → slice_get (pieces count size bytes) place ≡ Some (piece_at size bytes place)
unfolding pieces
pieces-at zero size bytes place lt = absurd (omega (arith, lt))
pieces-at (suc count) size bytes zero lt = let none : 0 * size ≡ 0 = omega arith in ap (λ n. Some (take size (drop n bytes))) (sym none)
pieces-at (suc count) size bytes (suc place) lt =
    let more : size + place * size ≡ suc place * size = omega arith in
    pieces-at count size (drop size bytes) place (omega (arith, lt))
    ∙ ap (λ rest. Some (take size rest)) (drop-drop (place * size) size bytes ∙ ap (λ n. drop n bytes) more)

-- ---- fragments
-- each element with its number
numbered : {X : Type 0} (first : ℕ) (xs : List X) (i : ℕ) → slice_get (enumerate_from first xs) i ≡ option_map (λ (x : X). (first + i, x)) (slice_get xs i)
numbered first [] i = refl
numbered {X} first (x ∷ xs) zero = let here : first ≡ first + 0 = omega arith in ap (λ (n : ℕ). Some (n, x)) here
numbered {X} first (x ∷ xs) (suc i) = let more : first + 1 + i ≡ first + suc i = omega arith in numbered (first + 1) xs i ∙ ap (λ n. option_map (λ (y : X). (n, y)) (slice_get xs i)) more

module _ (cut : Cut) (reach : Reach) where
  -- as many as hold the packet
  pub count_is : length (fragments_within cut (Some reach)) ≡ fragment_count cut.most cut.packet
  count_is =
      length-map (enumerate_from 0 (tails cut.most cut.packet)) (fragment_of cut reach)
      ∙ length-enumerate_from 0 (tails cut.most cut.packet)
      ∙ length-pieces (fragment_count cut.most cut.packet) (tail_size cut.most) cut.packet

  -- a place of one is below their count
  pub within : (seen : List (Head × List ℕ)) (place : ℕ) → fragments_within cut (Some reach) ≡ seen → place < length seen → place < fragment_count cut.most cut.packet
  within seen place is lt = omega (arith, lt, ap length is, count_is)

  -- the one at a place has the piece there
  pub fragment_at : (place : ℕ) → place < fragment_count cut.most cut.packet
      → slice_get (fragments_within cut (Some reach)) place ≡ Some (fragment_of cut reach (place, piece_at (tail_size cut.most) cut.packet place))
  fragment_at place lt =
      slice_get-map (fragment_of cut reach) (enumerate_from 0 (tails cut.most cut.packet)) place
      ∙ ap (option_map (fragment_of cut reach))
      (numbered 0 (tails cut.most cut.packet) place
      ∙ ap (option_map (λ (tail : List ℕ). (0 + place, tail))) (pieces-at (fragment_count cut.most cut.packet) (tail_size cut.most) cut.packet place lt))
      ∙ (let same : 0 + place ≡ place = omega arith in ap (λ n. Some (fragment_of cut reach (n, piece_at (tail_size cut.most) cut.packet place))) same)

module _ (cut : Cut) (can : CanBeMade cut) where
  wide : 0 < tail_size cut.most
  wide = omega (arith, can.wide)

  -- the fragments hold the packet, and each has a byte of it
  pub holds : length cut.packet ≤ fragment_count cut.most cut.packet * tail_size cut.most
  holds = (div_ceil_times (length cut.packet) (tail_size cut.most) wide).0

  pub begins_within : (place : ℕ) → place < fragment_count cut.most cut.packet → place * tail_size cut.most < length cut.packet
  begins_within place lt =
      let upto = mul-le-mul_right {m = suc place} {n = fragment_count cut.most cut.packet} (tail_size cut.most) (omega (arith, lt)) in
      let more : suc place * tail_size cut.most ≡ place * tail_size cut.most + tail_size cut.most = omega arith in
      omega (arith, upto, more, (div_ceil_times (length cut.packet) (tail_size cut.most) wide).1)

  -- there are sixteen at most
  pub few : (place : ℕ) → place < fragment_count cut.most cut.packet → place < 16
  few place lt = lt_of_mul-lt-mul_right (tail_size cut.most) (omega (arith, begins_within place lt, can.held))
