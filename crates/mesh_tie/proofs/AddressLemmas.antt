-- The addresses in every packet that is read are of six bytes.
use Rattle.std.proofs.Common.{◌≡◌, ◌≤◌, ◌+◌, inl, inr, ℕ, zero, suc, ◌==◌, nat_lt, Bool, true, false, cond, List, [], ◌∷◌, length, take, drop, find, Option, Some, None, Ok, Err, refl, sym, subst, arith}
use Rattle.std.specs.List.{AllByRecursion}
use Rattle.std.proofs.lemmas.Bool.{ltb-false}
use Rattle.std.proofs.lemmas.List.{length-drop, length-take-le}
use Rattle.mesh_model.specs.declared.link_frame.Ending.TheVariants.{Rest}
use Rattle.mesh_model.specs.declared.link_frame.NoPacket.TheVariants.{Length, Short, Version}
use Rattle.mesh_model.specs.declared.link_frame.TvlvErr.{TvlvErr}
use Rattle.mesh_model.specs.Net.Next.{Has}
use Rattle.mesh_model.specs.Packets.FirstPacket.{Front, Packet, first_packet, head_in, packet_cut, packet_of_shape, tail_length, told_in}
use Rattle.mesh_model.specs.Packets.LinkFrame.{LinkFrame, behind, frame_from, frame_within, is_followed, link_frame, only_ending, packet_flaw}
use Rattle.mesh_model.specs.Packets.Numbers.{compat_version}
use Rattle.mesh_model.specs.Packets.Shapes.{Shape, header_size, iv_ogm, ogm2, shape_of, shape_of_type, shapes, utvlv}
use Rattle.mesh_tie.specs.Sources.{HasWholeAddresses}

-- ---- heads
-- a head that is read of a whole header
abbrev ReadsWhole : Shape → Type 0
ReadsWhole s = (fields : List ℕ) → header_size s ≤ length fields + 2 → HasWholeAddresses (head_in s.fields s.head fields)

iv_whole : ReadsWhole iv_ogm
iv_whole fields enough =
    let a = length-drop 1 fields in
    let b = length-drop 1 (drop 1 fields) in
    let c = length-drop 4 (drop 1 (drop 1 fields)) in
    let d = length-drop 6 (drop 4 (drop 1 (drop 1 fields))) in
    (length-take-le 6 (drop 4 (drop 1 (drop 1 fields))) (omega (arith, a, b, c, enough)), length-take-le 6 (drop 6 (drop 4 (drop 1 (drop 1 fields)))) (omega (arith, a, b, c, d, enough)))

ogm2_whole : ReadsWhole ogm2
ogm2_whole fields enough =
    let a = length-drop 1 fields in
    let b = length-drop 1 (drop 1 fields) in
    let c = length-drop 4 (drop 1 (drop 1 fields)) in
    length-take-le 6 (drop 4 (drop 1 (drop 1 fields))) (omega (arith, a, b, c, enough))

utvlv_whole : ReadsWhole utvlv
utvlv_whole fields enough =
    let a = length-drop 1 fields in
    let b = length-drop 1 (drop 1 fields) in
    let c = length-drop 6 (drop 1 (drop 1 fields)) in
    (length-take-le 6 (drop 1 (drop 1 fields)) (omega (arith, a, b, enough)), length-take-le 6 (drop 6 (drop 1 (drop 1 fields))) (omega (arith, a, b, c, enough)))

all_whole : AllByRecursion ReadsWhole shapes
all_whole = (iv_whole, ((λ f e. tt), ((λ f e. tt), (ogm2_whole, ((λ f e. tt), ((λ f e. tt), ((λ f e. tt), ((λ f e. tt), (utvlv_whole, tt)))))))))

found_whole : (kind : ℕ) (some : List Shape) → AllByRecursion ReadsWhole some → (s : Shape) → find (λ shape. shape.kind == kind) some ≡ Some s → ReadsWhole s
found_whole kind [] all s is = cc
found_whole kind (first ∷ rest) all s is = go (first.kind == kind) (found_whole kind rest all.1 s) is
  where
    go : (b : Bool) → (find (λ shape. shape.kind == kind) rest ≡ Some s → ReadsWhole s) → cond b (Some first) (find (λ shape. shape.kind == kind) rest) ≡ Some s → ReadsWhole s
    go true more e = let same : first ≡ s = cc in subst ReadsWhole same all.0
    go false more e = more e

-- ---- frames
abbrev AllWhole : LinkFrame → Type 0
AllWhole frame = (packet : Packet) → Has frame.packets packet → HasWholeAddresses packet.head

behind_whole : (further : List ℕ → LinkFrame) → ((rest : List ℕ) → AllWhole (further rest)) → (front : Front) (flaw : Option TvlvErr) → AllWhole (behind further front flaw)
behind_whole further more front (Some flaw) packet has = absurd has
behind_whole further more front None packet has = go (is_followed (shape_of front.packet.head) front.rest) has
  where
    go : (b : Bool) → Has (cond b (further front.rest) (only_ending (Rest (length front.rest)))).packets packet → HasWholeAddresses packet.head
    go true has = more front.rest packet has
    go false has = absurd has

shape_whole : (further : List ℕ → LinkFrame) → ((rest : List ℕ) → AllWhole (further rest)) → (s : Shape) → ReadsWhole s → (kind version : ℕ) (fields : List ℕ) → AllWhole (frame_from further (packet_of_shape kind (Some s) (kind ∷ version ∷ fields)))
shape_whole further more s reads kind version fields packet has = sized (nat_lt (length bytes) (header_size s)) refl has
  where
    bytes : List ℕ
    bytes = kind ∷ version ∷ fields

    after : List ℕ
    after = drop (header_size s) bytes

    len : ℕ
    len = tail_length s.tail (told_in s.fields fields) (length after)

    front : Front
    front = record { packet = record { head = head_in s.fields s.head fields; tail = take len after }; rest = drop len after }

    cut : header_size s ≤ length fields + 2 → (b : Bool) → Has (frame_from further (cond b (Err (Length len (length after))) (Ok front))).packets packet → HasWholeAddresses packet.head
    cut enough true has = absurd has
    cut enough false (inl is) = subst (λ (p : Packet). HasWholeAddresses p.head) (sym is) (reads fields enough)
    cut enough false (inr has) = behind_whole further more front (packet_flaw front.packet) packet has

    sized : (b : Bool) → nat_lt (length bytes) (header_size s) ≡ b → Has (frame_from further (cond b (Err (Short (length bytes) (header_size s))) (packet_cut (head_in s.fields s.head fields) len after))).packets packet → HasWholeAddresses packet.head
    sized true is has = absurd has
    sized false is has = let enough = ltb-false (length bytes) (header_size s) is in cut (omega (arith, enough)) (nat_lt (length after) len) has

kind_whole : (further : List ℕ → LinkFrame) → ((rest : List ℕ) → AllWhole (further rest)) → (kind version : ℕ) (fields : List ℕ) (o : Option Shape) → ((s : Shape) → o ≡ Some s → ReadsWhole s) → AllWhole (frame_from further (packet_of_shape kind o (kind ∷ version ∷ fields)))
kind_whole further more kind version fields None reads packet has = absurd has
kind_whole further more kind version fields (Some s) reads packet has = shape_whole further more s (reads s refl) kind version fields packet has

frame_whole : (n : ℕ) (bytes : List ℕ) → AllWhole (frame_within n bytes)
unfolding frame_within first_packet
frame_whole zero bytes packet has = absurd has
frame_whole (suc n) [] packet has = absurd has
frame_whole (suc n) (kind ∷ []) packet has = absurd has
frame_whole (suc n) (kind ∷ version ∷ fields) packet has = go (λ rest. frame_whole n rest) (version == compat_version) has
  where
    go : ((rest : List ℕ) → AllWhole (frame_within n rest)) → (b : Bool) → Has (frame_from (frame_within n) (cond b (packet_of_shape kind (shape_of_type kind) (kind ∷ version ∷ fields)) (Err (Version version)))).packets packet → HasWholeAddresses packet.head
    go more true has = kind_whole (frame_within n) more kind version fields (shape_of_type kind) (found_whole kind shapes all_whole) packet has
    go more false has = absurd has

pub heads_whole : (bytes : List ℕ) (packet : Packet) → Has (link_frame bytes).packets packet → HasWholeAddresses packet.head
unfolding link_frame
heads_whole bytes packet has = frame_whole (suc (length bytes)) bytes packet has
