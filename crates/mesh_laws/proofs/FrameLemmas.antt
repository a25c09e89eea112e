-- Link frames, packet by packet: the bound on how many packets are read is never met, since each packet is shorter than
-- the bytes that it begins.
use Rattle.std.proofs.Common.{◌≡◌, ℕ, zero, suc, ◌<◌, ◌≤◌, List, [], ◌∷◌, length, take, drop, Option, Some, None, Bool, true, false, Result, Ok, Err, refl, ap, arith}
use Rattle.std.specs.Prelude.{cond, nat_lt, ◌==◌}
use Rattle.std.proofs.lemmas.List.{length-drop}
use Rattle.mesh_model.specs.declared.packet.Head.{Head}
use Rattle.mesh_model.specs.declared.link_frame.NoPacket.{NoPacket}
use Rattle.mesh_model.specs.declared.link_frame.NoPacket.TheVariants.{Version}
use Rattle.mesh_model.specs.declared.link_frame.TvlvErr.{TvlvErr}
use Rattle.mesh_model.specs.Packets.Numbers.{compat_version}
use Rattle.mesh_model.specs.Packets.Shapes.{Shape, header_size, shape_of_type}
use Rattle.mesh_model.specs.Packets.FirstPacket.{Front, head_in, told_in, tail_length, packet_cut, packet_of_shape, first_packet}
use Rattle.mesh_model.specs.Packets.LinkFrame.{LinkFrame, put_before, behind, packet_flaw, frame_from, frame_within, link_frame}

-- the choice that is no refusal
pub first_choice : {A : Type 0} (b : Bool) (x : Result A NoPacket) (e : NoPacket) (y : A) → cond b x (Err e) ≡ Ok y → (b ≡ true) × (x ≡ Ok y)
first_choice true x e y is = (refl, is)
first_choice false x e y is = absurd cc

pub second_choice : {A : Type 0} (b : Bool) (x : Result A NoPacket) (e : NoPacket) (y : A) → cond b (Err e) x ≡ Ok y → (b ≡ false) × (x ≡ Ok y)
second_choice true x e y is = absurd cc
second_choice false x e y is = (refl, is)

-- what is left behind a tail that is cut off is no more than there was
packet_cut-rest : (head : Head) (len : ℕ) (after : List ℕ) (front : Front) → packet_cut head len after ≡ Ok front → length front.rest ≤ length after
packet_cut-rest head len after front is =
    let chosen = second_choice (nat_lt (length after) len) _ _ front is in
    let same : front ≡ record { packet = record { head = head; tail = take len after }; rest = drop len after } = let e = chosen.1 in cc in
    omega (arith, ap (λ (f : Front). length f.rest) same, length-drop len after)

-- a packet of bytes of a shape leaves fewer bytes
packet_of_shape-rest : (kind : ℕ) (known : Option Shape) (bytes : List ℕ) (front : Front)
    → packet_of_shape kind known bytes ≡ Ok front → 0 < length bytes → length front.rest < length bytes
packet_of_shape-rest kind None bytes front is some = absurd cc
packet_of_shape-rest kind (Some shape) bytes front is some =
    let chosen = second_choice (nat_lt (length bytes) (header_size shape)) _ _ front is in
    let after = drop (header_size shape) bytes in
    let fields = drop 2 bytes in
    let left = packet_cut-rest (head_in shape.fields shape.head fields) (tail_length shape.tail (told_in shape.fields fields) (length after)) after front chosen.1 in
    omega (arith, left, length-drop (header_size shape) bytes, some)

-- a packet leaves fewer bytes than it begins
pub rest-shorter : (bytes : List ℕ) (front : Front) → first_packet bytes ≡ Ok front → length front.rest < length bytes
unfolding first_packet
rest-shorter [] front is = absurd cc
rest-shorter (kind ∷ []) front is = absurd cc
rest-shorter (kind ∷ version ∷ fields) front is =
    let bytes = kind ∷ version ∷ fields in
    let chosen = first_choice (version == compat_version) (packet_of_shape kind (shape_of_type kind) bytes) (Version version) front is in
    packet_of_shape-rest kind (shape_of_type kind) bytes front chosen.1 (omega arith)

-- two ways to read on, where they agree on the bytes after the packet
same_behind : (f g : List ℕ → LinkFrame) (front : Front) (flaw : Option TvlvErr) → f front.rest ≡ g front.rest → behind f front flaw ≡ behind g front flaw
same_behind f g front (Some flaw) same = refl
same_behind f g front None same = rw same refl

same_frames : (first : Result Front NoPacket) (f g : List ℕ → LinkFrame) → ((front : Front) → first ≡ Ok front → f front.rest ≡ g front.rest)
    → frame_from f first ≡ frame_from g first
same_frames (Ok front) f g same = ap (put_before front.packet) (same_behind f g front (packet_flaw front.packet) (same front refl))
same_frames (Err cause) f g same = refl

-- more packets than bytes are enough
enough : (n m : ℕ) (bytes : List ℕ) → length bytes < n → length bytes < m → frame_within n bytes ≡ frame_within m bytes
unfolding frame_within
enough zero m bytes below other = absurd (omega (arith, below))
enough (suc n) zero bytes below other = absurd (omega (arith, other))
enough (suc n) (suc m) bytes below other = same_frames (first_packet bytes) (frame_within n) (frame_within m)
    (λ front is. let shorter = rest-shorter bytes front is in enough n m front.rest (omega (arith, shorter, below)) (omega (arith, shorter, other)))

-- a link frame is its first packet and what follows it
pub link_frame-first : (bytes : List ℕ) → link_frame bytes ≡ frame_from link_frame (first_packet bytes)
unfolding link_frame frame_within
link_frame-first bytes = same_frames (first_packet bytes) (frame_within (length bytes)) link_frame
    (λ front is. enough (length bytes) (suc (length front.rest)) front.rest (rest-shorter bytes front is) (omega arith))
