-- All packets of a frame are of the kind with which it begins.
use Rattle.std.proofs.Common.{◌≡◌, inl, inr, ℕ, zero, suc, ◌==◌, ◌&&◌, ◌||◌, nat_lt, nat_le, Bool, true, false, cond, List, [], ◌∷◌, length, take, drop, slice_index, Option, Some, None, Ok, Err, refl, sym, ap, subst, ◌∙◌}
use Rattle.std.proofs.lemmas.Bool.{and_parts, eqb-true}
use Rattle.mesh_model.specs.declared.link_frame.Ending.TheVariants.{Rest}
use Rattle.mesh_model.specs.declared.link_frame.NoPacket.TheVariants.{Length, Short, Version}
use Rattle.mesh_model.specs.declared.link_frame.TvlvErr.{TvlvErr}
use Rattle.mesh_model.specs.Net.Next.{Has}
use Rattle.mesh_model.specs.Packets.FirstPacket.{Front, Packet, first_packet, head_in, packet_cut, packet_of_shape, tail_length, told_in}
use Rattle.mesh_model.specs.Packets.LinkFrame.{LinkFrame, begin_header, behind, frame_from, frame_within, is_followed, link_frame, only_ending, packet_flaw}
use Rattle.mesh_model.specs.Packets.Numbers.{compat_version, iv_ogm_type, ogm2_type}
use Rattle.mesh_model.specs.Packets.Shapes.{Shape, bcast, elp, frag, header_size, icmp, prefix_size, shape_of, shape_of_type, unicast, unicast4}
use Rattle.mesh_tie.specs.Sources.{Nothing, word_of}

-- each packet of a frame is so
abbrev Within : (Packet → Type 0) → LinkFrame → Type 0
Within Q frame = (packet : Packet) → Has frame.packets packet → Q packet

abbrev pub EachPacket : (Packet → Type 0) → List ℕ → Type 0
EachPacket Q bytes = Within Q (link_frame bytes)

-- a shape of a type byte, of which each packet is so
pub record IsKind (s : Shape) (Q : Packet → Type 0) : Type 0 where
  pub by_type : shape_of_type s.kind ≡ Some s
  pub heads : (fields : List ℕ) → shape_of (head_in s.fields s.head fields) ≡ s
  pub each : (fields tail : List ℕ) → Q (record { head = head_in s.fields s.head fields; tail = tail })

-- the frames behind a packet of a shape begin with its type byte
abbrev Further : Shape → (Packet → Type 0) → (List ℕ → LinkFrame) → Type 0
Further s Q further = (rest : List ℕ) → slice_index rest 0 ≡ s.kind → Within Q (further rest)

followed_by : (s : Shape) (rest : List ℕ) → is_followed s rest ≡ true → slice_index rest 0 ≡ s.kind
followed_by s rest is =
    let header = (and_parts (s.kind == iv_ogm_type || s.kind == ogm2_type) (begin_header s rest) is).1 in
    let begins = (and_parts ((slice_index rest 0 == s.kind) && (slice_index rest 1 == compat_version)) (nat_le (header_size s) (length rest)) header).0 in
    eqb-true (slice_index rest 0) s.kind (and_parts (slice_index rest 0 == s.kind) (slice_index rest 1 == compat_version) begins).0

behind_each : (s : Shape) (Q : Packet → Type 0) (further : List ℕ → LinkFrame) → Further s Q further → (front : Front) → shape_of front.packet.head ≡ s → (flaw : Option TvlvErr) → Within Q (behind further front flaw)
behind_each s Q further more front of (Some flaw) packet has = absurd has
behind_each s Q further more front of None packet has = go (is_followed (shape_of front.packet.head) front.rest) refl has
  where
    go : (b : Bool) → is_followed (shape_of front.packet.head) front.rest ≡ b → Has (cond b (further front.rest) (only_ending (Rest (length front.rest)))).packets packet → Q packet
    go true is has = more front.rest (followed_by s front.rest (ap (λ x. is_followed x front.rest) (sym of) ∙ is)) packet has
    go false is has = absurd has

cut_each : (s : Shape) (Q : Packet → Type 0) → IsKind s Q → (further : List ℕ → LinkFrame) → Further s Q further → (fields : List ℕ) (len : ℕ) (after : List ℕ) → Within Q (frame_from further (packet_cut (head_in s.fields s.head fields) len after))
cut_each s Q k further more fields len after packet has = go (nat_lt (length after) len) has
  where
    front : Front
    front = record { packet = record { head = head_in s.fields s.head fields; tail = take len after }; rest = drop len after }

    go : (b : Bool) → Has (frame_from further (cond b (Err (Length len (length after))) (Ok front))).packets packet → Q packet
    go true has = absurd has
    go false (inl is) = subst Q (sym is) (k.each fields (take len after))
    go false (inr has) = behind_each s Q further more front (k.heads fields) (packet_flaw front.packet) packet has

shape_each : (s : Shape) (Q : Packet → Type 0) → IsKind s Q → (further : List ℕ → LinkFrame) → Further s Q further → (kind : ℕ) (bytes : List ℕ) → Within Q (frame_from further (packet_of_shape kind (Some s) bytes))
shape_each s Q k further more kind bytes packet has = go (nat_lt (length bytes) (header_size s)) has
  where
    fields : List ℕ
    fields = drop prefix_size bytes

    after : List ℕ
    after = drop (header_size s) bytes

    len : ℕ
    len = tail_length s.tail (told_in s.fields fields) (length after)

    go : (b : Bool) → Has (frame_from further (cond b (Err (Short (length bytes) (header_size s))) (packet_cut (head_in s.fields s.head fields) len after))).packets packet → Q packet
    go true has = absurd has
    go false has = cut_each s Q k further more fields len after packet has

frame_each : (s : Shape) (Q : Packet → Type 0) → IsKind s Q → (n : ℕ) (bytes : List ℕ) → slice_index bytes 0 ≡ s.kind → Within Q (frame_within n bytes)
unfolding frame_within first_packet
frame_each s Q k zero bytes is packet has = absurd has
frame_each s Q k (suc n) [] is packet has = absurd has
frame_each s Q k (suc n) (kind ∷ []) is packet has = absurd has
frame_each s Q k (suc n) (kind ∷ version ∷ fields) is packet has = go (λ rest first. frame_each s Q k n rest first) (version == compat_version) has
  where
    bytes : List ℕ
    bytes = kind ∷ version ∷ fields

    go : Further s Q (frame_within n) → (b : Bool) → Has (frame_from (frame_within n) (cond b (packet_of_shape kind (shape_of_type kind) bytes) (Err (Version version)))).packets packet → Q packet
    go more true has = shape_each s Q k (frame_within n) more kind bytes packet
        (subst (λ o. Has (frame_from (frame_within n) (packet_of_shape kind o bytes)).packets packet) (ap shape_of_type is ∙ k.by_type) has)
    go more false has = absurd has

pub kind_each : (s : Shape) (Q : Packet → Type 0) → IsKind s Q → (bytes : List ℕ) → slice_index bytes 0 ≡ s.kind → EachPacket Q bytes
unfolding link_frame
kind_each s Q k bytes is = frame_each s Q k (suc (length bytes)) bytes is

-- ---- packets that are nothing to tables
-- every packet of a frame is nothing to tables
abbrev pub TellsNothing : List ℕ → Type 0
TellsNothing bytes = EachPacket (λ packet. word_of packet.head ≡ Nothing) bytes

nothing_of : (s : Shape) → IsKind s (λ packet. word_of packet.head ≡ Nothing) → (fields : List ℕ) → TellsNothing (s.kind ∷ fields)
nothing_of s k fields = kind_each s (λ packet. word_of packet.head ≡ Nothing) k (s.kind ∷ fields) refl

pub unicast_frame : (fields : List ℕ) → TellsNothing (64 ∷ fields)
unicast_frame fields = nothing_of unicast (record { by_type = refl; heads = λ f. refl; each = λ f tail. refl }) fields

pub bcast_frame : (fields : List ℕ) → TellsNothing (1 ∷ fields)
bcast_frame fields = nothing_of bcast (record { by_type = refl; heads = λ f. refl; each = λ f tail. refl }) fields

pub elp_frame : (fields : List ℕ) → TellsNothing (3 ∷ fields)
elp_frame fields = nothing_of elp (record { by_type = refl; heads = λ f. refl; each = λ f tail. refl }) fields

pub frag_frame : (fields : List ℕ) → TellsNothing (65 ∷ fields)
frag_frame fields = nothing_of frag (record { by_type = refl; heads = λ f. refl; each = λ f tail. refl }) fields

pub unicast4_frame : (fields : List ℕ) → TellsNothing (66 ∷ fields)
unicast4_frame fields = nothing_of unicast4 (record { by_type = refl; heads = λ f. refl; each = λ f tail. refl }) fields

pub icmp_frame : (fields : List ℕ) → TellsNothing (67 ∷ fields)
icmp_frame fields = nothing_of icmp (record { by_type = refl; heads = λ f. refl; each = λ f tail. refl }) fields
