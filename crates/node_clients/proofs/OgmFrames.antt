-- A link frame that begins as an originator message names no client that roamed, since each packet
-- of it is one.
use Rattle.std.proofs.Common.{◌≡◌, ℕ, zero, suc, ◌==◌, ◌||◌, nat_lt, nat_le, Bool, true, false, cond, List, [], ◌∷◌, length, take, drop, slice_index, Option, Some, None, Ok, Err, refl, sym, ap, ap₂, subst, ◌∙◌}
use Rattle.std.specs.Prelude.{◌&&◌, filter_map}
use Rattle.std.specs.List.{cons_option}
use Rattle.std.proofs.lemmas.Bool.{and_parts, eqb-true}
use Rattle.mesh_base.specs.declared.address.Mac.{Mac}
use Rattle.mesh_model.specs.declared.link_frame.Ending.TheVariants.{Rest}
use Rattle.mesh_model.specs.declared.link_frame.NoPacket.TheVariants.{Length, Short, Version}
use Rattle.mesh_model.specs.declared.link_frame.TvlvErr.{TvlvErr}
use Rattle.mesh_model.specs.Clients.Mentions.{roamed_by}
use Rattle.mesh_model.specs.Packets.FirstPacket.{Front, first_packet, head_in, packet_cut, packet_of_shape, tail_length, told_in}
use Rattle.mesh_model.specs.Packets.LinkFrame.{LinkFrame, begin_header, behind, frame_from, frame_within, is_followed, link_frame, only_ending, packet_flaw}
use Rattle.mesh_model.specs.Packets.Numbers.{compat_version, iv_ogm_type, ogm2_type}
use Rattle.mesh_model.specs.Packets.Shapes.{Shape, header_size, iv_ogm, ogm2, prefix_size, shape_of, shape_of_type}

-- a link frame names no client that roamed
abbrev NamesNone : Mac → ℕ → LinkFrame → Type 0
NamesNone me now frame = filter_map (roamed_by me now) frame.packets ≡ []

-- a shape of a type byte, of which no packet names a client that roamed
record IsSilent (s : Shape) : Type 0 where
  by_type : shape_of_type s.kind ≡ Some s
  heads : (fields : List ℕ) → shape_of (head_in s.fields s.head fields) ≡ s
  none : (me : Mac) (now : ℕ) (fields tail : List ℕ) → roamed_by me now (record { head = head_in s.fields s.head fields; tail = tail }) ≡ None

module _ (me : Mac) (now : ℕ) (s : Shape) (k : IsSilent s) where
  -- the frames behind a packet of the shape begin with its type byte
  abbrev Further : (List ℕ → LinkFrame) → Type 0
  Further further = (rest : List ℕ) → slice_index rest 0 ≡ s.kind → NamesNone me now (further rest)

  followed_by : (rest : List ℕ) → is_followed s rest ≡ true → slice_index rest 0 ≡ s.kind
  followed_by rest is =
      let header = (and_parts (s.kind == iv_ogm_type || s.kind == ogm2_type) (begin_header s rest) is).1 in
      let begins = (and_parts ((slice_index rest 0 == s.kind) && (slice_index rest 1 == compat_version)) (nat_le (header_size s) (length rest)) header).0 in
      eqb-true (slice_index rest 0) s.kind (and_parts (slice_index rest 0 == s.kind) (slice_index rest 1 == compat_version) begins).0

  behind_none : (further : List ℕ → LinkFrame) → Further further → (front : Front) → shape_of front.packet.head ≡ s → (flaw : Option TvlvErr) → NamesNone me now (behind further front flaw)
  behind_none further more front of (Some flaw) = refl
  behind_none further more front of None = go (is_followed (shape_of front.packet.head) front.rest) refl
    where
      go : (b : Bool) → is_followed (shape_of front.packet.head) front.rest ≡ b → NamesNone me now (cond b (further front.rest) (only_ending (Rest (length front.rest))))
      go true is = more front.rest (followed_by front.rest (ap (λ x. is_followed x front.rest) (sym of) ∙ is))
      go false is = refl

  cut_none : (further : List ℕ → LinkFrame) → Further further → (fields : List ℕ) (len : ℕ) (after : List ℕ) → NamesNone me now (frame_from further (packet_cut (head_in s.fields s.head fields) len after))
  cut_none further more fields len after = go (nat_lt (length after) len)
    where
      front : Front
      front = record { packet = record { head = head_in s.fields s.head fields; tail = take len after }; rest = drop len after }

      go : (b : Bool) → NamesNone me now (frame_from further (cond b (Err (Length len (length after))) (Ok front)))
      go true = refl
      go false = ap₂ (λ o ms. cons_option o ms) (k.none me now fields (take len after)) (behind_none further more front (k.heads fields) (packet_flaw front.packet))

  shape_none : (further : List ℕ → LinkFrame) → Further further → (kind : ℕ) (bytes : List ℕ) → NamesNone me now (frame_from further (packet_of_shape kind (Some s) bytes))
  shape_none further more kind bytes = go (nat_lt (length bytes) (header_size s))
    where
      fields : List ℕ
      fields = drop prefix_size bytes

      after : List ℕ
      after = drop (header_size s) bytes

      go : (b : Bool) → NamesNone me now (frame_from further (cond b (Err (Short (length bytes) (header_size s))) (packet_cut (head_in s.fields s.head fields) (tail_length s.tail (told_in s.fields fields) (length after)) after)))
      go true = refl
      go false = cut_none further more fields (tail_length s.tail (told_in s.fields fields) (length after)) after

  frame_none : (n : ℕ) (bytes : List ℕ) → slice_index bytes 0 ≡ s.kind → NamesNone me now (frame_within n bytes)
  unfolding frame_within first_packet
  frame_none zero bytes is = refl
  frame_none (suc n) [] is = refl
  frame_none (suc n) (kind ∷ []) is = refl
  frame_none (suc n) (kind ∷ version ∷ fields) is = go (λ rest first. frame_none n rest first) (version == compat_version)
    where
      bytes : List ℕ
      bytes = kind ∷ version ∷ fields

      go : Further (frame_within n) → (b : Bool) → NamesNone me now (frame_from (frame_within n) (cond b (packet_of_shape kind (shape_of_type kind) bytes) (Err (Version version))))
      go more true = subst (λ o. NamesNone me now (frame_from (frame_within n) (packet_of_shape kind o bytes))) (sym (ap shape_of_type is ∙ k.by_type)) (shape_none (frame_within n) more kind bytes)
      go more false = refl

  silent_frame : (bytes : List ℕ) → slice_index bytes 0 ≡ s.kind → NamesNone me now (link_frame bytes)
  unfolding link_frame
  silent_frame bytes is = frame_none (suc (length bytes)) bytes is

-- a frame that begins with the type byte of either kind of originator message
pub iv_names_none : (me : Mac) (now : ℕ) (bytes : List ℕ) → slice_index bytes 0 ≡ iv_ogm_type → filter_map (roamed_by me now) (link_frame bytes).packets ≡ []
iv_names_none me now bytes is = silent_frame me now iv_ogm (record { by_type = refl; heads = λ f. refl; none = λ me now f tail. refl }) bytes is

pub v_names_none : (me : Mac) (now : ℕ) (bytes : List ℕ) → slice_index bytes 0 ≡ ogm2_type → filter_map (roamed_by me now) (link_frame bytes).packets ≡ []
v_names_none me now bytes is = silent_frame me now ogm2 (record { by_type = refl; heads = λ f. refl; none = λ me now f tail. refl }) bytes is
