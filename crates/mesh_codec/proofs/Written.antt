-- A written packet is read again.
use Rattle.std.proofs.Common.{◌≡◌, ◌≢◌, ℕ, List, [], ◌∷◌, ◌++◌, length, refl, sym, ap, subst, append_assoc, arith}
use Rattle.std.specs.List.{flat_map, AllByRecursion}
use Rattle.std.proofs.lemmas.List.{append-nil, length-append, length-replicate}
use Rattle.mesh_model.specs.declared.packet.Head.{Head}
use Rattle.mesh_model.specs.declared.packet.Head.TheVariants.{IvOgm, Bcast, Elp, Ogm2, Unicast, Frag, Unicast4, Icmp, Utvlv}
use Rattle.mesh_model.specs.Packets.Layout.{Part, Holds, Fits, BeginWith, IsTail, IsPacket, HasSpelling, header_of, part_spelling, spelling}
use Rattle.mesh_model.specs.Packets.Layout.Part.{number, address, fragment, reserved}
use Rattle.mesh_model.specs.Packets.Shapes.{TailKind, header_size, shape_of}
use Rattle.mesh_model.specs.Packets.Shapes.TailKind.{containers, all_the_rest, nothing}
use Rattle.mesh_laws.proofs.HeaderLemmas.{begin_length, header_width}
use Rattle.mesh_codec.specs.Encoding.{FitsFragment}
use Rattle.mesh_codec.proofs.Decoded.{one_packet}

-- what a part is written as holds it
written_holds : (part : Part) → Holds (part_spelling part) part
written_holds (number size value) = refl
written_holds (address mac) = refl
written_holds (fragment index priority) =
    (0, omega arith, ap (λ (b : ℕ). b ∷ []) (omega arith))
written_holds (reserved size) = length-replicate size 0

-- what parts are written as begins with them
pub written_begin : (parts : List Part) (others : List ℕ) → AllByRecursion Fits parts → BeginWith (flat_map part_spelling parts ++ others) parts others
written_begin [] others fits = refl
written_begin (part ∷ parts) others fits = (
  flat_map part_spelling parts ++ others,
  record {
    front = part_spelling part;
    holds = written_holds part;
    fits = fits.0;
    parts = append_assoc (part_spelling part) (flat_map part_spelling parts) others;
  },
  written_begin parts others fits.1,
)

-- a written packet before more bytes, of which its kind takes none
read_before : (head : Head) (tail more : List ℕ) → HasSpelling head tail → IsTail (shape_of head).tail tail more
    → IsPacket (spelling head tail ++ more) head tail (length (spelling head tail))
read_before head tail more has tail_is =
    let parts = header_of head (length tail) in
    let begins = written_begin parts (tail ++ more) has.parts in
    let whole = sym (append_assoc (flat_map part_spelling parts) tail more) in
    record {
      rest = more;
      header = subst (λ (bytes : List ℕ). BeginWith bytes parts (tail ++ more)) whole begins;
      tail_is = tail_is;
      used_is = sym (length-append (spelling head tail) more);
    }

-- a tail that isn't all the rest may be followed by more
tail_before : (kind : TailKind) (tail more : List ℕ) → kind ≢ all_the_rest → IsTail kind tail [] → IsTail kind tail more
tail_before containers tail more other is = tt
tail_before all_the_rest tail more other is = absurd (other refl)
tail_before nothing tail more other is = is

pub read_before_more : (head : Head) (tail more : List ℕ) → HasSpelling head tail → (shape_of head).tail ≢ all_the_rest
    → IsPacket (spelling head tail ++ more) head tail (length (spelling head tail))
read_before_more head tail more has other =
    read_before head tail more has (tail_before (shape_of head).tail tail more other has.tail_is)

pub read_alone : (head : Head) (tail : List ℕ) → HasSpelling head tail → IsPacket (spelling head tail) head tail (length (spelling head tail))
read_alone head tail has =
    subst (λ (bytes : List ℕ). IsPacket bytes head tail (length (spelling head tail))) (append-nil (spelling head tail)) (read_before head tail [] has has.tail_is)

pub one_spelling : (head other : Head) (tail others : List ℕ) → HasSpelling head tail → HasSpelling other others
    → spelling head tail ≡ spelling other others → (head ≡ other) × (tail ≡ others)
one_spelling head other tail others has had same =
    let second = subst (λ (bytes : List ℕ). IsPacket bytes other others (length (spelling other others))) (sym same) (read_alone other others had) in
    let one = one_packet (spelling head tail) head other tail others (length (spelling head tail)) (length (spelling other others)) (read_alone head tail has) second in
    (one.0, one.1)

pub shape_size : (head : Head) (tail : List ℕ) → HasSpelling head tail
    → length (flat_map part_spelling (header_of head (length tail))) ≡ header_size (shape_of head)
shape_size head tail has =
    let parts = header_of head (length tail) in
    let whole = begin_length (flat_map part_spelling parts ++ []) parts [] (written_begin parts [] has.parts) in
    omega (arith, whole, length-append (flat_map part_spelling parts) [], header_width head (length tail))

-- the parts that begin bytes fit
begin_fit : (bytes : List ℕ) (parts : List Part) (others : List ℕ) → BeginWith bytes parts others → AllByRecursion Fits parts
begin_fit bytes [] others begins = tt
begin_fit bytes (part ∷ parts) others begins = (begins.1.fits, begin_fit begins.0 parts others begins.2)

-- a tail that was there is a whole one
whole_tail : (kind : TailKind) (tail rest : List ℕ) → IsTail kind tail rest → IsTail kind tail []
whole_tail containers tail rest is = tt
whole_tail all_the_rest tail rest is = refl
whole_tail nothing tail rest is = is

-- where the parts fit a fragment's place is small
fits_fragment : (head : Head) (told : ℕ) → AllByRecursion Fits (header_of head told) → FitsFragment head
fits_fragment (IvOgm ttl flags seq orig prev tq) told fits = tt
fits_fragment (Bcast ttl seq orig) told fits = tt
fits_fragment (Elp orig seq interval) told fits = tt
fits_fragment (Ogm2 ttl flags seq orig throughput) told fits = tt
fits_fragment (Unicast ttl ttvn dst) told fits = tt
fits_fragment (Frag ttl index priority dst orig seq total) told fits = fits.1.1.1.0
fits_fragment (Unicast4 ttl ttvn dst src subtype) told fits = tt
fits_fragment (Icmp ttl msg dst orig uid seq) told fits = tt
fits_fragment (Utvlv ttl dst src) told fits = tt

pub can_be_written : (bytes : List ℕ) (head : Head) (tail : List ℕ) (used : ℕ) → IsPacket bytes head tail used → HasSpelling head tail × FitsFragment head
can_be_written bytes head tail used p =
    let fits = begin_fit bytes (header_of head (length tail)) (tail ++ p.rest) p.header in
    (record { parts = fits; tail_is = whole_tail (shape_of head).tail tail p.rest p.tail_is }, fits_fragment head (length tail) fits)
