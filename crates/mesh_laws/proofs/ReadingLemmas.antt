-- What is read from the bytes of a header, field by field, is the head whose header they hold.
use Rattle.std.proofs.Common.{◌≡◌, ℕ, ◌/◌, ◌%◌, List, [], ◌∷◌, ◌++◌, take, drop, refl, sym, ap, ◌∙◌, arith}
use Rattle.std.specs.Prelude.{⊤}
use Rattle.std.proofs.lemmas.List.{take_at, drop_at}
use Rattle.byteorder.specs.Endian.{big_number}
use Rattle.byteorder.specs.Numbers.{big_number-reads_back}
use Rattle.mesh_model.specs.declared.packet.Head.{Head}
use Rattle.mesh_model.specs.declared.packet.Head.TheVariants.{IvOgm, Bcast, Elp, Ogm2, Unicast, Frag, Unicast4, Icmp, Utvlv}
use Rattle.mesh_model.specs.Packets.Shapes.{Field, HeadFrom, TailKind, shape_of}
use Rattle.mesh_model.specs.Packets.Shapes.Field.{number as number_field, address as address_field, reserved as reserved_field, tvlv_length, fragment as fragment_field}
use Rattle.mesh_model.specs.Packets.Shapes.TailKind.{containers, all_the_rest, nothing}
use Rattle.mesh_model.specs.Packets.Layout.{Part, Values, Holds, Fits, BeginsWith, BeginWith, filled, values_of}
use Rattle.mesh_model.specs.Packets.Layout.Part.{number, address, fragment, reserved}
use Rattle.mesh_model.specs.Packets.FirstPacket.{head_in, told_in}
use Rattle.mesh_laws.proofs.HeaderLemmas.{size_of, held_length}

-- what is read at the front of bytes is the part
abbrev pub ReadsAs : Part → List ℕ → Type 0
ReadsAs (number size value) bytes = big_number size bytes ≡ value
ReadsAs (address mac) bytes = record { 0 = take 6 bytes } ≡ mac
ReadsAs (fragment index priority) bytes = (big_number 1 bytes / 16 ≡ index) × (big_number 1 bytes / 2 % 8 ≡ priority)
ReadsAs (reserved size) bytes = ⊤

-- what holds a part reads as it, whatever follows
held_reads : (front next : List ℕ) (part : Part) → Holds front part → Fits part → ReadsAs part (front ++ next)
held_reads front next (number size value) holds fits = rw holds (big_number-reads_back size value next fits)
held_reads front next (address mac) holds fits =
    ap (λ (bytes : List ℕ). record { 0 = bytes }) (take_at front next 6 (rw holds fits.0) ∙ holds)
held_reads front next (fragment index priority) holds fits = rw holds.2 (omega (arith, holds.1, fits.0, fits.1), omega (arith, holds.1, fits.0, fits.1))
held_reads front next (reserved size) holds fits = tt

-- a part at the front is read there, and the others stand behind it
record IsRead (bytes : List ℕ) (part : Part) (next : List ℕ) : Type 0 where
  reads : ReadsAs part bytes
  next_is : next ≡ drop (size_of part) bytes

part_read : (bytes : List ℕ) (part : Part) (next : List ℕ) → BeginsWith bytes part next → IsRead bytes part next
part_read bytes part next begins = record {
  reads = rw begins.parts (held_reads begins.front next part begins.holds begins.fits);
  next_is = rw begins.parts (sym (drop_at begins.front next (size_of part) (held_length begins.front part begins.holds begins.fits)));
}

-- the head that these values make
abbrev pub made : (fields : List Field) → HeadFrom fields → Values fields → Head
made [] head values = head
made (number_field size ∷ fields) make values = made fields (make values.0) values.1
made (address_field ∷ fields) make values = made fields (make values.0) values.1
made (reserved_field size ∷ fields) make values = made fields make values
made (tvlv_length ∷ fields) make values = made fields make values
made (fragment_field ∷ fields) make values = made fields (make values.0 values.1.0) values.1.1

-- the length that fields tell where they are filled with this one; 0 where they tell none
abbrev pub tells : List Field → ℕ → ℕ
tells [] told = 0
tells (number_field size ∷ fields) told = tells fields told
tells (address_field ∷ fields) told = tells fields told
tells (reserved_field size ∷ fields) told = tells fields told
tells (tvlv_length ∷ fields) told = told
tells (fragment_field ∷ fields) told = tells fields told

-- fields that are filled are read
pub record AreRead (fields : List Field) (make : HeadFrom fields) (values : Values fields) (told : ℕ) (bytes : List ℕ) : Type 0 where
  pub head : head_in fields make bytes ≡ made fields make values
  pub length_is : told_in fields bytes ≡ tells fields told

pub fields_read : (fields : List Field) (make : HeadFrom fields) (values : Values fields) (told : ℕ) (bytes others : List ℕ)
    → BeginWith bytes (filled fields values told) others → AreRead fields make values told bytes
fields_read [] make values told bytes others begins = record { head = refl; length_is = refl }
fields_read (number_field size ∷ fields) make values told bytes others begins =
    let first = part_read bytes (number size values.0) begins.0 begins.1 in
    let more = fields_read fields (make values.0) values.1 told begins.0 others begins.2 in
    record { head = rw (first.reads, ← first.next_is) more.head; length_is = rw (← first.next_is) more.length_is }
fields_read (address_field ∷ fields) make values told bytes others begins =
    let first = part_read bytes (address values.0) begins.0 begins.1 in
    let more = fields_read fields (make values.0) values.1 told begins.0 others begins.2 in
    record { head = rw (first.reads, ← first.next_is) more.head; length_is = rw (← first.next_is) more.length_is }
fields_read (reserved_field size ∷ fields) make values told bytes others begins =
    let first = part_read bytes (reserved size) begins.0 begins.1 in
    let more = fields_read fields make values told begins.0 others begins.2 in
    record { head = rw (← first.next_is) more.head; length_is = rw (← first.next_is) more.length_is }
fields_read (tvlv_length ∷ fields) make values told bytes others begins =
    let first = part_read bytes (number 2 told) begins.0 begins.1 in
    let more = fields_read fields make values told begins.0 others begins.2 in
    record { head = rw (← first.next_is) more.head; length_is = first.reads }
fields_read (fragment_field ∷ fields) make values told bytes others begins =
    let first = part_read bytes (fragment values.0 values.1.0) begins.0 begins.1 in
    let more = fields_read fields (make values.0 values.1.0) values.1.1 told begins.0 others begins.2 in
    record { head = rw (first.reads.0, first.reads.1, ← first.next_is) more.head; length_is = rw (← first.next_is) more.length_is }

-- the values in a head make it
pub made_again : (head : Head) → made (shape_of head).fields (shape_of head).head (values_of head) ≡ head
made_again (IvOgm ttl flags seq orig prev tq) = refl
made_again (Bcast ttl seq orig) = refl
made_again (Elp orig seq interval) = refl
made_again (Ogm2 ttl flags seq orig throughput) = refl
made_again (Unicast ttl ttvn dst) = refl
made_again (Frag ttl index priority dst orig seq total) = refl
made_again (Unicast4 ttl ttvn dst src subtype) = refl
made_again (Icmp ttl msg dst orig uid seq) = refl
made_again (Utvlv ttl dst src) = refl

-- the length that a header with a tail of this kind tells
abbrev pub telling : TailKind → ℕ → ℕ
telling containers told = told
telling all_the_rest told = 0
telling nothing told = 0

-- a shape tells a length exactly where containers follow
pub tells_as_tail : (head : Head) (told : ℕ) → tells (shape_of head).fields told ≡ telling (shape_of head).tail told
tells_as_tail (IvOgm ttl flags seq orig prev tq) told = refl
tells_as_tail (Bcast ttl seq orig) told = refl
tells_as_tail (Elp orig seq interval) told = refl
tells_as_tail (Ogm2 ttl flags seq orig throughput) told = refl
tells_as_tail (Unicast ttl ttvn dst) told = refl
tells_as_tail (Frag ttl index priority dst orig seq total) told = refl
tells_as_tail (Unicast4 ttl ttvn dst src subtype) told = refl
tells_as_tail (Icmp ttl msg dst orig uid seq) told = refl
tells_as_tail (Utvlv ttl dst src) told = refl
