-- Text that grows by lines: those of a table, of the containers of a tail, of the packets of a link frame.
use Rattle.std.proofs.Common.{◌≡◌, ℕ, List, [], ◌∷◌, ◌++◌, refl, sym, ap, ap₂, ◌∙◌, Bool, true, false, append_assoc, Option, Some, None, Ok}
use Rattle.std.specs.Prelude.{map, flat_map, take_while, is_some, option_map, ok_or, cond}
use Rattle.std.specs.List.{concat}
use Rattle.std.proofs.lemmas.List.{append-nil}
use Rattle.std.proofs.lemmas.List.Sums.{take_while-cons}
use Rattle.mesh_model.specs.declared.link_frame.Ending.{Ending}
use Rattle.mesh_model.specs.declared.link_frame.TvlvErr.{TvlvErr}
use Rattle.mesh_model.specs.Packets.Bodies.{TtData, TtPart}
use Rattle.mesh_model.specs.Packets.Containers.{Container, containers_of}
use Rattle.mesh_model.specs.Packets.Contents.{Content, content_of, is_long_enough}
use Rattle.mesh_model.specs.Packets.Contents.Content.{part, translation}
use Rattle.mesh_model.specs.Packets.FirstPacket.{Packet}
use Rattle.mesh_model.specs.Packets.LinkFrame.{LinkFrame, link_frame, only_ending, put_before}
use Rattle.mesh_model.specs.Text.Tables.{vlan_line}
use Rattle.mesh_model.specs.Text.ContainerLines.{table_start, part_start, change_line, content_lines, container_lines, rows_of_table}
use Rattle.mesh_model.specs.Text.Decode.{decode_text, ending_lines, frame_lines, packet_lines}
use Rattle.mesh_tvlv.specs.Translation.{table_and_place}
use Rattle.mesh_tvlv.specs.Walk.{Walk, walk_over, to_come}
use Rattle.batctl_text.specs.Inner.Parts.{Grows}
use Rattle.batctl_text.specs.Inner.Printed.{IsPrinted}
use Rattle.batctl_text.proofs.LinesLemmas.{concat-append, concat-map}

pub grows-refl : (old : List ℕ) → Grows old old
grows-refl old = record { more = []; kept = sym (append-nil old) }

pub grows-more : (old text new lines : List ℕ) → Grows old text → new ≡ text ++ lines → Grows old new
grows-more old text new lines grown is = record {
  more = grown.more ++ lines;
  kept = is ∙ ap (λ (t : List ℕ). t ++ lines) grown.kept ∙ append_assoc old grown.more lines;
}

pub grows-trans : (old text new : List ℕ) → Grows old text → Grows text new → Grows old new
grows-trans old text new grown more = grows-more old text new more.more grown more.kept

-- ---- a translation table

-- a first line, and the lines of the VLANs and the records
rows_printed : (old head first second new : List ℕ) (table : TtData) → first ≡ old ++ head → second ≡ first ++ flat_map vlan_line table.vlans → new ≡ second ++ flat_map change_line table.changes
    → new ≡ old ++ (head ++ concat (rows_of_table table))
rows_printed old head first second new table start vlans changes =
    let middle = flat_map vlan_line table.vlans in
    let last = flat_map change_line table.changes in
    let lines : concat (map vlan_line table.vlans ++ map change_line table.changes) ≡ middle ++ last =
    concat-append (map vlan_line table.vlans) (map change_line table.changes) ∙ ap₂ (λ (a b : List ℕ). a ++ b) (concat-map vlan_line table.vlans) (concat-map change_line table.changes) in
    changes ∙ ap (λ (t : List ℕ). t ++ last) (vlans ∙ ap (λ (t : List ℕ). t ++ middle) start)
    ∙ ap (λ (t : List ℕ). t ++ last) (append_assoc old head middle) ∙ append_assoc old (head ++ middle) last
    ∙ ap (λ (t : List ℕ). old ++ t) (append_assoc head middle last ∙ ap (λ (t : List ℕ). head ++ t) (sym lines))

pub table_printed : (old first second new : List ℕ) (container : Container) (body : Option TtData) (fault : TvlvErr) (table : TtData) → Ok table ≡ ok_or body fault
    → first ≡ old ++ table_start container table → second ≡ first ++ flat_map vlan_line table.vlans → new ≡ second ++ flat_map change_line table.changes
    → IsPrinted old new container (option_map translation body) true
table_printed old first second new container None fault table is start vlans changes = absurd cc
table_printed old first second new container (Some told) fault table is start vlans changes =
    let same : told ≡ table = cc in
    record {
      whole_is = refl;
      text_is = rw same (rows_printed old (table_start container table) first second new table start vlans changes);
    }

pub part_printed : (old first second new : List ℕ) (container : Container) (body : Option TtPart) (fault : TvlvErr) (table : TtData) (number count : ℕ)
    → Ok (table, number, count) ≡ ok_or (option_map table_and_place body) fault
    → first ≡ old ++ part_start container (record { table = table; number = number; count = count }) → second ≡ first ++ flat_map vlan_line table.vlans
    → new ≡ second ++ flat_map change_line table.changes → IsPrinted old new container (option_map part body) true
part_printed old first second new container None fault table number count is start vlans changes = absurd cc
part_printed old first second new container (Some told) fault table number count is start vlans changes =
    let places : table_and_place told ≡ (table, number, count) = cc in
    let same : told ≡ record { table = table; number = number; count = count } =
    ap (λ (p : TtData × ℕ × ℕ). let one : TtPart = record { table = p.0; number = p.1; count = p.2 } in one) places in
    record {
      whole_is = refl;
      text_is = rw same (rows_printed old (part_start container (record { table = table; number = number; count = count })) first second new table start vlans changes);
    }

-- ---- containers

-- the text of these containers, up to the first that is too short
abbrev sound_text : List Container → List ℕ
sound_text containers = concat (flat_map container_lines (take_while is_long_enough containers))

-- a walk behind containers whose lines were appended
pub record StandsAt (old tail text : List ℕ) (walk : Walk) : Type 0 where
  pub text_is : text ++ sound_text (to_come walk) ≡ old ++ sound_text (containers_of tail)
  pub grown : Grows old text

pub stands-start : (old tail : List ℕ) → StandsAt old tail old (walk_over tail)
stands-start old tail = record { text_is = refl; grown = grows-refl old }

-- one container more that is long enough, and one that isn't
one_more : (c : Container) (cs : List Container) → is_long_enough c ≡ true → sound_text (c ∷ cs) ≡ concat (container_lines c) ++ sound_text cs
one_more c cs long =
    ap (λ (all : List Container). concat (flat_map container_lines all)) (take_while-cons is_long_enough c cs
    ∙ ap (λ (b : Bool). cond b (c ∷ take_while is_long_enough cs) []) long)
    ∙ concat-append (container_lines c) (flat_map container_lines (take_while is_long_enough cs))

no_more : (c : Container) (cs : List Container) → is_long_enough c ≡ false → sound_text (c ∷ cs) ≡ []
no_more c cs short = ap (λ (all : List Container). concat (flat_map container_lines all)) (take_while-cons is_long_enough c cs
    ∙ ap (λ (b : Bool). cond b (c ∷ take_while is_long_enough cs) []) short)

-- behind a container that is long enough
pub stands-behind : (old tail text new : List ℕ) (walk next : Walk) (c : Container) (whole : Bool) → StandsAt old tail text walk → to_come walk ≡ c ∷ to_come next
    → IsPrinted text new c (content_of c) whole → whole ≡ true → StandsAt old tail new next
stands-behind old tail text new walk next c whole at come printed long = record {
  text_is = ap (λ (t : List ℕ). t ++ sound_text (to_come next)) printed.text_is
      ∙ append_assoc text (concat (container_lines c)) (sound_text (to_come next))
      ∙ ap (λ (t : List ℕ). text ++ t) (sym (one_more c (to_come next) (sym printed.whole_is ∙ long)) ∙ ap sound_text (sym come)) ∙ at.text_is;
  grown = grows-more old text new (concat (container_lines c)) at.grown printed.text_is;
}

-- no line of one that is too short
short_lines : (c : Container) (content : Option Content) → is_some content ≡ false → concat (content_lines c content) ≡ []
short_lines c None short = refl
short_lines c (Some content) short = absurd cc

-- the end, at a container that is too short
pub ends-short : (old tail text new : List ℕ) (walk next : Walk) (c : Container) (whole : Bool) → StandsAt old tail text walk → to_come walk ≡ c ∷ to_come next
    → IsPrinted text new c (content_of c) whole → whole ≡ false → new ≡ old ++ sound_text (containers_of tail)
ends-short old tail text new walk next c whole at come printed short =
    let is_short : is_long_enough c ≡ false = sym printed.whole_is ∙ short in
    printed.text_is ∙ ap (λ (t : List ℕ). text ++ t) (short_lines c (content_of c) is_short ∙ sym (no_more c (to_come next) is_short) ∙ ap sound_text (sym come)) ∙ at.text_is

-- the end, where no container is left
pub ends-all : (old tail text : List ℕ) (walk : Walk) → StandsAt old tail text walk → to_come walk ≡ [] → text ≡ old ++ sound_text (containers_of tail)
ends-all old tail text walk at none = sym (append-nil text) ∙ ap (λ (cs : List Container). text ++ sound_text cs) (sym none) ∙ at.text_is

-- ---- link frames

-- a link frame behind packets whose lines were appended
pub record StandsBefore (old bytes text : List ℕ) (frame : LinkFrame) : Type 0 where
  pub text_is : text ++ concat (frame_lines frame) ≡ old ++ decode_text bytes
  pub grown : Grows old text

pub frame-start : (old bytes : List ℕ) → StandsBefore old bytes old (link_frame bytes)
unfolding decode_text
frame-start old bytes = record { text_is = refl; grown = grows-refl old }

-- the lines of a frame whose first packet this is
first_lines : (packet : Packet) (frame : LinkFrame) → concat (frame_lines (put_before packet frame)) ≡ concat (packet_lines packet) ++ concat (frame_lines frame)
first_lines packet frame =
    let others = flat_map packet_lines frame.packets in
    ap concat (append_assoc (packet_lines packet) others (ending_lines frame.ending)) ∙ concat-append (packet_lines packet) (frame_lines frame)

pub frame-behind : (old bytes text new : List ℕ) (frame next : LinkFrame) (packet : Packet) → StandsBefore old bytes text frame → frame ≡ put_before packet next
    → new ≡ text ++ concat (packet_lines packet) → StandsBefore old bytes new next
frame-behind old bytes text new frame next packet at is printed = record {
  text_is = ap (λ (t : List ℕ). t ++ concat (frame_lines next)) printed ∙ append_assoc text (concat (packet_lines packet)) (concat (frame_lines next))
      ∙ ap (λ (t : List ℕ). text ++ t) (sym (first_lines packet next) ∙ ap (λ (f : LinkFrame). concat (frame_lines f)) (sym is)) ∙ at.text_is;
  grown = grows-more old text new (concat (packet_lines packet)) at.grown printed;
}

pub frame-end : (old bytes text new : List ℕ) (frame : LinkFrame) (ending : Ending) → StandsBefore old bytes text frame → frame ≡ only_ending ending
    → new ≡ text ++ concat (ending_lines ending) → new ≡ old ++ decode_text bytes
frame-end old bytes text new frame ending at is printed =
    printed ∙ ap (λ (f : LinkFrame). text ++ concat (frame_lines f)) (sym is) ∙ at.text_is
