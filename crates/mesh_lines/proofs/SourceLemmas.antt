-- Each line of what is printed tells where it comes from.
use Rattle.std.proofs.Common.{◌≡◌, ℕ, Bool, true, false, cond, List, [], ◌∷◌, ◌++◌, length, map, refl, sym, ap, subst, ◌∙◌, append_assoc, append-nil, inl, inr, ◌⊎◌}
use Rattle.std.specs.Prelude.{flat_map}
use Rattle.mesh_base.specs.Names.{NamesGiven}
use Rattle.mesh_base.specs.declared.client.Entry.{Entry}
use Rattle.mesh_base.specs.declared.event.Event.{Event}
use Rattle.mesh_base.specs.declared.event.Event.TheVariants.{FrameSent, Received, LanSent, Bridged, Lost, Alias, Pinged, Traced, Arp, Alfred, Route}
use Rattle.mesh_model.specs.declared.frame_choice.FrameChoice.{FrameChoice}
use Rattle.mesh_model.specs.Net.Next.{Has}
use Rattle.mesh_model.specs.Run.State.{Printed, ClaimsShown, Decoded, GlobalsShown, Happened, LocalsShown, NeighborsShown, OriginatorsShown, ServiceShown}
use Rattle.mesh_model.specs.Text.Claims.{claim_line, name_or_dash}
use Rattle.mesh_model.specs.Text.Events.{event_line, is_shown}
use Rattle.mesh_model.specs.Text.GlobalTables.{GlobalPart, GlobalTable, entry_line, global_line, mark_line}
use Rattle.mesh_model.specs.Text.Tables.{local_line, neighbor_line, orig_line, vlan_line}
use Rattle.mesh_laws.proofs.Schedule.Members.{has_either, map_has}
use Rattle.mesh_lines.specs.ItemLines.{ArePlain, IsPlain, global_first, global_lines, item_lines, lines_printed, part_lines}
use Rattle.mesh_lines.specs.LineSources.{AliasesHaveOneSource, FramesHaveOneSource, IsOfEvent, IsOfPart, OriginatorsHaveOneSource}
use Rattle.mesh_lines.specs.LineWords.{LineKind, event_kind, kind_of, of_alias, of_entry, of_frame, of_originator, of_other}
use Rattle.mesh_lines.proofs.EventParts.{event_told}
use Rattle.mesh_lines.proofs.Found.{Found, Split, found, has_at, heads, in_first, in_second, split}
use Rattle.mesh_lines.proofs.LineParts.{claim_header_told, claim_told, entry_told, global_header_told, global_told, link_header_told, local_header_told, local_told, mark_told, neighbor_told, orig_header_told, orig_told, unbroken_word, vlan_told}
use Rattle.mesh_lines.proofs.PacketParts.{AllOther, decoded_other, other_both, other_map}
use Rattle.mesh_lines.proofs.ServiceParts.{service_other}

-- ---- items whose lines are of other kinds
other_at : (lines : List (List ℕ)) → AllOther lines → (line : List ℕ) → Has lines line → kind_of line ≡ of_other
other_at [] all line has = absurd has
other_at (first ∷ rest) all line (inl same) = ap kind_of same ∙ all.0.kind_is
other_at (first ∷ rest) all line (inr has) = other_at rest all.1 line has

between_other : (lines : List (List ℕ)) → AllOther lines → (before : List (List ℕ)) (line : List ℕ) (after : List (List ℕ)) → lines ≡ before ++ line ∷ after → kind_of line ≡ of_other
between_other lines all before line after is = other_at lines all line (subst (λ ls. Has ls line) (sym is) (has_at before line after))

-- what is printed at once, of whose lines the laws speak
abbrev NoKind : Printed → Type 0
NoKind (LocalsShown table) = Unit {0}
NoKind (OriginatorsShown table) = Unit {0}
NoKind (NeighborsShown table) = Unit {0}
NoKind (GlobalsShown table) = ⊥
NoKind (ClaimsShown table) = Unit {0}
NoKind (ServiceShown table) = Unit {0}
NoKind (Decoded bytes) = Unit {0}
NoKind (Happened names event) = ⊥

locals_other : (choice : FrameChoice) (item : Printed) → IsPlain item → NoKind item → AllOther (item_lines choice item)
locals_other choice (LocalsShown table) plain none = (local_header_told table.name table.version (length table.rows) (unbroken_word table.name plain), other_both (map vlan_line table.sums) (map local_line table.rows) (other_map vlan_line vlan_told table.sums) (other_map local_line local_told table.rows))
locals_other choice (OriginatorsShown table) plain none = (orig_header_told table.name table.algorithm (length table.rows) (unbroken_word table.name plain), other_map orig_line orig_told table.rows)
locals_other choice (NeighborsShown table) plain none = (link_header_told table.name table.algorithm (length table.rows) (unbroken_word table.name plain), other_map neighbor_line neighbor_told table.rows)
locals_other choice (GlobalsShown table) plain none = absurd none
locals_other choice (ClaimsShown table) plain none = (claim_header_told table.name table.lan (length table.rows) (unbroken_word table.name plain.0) (unbroken_word (name_or_dash table.lan) plain.1), other_map claim_line claim_told table.rows)
locals_other choice (ServiceShown table) plain none = service_other table plain
locals_other choice (Decoded bytes) plain none = decoded_other bytes
locals_other choice (Happened names event) plain none = absurd none

-- ---- parts of a table
entry_at : (entries : List Entry) (line : List ℕ) → Has (map entry_line entries) line → kind_of line ≡ of_entry
entry_at entries line has = let p = map_has entry_line entries line has in ap kind_of p.2 ∙ (entry_told p.0).kind_is

-- the line of an originator is the first of its part
record FirstOfPart (part : GlobalPart) (left : List (List ℕ)) (line : List ℕ) (right : List (List ℕ)) : Type 0 where
  left_is : left ≡ []
  line_is : line ≡ global_line part.row (length part.entries)
  right_is : right ≡ map entry_line part.entries

first_of_part : (part : GlobalPart) (left : List (List ℕ)) (line : List ℕ) (right : List (List ℕ)) → kind_of line ≡ of_originator → part_lines part ≡ left ++ line ∷ right → FirstOfPart part left line right
first_of_part part [] line right kind is = let h = heads (global_line part.row (length part.entries)) line (map entry_line part.entries) right is in record { left_is = refl; line_is = sym h.0; right_is = sym h.1 }
first_of_part part (first ∷ left) line right kind is =
    let h = heads (global_line part.row (length part.entries)) first (map entry_line part.entries) (left ++ line ∷ right) is in
    absurd (no_entry (sym (entry_at part.entries line (subst (λ ls. Has ls line) (sym h.1) (has_at left line right))) ∙ kind))
  where
    no_entry : of_entry ≡ of_originator → ⊥
    no_entry e = cc

no_other : of_other ≡ of_originator → ⊥
no_other e = cc

-- the part of a table in which the line of an originator stands
record InTable (table : GlobalTable) (left : List (List ℕ)) (line : List ℕ) (right : List (List ℕ)) : Type 0 where
  front : List GlobalPart
  part : GlobalPart
  back : List GlobalPart
  parts_are : table.parts ≡ front ++ part ∷ back
  line_is : line ≡ global_line part.row (length part.entries)
  left_is : left ≡ global_first table ∷ flat_map part_lines front
  behind : List (List ℕ)
  right_is : right ≡ map entry_line part.entries ++ behind

in_parts : (table : GlobalTable) (left : List (List ℕ)) (line : List ℕ) (back right : List (List ℕ)) → kind_of line ≡ of_originator → right ≡ back ++ map mark_line table.marks → Found part_lines table.parts left line back → InTable table (global_first table ∷ left) line right
in_parts table left line back right kind is w =
    let f = first_of_part w.one w.left line w.right kind w.one_is in
    record {
      front = w.front;
      part = w.one;
      back = w.back;
      parts_are = w.list_is;
      line_is = f.line_is;
      left_is = ap (λ l. global_first table ∷ l) (w.before_is ∙ ap (λ l. flat_map part_lines w.front ++ l) f.left_is ∙ append-nil (flat_map part_lines w.front));
      behind = flat_map part_lines w.back ++ map mark_line table.marks;
      right_is = is ∙ ap (λ l. l ++ map mark_line table.marks) (w.after_is ∙ ap (λ l. l ++ flat_map part_lines w.back) f.right_is)
          ∙ append_assoc (map entry_line w.one.entries) (flat_map part_lines w.back) (map mark_line table.marks);
    }

in_rows : (table : GlobalTable) (left : List (List ℕ)) (line : List ℕ) (right : List (List ℕ)) → kind_of line ≡ of_originator → Split (flat_map part_lines table.parts) (map mark_line table.marks) left line right → InTable table (global_first table ∷ left) line right
in_rows table left line right kind (in_first back p q) = in_parts table left line back right kind q (found part_lines table.parts left line back p)
in_rows table left line right kind (in_second more p q) = absurd (no_other (sym (between_other (map mark_line table.marks) (other_map mark_line mark_told table.marks) more line right q) ∙ kind))

in_table : (table : GlobalTable) → IsPlain (GlobalsShown table) → (left : List (List ℕ)) (line : List ℕ) (right : List (List ℕ)) → kind_of line ≡ of_originator → global_lines table ≡ left ++ line ∷ right → InTable table left line right
in_table table plain [] line right kind is =
    let h = heads (global_first table) line (flat_map part_lines table.parts ++ map mark_line table.marks) right is in
    absurd (no_other (sym (global_header_told table.name (length table.parts) (unbroken_word table.name plain)).kind_is ∙ ap kind_of h.0 ∙ kind))
in_table table plain (first ∷ left) line right kind is =
    let h = heads (global_first table) first (flat_map part_lines table.parts ++ map mark_line table.marks) (left ++ line ∷ right) is in
    subst (λ f. InTable table (f ∷ left) line right) h.0 (in_rows table left line right kind (split (flat_map part_lines table.parts) (map mark_line table.marks) left line right h.1))

-- ---- events
-- the line of an event that is shown
record OfEvent (choice : FrameChoice) (names : NamesGiven) (event : Event) (left : List (List ℕ)) (line : List ℕ) (right : List (List ℕ)) : Type 0 where
  shown : is_shown choice event ≡ true
  left_is : left ≡ []
  line_is : line ≡ event_line names event
  right_is : right ≡ []

no_line : (left : List (List ℕ)) (line : List ℕ) (right : List (List ℕ)) → [] ≡ left ++ line ∷ right → ⊥
no_line [] line right e = cc
no_line (first ∷ left) line right e = cc

of_event : (choice : FrameChoice) (names : NamesGiven) (event : Event) (left : List (List ℕ)) (line : List ℕ) (right : List (List ℕ)) (b : Bool) → is_shown choice event ≡ b → cond b (event_line names event ∷ []) [] ≡ left ++ line ∷ right → OfEvent choice names event left line right
of_event choice names event left line right false shown is = absurd (no_line left line right is)
of_event choice names event [] line right true shown is = let h = heads (event_line names event) line [] right is in record { shown = shown; left_is = refl; line_is = sym h.0; right_is = sym h.1 }
of_event choice names event (first ∷ left) line right true shown is = absurd (no_line left line right (heads (event_line names event) first [] (left ++ line ∷ right) is).1)

-- an event's line is of its kind
event_kind_is : (choice : FrameChoice) (names : NamesGiven) (event : Event) → IsPlain (Happened names event) → (left : List (List ℕ)) (line : List ℕ) (right : List (List ℕ)) → OfEvent choice names event left line right → kind_of line ≡ event_kind event
event_kind_is choice names event plain left line right o = ap kind_of o.line_is ∙ (event_told names plain.0 event plain.1).kind_is

no_event : (event : Event) → event_kind event ≡ of_originator → ⊥
no_event (FrameSent number moment from to reason bytes) e = cc
no_event (Received moment node vid src dst text) e = cc
no_event (LanSent number moment lan bytes) e = cc
no_event (Bridged moment lan vid src dst text) e = cc
no_event (Lost moment node vid src dst reason) e = cc
no_event (Alias node commit earlier) e = cc
no_event (Pinged node target seq result) e = cc
no_event (Traced node target result) e = cc
no_event (Arp node ip result) e = cc
no_event (Alfred node type_no result) e = cc
no_event (Route at node orig next) e = cc

-- ---- the sources
part_found : (choice : FrameChoice) (printed : List Printed) (before : List (List ℕ)) (line : List ℕ) (after : List (List ℕ)) (earlier : List Printed) (table : GlobalTable) (later : List Printed) (left right : List (List ℕ))
    → printed ≡ earlier ++ GlobalsShown table ∷ later → before ≡ lines_printed choice earlier ++ left → after ≡ right ++ lines_printed choice later → InTable table left line right → IsOfPart choice printed before line after
part_found choice printed before line after earlier table later left right is b a t = record {
  earlier = earlier;
  table = table;
  later = later;
  printed_is = is;
  front = t.front;
  part = t.part;
  back = t.back;
  parts_are = t.parts_are;
  line_is = t.line_is;
  before_is = b ∙ ap (λ l. lines_printed choice earlier ++ l) t.left_is;
  behind = t.behind ++ lines_printed choice later;
  after_is = a ∙ ap (λ l. l ++ lines_printed choice later) t.right_is ∙ append_assoc (map entry_line t.part.entries) t.behind (lines_printed choice later);
}

pub originators_have_one_source : OriginatorsHaveOneSource
originators_have_one_source choice printed plain before line after is kind =
    let w = found (item_lines choice) printed before line after is in
    go w.front w.one w.back w.left w.right w.list_is (plain w.one (subst (λ l. Has l w.one) (sym w.list_is) (has_at w.front w.one w.back))) w.one_is w.before_is w.after_is
  where
    none : (front : List Printed) (item : Printed) (left right : List (List ℕ)) → IsPlain item → NoKind item → item_lines choice item ≡ left ++ line ∷ right → ⊥
    none front item left right p n one = no_other (sym (between_other (item_lines choice item) (locals_other choice item p n) left line right one) ∙ kind)

    go : (front : List Printed) (item : Printed) (back : List Printed) (left right : List (List ℕ)) → printed ≡ front ++ item ∷ back → IsPlain item → item_lines choice item ≡ left ++ line ∷ right
        → before ≡ lines_printed choice front ++ left → after ≡ right ++ lines_printed choice back → IsOfPart choice printed before line after
    go front (LocalsShown table) back left right list p one b a = absurd (none front (LocalsShown table) left right p tt one)
    go front (OriginatorsShown table) back left right list p one b a = absurd (none front (OriginatorsShown table) left right p tt one)
    go front (NeighborsShown table) back left right list p one b a = absurd (none front (NeighborsShown table) left right p tt one)
    go front (GlobalsShown table) back left right list p one b a = part_found choice printed before line after front table back left right list b a (in_table table p left line right kind one)
    go front (ClaimsShown table) back left right list p one b a = absurd (none front (ClaimsShown table) left right p tt one)
    go front (ServiceShown table) back left right list p one b a = absurd (none front (ServiceShown table) left right p tt one)
    go front (Decoded bytes) back left right list p one b a = absurd (none front (Decoded bytes) left right p tt one)
    go front (Happened names event) back left right list p one b a =
        absurd (no_event event (sym (event_kind_is choice names event p left line right (of_event choice names event left line right (is_shown choice event) refl one)) ∙ kind))

-- a kind of which only events have lines
abbrev IsEventKind : LineKind → Type 0
IsEventKind of_originator = ⊥
IsEventKind of_entry = ⊥
IsEventKind of_alias = Unit {0}
IsEventKind of_frame = Unit {0}
IsEventKind of_other = ⊥

other_none : (line : List ℕ) → kind_of line ≡ of_other → IsEventKind (kind_of line) → ⊥
other_none line is kind = subst IsEventKind is kind

part_none : (part : GlobalPart) (line : List ℕ) → Has (part_lines part) line → IsEventKind (kind_of line) → ⊥
part_none part line (inl same) kind = subst IsEventKind (ap kind_of same ∙ (global_told part.row (length part.entries)).kind_is) kind
part_none part line (inr has) kind = subst IsEventKind (entry_at part.entries line has) kind

rows_none : (parts : List GlobalPart) (marks : List (List ℕ)) → AllOther marks → (line : List ℕ) → Has (flat_map part_lines parts ++ marks) line → IsEventKind (kind_of line) → ⊥
rows_none [] marks all line has kind = other_none line (other_at marks all line has) kind
rows_none (part ∷ rest) marks all line has kind = go (has_either (part_lines part) (flat_map part_lines rest ++ marks) line (subst (λ ls. Has ls line) (append_assoc (part_lines part) (flat_map part_lines rest) marks) has)) (λ more. rows_none rest marks all line more kind)
  where
    go : Has (part_lines part) line ⊎ Has (flat_map part_lines rest ++ marks) line → (Has (flat_map part_lines rest ++ marks) line → ⊥) → ⊥
    go (inl here) later = part_none part line here kind
    go (inr there) later = later there

table_none : (table : GlobalTable) → IsPlain (GlobalsShown table) → (line : List ℕ) → Has (global_lines table) line → IsEventKind (kind_of line) → ⊥
table_none table plain line (inl same) kind = other_none line (ap kind_of same ∙ (global_header_told table.name (length table.parts) (unbroken_word table.name plain)).kind_is) kind
table_none table plain line (inr has) kind = rows_none table.parts (map mark_line table.marks) (other_map mark_line mark_told table.marks) line has kind

events_have_one_source : (choice : FrameChoice) (printed : List Printed) → ArePlain printed → (before : List (List ℕ)) (line : List ℕ) (after : List (List ℕ)) → lines_printed choice printed ≡ before ++ line ∷ after
    → IsEventKind (kind_of line) → IsOfEvent choice printed before line after
events_have_one_source choice printed plain before line after is kind =
    let w = found (item_lines choice) printed before line after is in
    go w.front w.one w.back w.left w.right w.list_is (plain w.one (subst (λ l. Has l w.one) (sym w.list_is) (has_at w.front w.one w.back))) w.one_is w.before_is w.after_is
  where
    none : (item : Printed) (left right : List (List ℕ)) → IsPlain item → NoKind item → item_lines choice item ≡ left ++ line ∷ right → ⊥
    none item left right p n one = other_none line (between_other (item_lines choice item) (locals_other choice item p n) left line right one) kind

    go : (front : List Printed) (item : Printed) (back : List Printed) (left right : List (List ℕ)) → printed ≡ front ++ item ∷ back → IsPlain item → item_lines choice item ≡ left ++ line ∷ right
        → before ≡ lines_printed choice front ++ left → after ≡ right ++ lines_printed choice back → IsOfEvent choice printed before line after
    go front (LocalsShown table) back left right list p one b a = absurd (none (LocalsShown table) left right p tt one)
    go front (OriginatorsShown table) back left right list p one b a = absurd (none (OriginatorsShown table) left right p tt one)
    go front (NeighborsShown table) back left right list p one b a = absurd (none (NeighborsShown table) left right p tt one)
    go front (GlobalsShown table) back left right list p one b a = absurd (table_none table p line (subst (λ ls. Has ls line) (sym one) (has_at left line right)) kind)
    go front (ClaimsShown table) back left right list p one b a = absurd (none (ClaimsShown table) left right p tt one)
    go front (ServiceShown table) back left right list p one b a = absurd (none (ServiceShown table) left right p tt one)
    go front (Decoded bytes) back left right list p one b a = absurd (none (Decoded bytes) left right p tt one)
    go front (Happened names event) back left right list p one b a =
        let o = of_event choice names event left line right (is_shown choice event) refl one in
        record {
          earlier = front;
          names = names;
          event = event;
          later = back;
          printed_is = list;
          shown = o.shown;
          line_is = o.line_is;
          kind_is = sym (event_kind_is choice names event p left line right o);
          before_is = b ∙ ap (λ l. lines_printed choice front ++ l) o.left_is ∙ append-nil (lines_printed choice front);
          after_is = a ∙ ap (λ l. l ++ lines_printed choice back) o.right_is;
        }

pub frames_have_one_source : FramesHaveOneSource
frames_have_one_source choice printed plain before line after is kind = events_have_one_source choice printed plain before line after is (subst IsEventKind (sym kind) tt)

pub aliases_have_one_source : AliasesHaveOneSource
aliases_have_one_source choice printed plain before line after is kind = events_have_one_source choice printed plain before line after is (subst IsEventKind (sym kind) tt)
