-- The text of what is printed is its lines, one after the other.
use Rattle.std.proofs.Common.{◌≡◌, ◌+◌, ℕ, Bool, true, false, cond, List, [], ◌∷◌, ◌++◌, length, map, refl, sym, ap, ap₂, ◌∙◌, append_assoc, append-nil, inl, inr}
use Rattle.std.specs.Prelude.{codes, flat_map}
use Rattle.std.specs.List.{concat}
use Rattle.mesh_base.specs.declared.client.Entry.{Entry}
use Rattle.mesh_model.specs.declared.frame_choice.FrameChoice.{FrameChoice}
use Rattle.mesh_model.specs.Run.State.{Printed, ClaimsShown, Decoded, GlobalsShown, Happened, LocalsShown, NeighborsShown, OriginatorsShown, ServiceShown, printed_text}
use Rattle.mesh_model.specs.Scenario.Lines.{lines_of}
use Rattle.mesh_model.specs.Text.Claims.{claim_header, claim_line, name_or_dash}
use Rattle.mesh_model.specs.Text.Decode.{decode_lines, decode_text}
use Rattle.mesh_model.specs.Text.Events.{event_line, is_shown}
use Rattle.mesh_model.specs.Text.GlobalTables.{GlobalPart, entry_line, global_header, global_line, mark_line, part_text}
use Rattle.mesh_model.specs.Text.Services.{AddressesOf, FactsOf, GatewaysOf, GroupsOf, PicturesOf, ServiceTable, address_header, address_line, fact_header, fact_line, gateway_header, gateway_line, group_header, groups_line, joined_line, picture_table_text, service_table_text}
use Rattle.mesh_model.specs.Text.Tables.{local_header, local_line, neighbor_line, orig_line, route_header, vlan_line}
use Rattle.mesh_laws.specs.Cuts.{AreLines, IsLine}
use Rattle.mesh_laws.proofs.CutLemmas.{lines_of-lines_then}
use Rattle.mesh_lines.specs.ItemLines.{ArePlain, IsPlain, item_lines, lines_printed, part_lines, service_lines}
use Rattle.mesh_lines.proofs.EventParts.{event_told}
use Rattle.mesh_lines.proofs.LineParts.{claim_header_told, claim_told, entry_told, global_header_told, global_told, link_header_told, local_header_told, local_told, mark_told, neighbor_told, orig_header_told, orig_told, unbroken_word, vlan_told}
use Rattle.mesh_lines.proofs.PacketParts.{AllOther, decoded_other, other_both, other_map}
use Rattle.mesh_lines.proofs.ServiceParts.{service_other}

-- ---- texts
joined_both : (xs ys : List (List ℕ)) → concat (xs ++ ys) ≡ concat xs ++ concat ys
joined_both [] ys = refl
joined_both (x ∷ xs) ys = ap (λ more. x ++ more) (joined_both xs ys) ∙ sym (append_assoc x (concat xs) (concat ys))

joined_map : {X : Type 0} (f : X → List ℕ) (xs : List X) → concat (map f xs) ≡ flat_map f xs
joined_map f [] = refl
joined_map f (x ∷ xs) = ap (λ more. f x ++ more) (joined_map f xs)

joined_flat : {X : Type 0} (f : X → List (List ℕ)) (g : X → List ℕ) → ((x : X) → concat (f x) ≡ g x) → (xs : List X) → concat (flat_map f xs) ≡ flat_map g xs
joined_flat f g same [] = refl
joined_flat f g same (x ∷ xs) = joined_both (f x) (flat_map f xs) ∙ ap₂ (λ a b. a ++ b) (same x) (joined_flat f g same xs)

three : (h : List ℕ) (a b : List (List ℕ)) (x y : List ℕ) → concat a ≡ x → concat b ≡ y → concat (h ∷ a ++ b) ≡ h ++ x ++ y
three h a b x y p q = ap (λ more. h ++ more) (joined_both a b ∙ ap₂ (λ c d. c ++ d) p q) ∙ sym (append_assoc h x y)

part_joined : (part : GlobalPart) → concat (part_lines part) ≡ part_text part
part_joined part = ap (λ more. global_line part.row (length part.entries) ++ more) (joined_map entry_line part.entries)

shown_joined : (b : Bool) (line : List ℕ) → concat (cond b (line ∷ []) []) ≡ cond b line []
shown_joined true line = append-nil line
shown_joined false line = refl

service_joined : (table : ServiceTable) → concat (service_lines table) ≡ service_table_text table
service_joined (GatewaysOf table) = ap (λ more. gateway_header table.name table.mode table.chosen ++ more) (joined_map gateway_line table.rows)
service_joined (GroupsOf table) =
    three (group_header table.name (length table.joined + length table.rows)) (map joined_line table.joined) (map groups_line table.rows) (flat_map joined_line table.joined) (flat_map groups_line table.rows) (joined_map joined_line table.joined) (joined_map groups_line table.rows)
service_joined (AddressesOf table) = ap (λ more. address_header table.name (length table.rows) ++ more) (joined_map address_line table.rows)
service_joined (FactsOf table) = ap (λ more. fact_header table.name table.mode (length table.rows) ++ more) (joined_map (fact_line table.now) table.rows)
service_joined (PicturesOf table) = append-nil (picture_table_text table)

pub item_joined : (choice : FrameChoice) (item : Printed) → concat (item_lines choice item) ≡ printed_text choice item
unfolding decode_text
item_joined choice (LocalsShown table) = three (local_header table.name table.version (length table.rows)) (map vlan_line table.sums) (map local_line table.rows) (flat_map vlan_line table.sums) (flat_map local_line table.rows) (joined_map vlan_line table.sums) (joined_map local_line table.rows)
item_joined choice (OriginatorsShown table) = ap (λ more. route_header (codes "o") table.name table.algorithm (length table.rows) ++ more) (joined_map orig_line table.rows)
item_joined choice (NeighborsShown table) = ap (λ more. route_header (codes "n") table.name table.algorithm (length table.rows) ++ more) (joined_map neighbor_line table.rows)
item_joined choice (GlobalsShown table) = three (global_header table.name (length table.parts)) (flat_map part_lines table.parts) (map mark_line table.marks) (flat_map part_text table.parts) (flat_map mark_line table.marks) (joined_flat part_lines part_text part_joined table.parts) (joined_map mark_line table.marks)
item_joined choice (ClaimsShown table) = ap (λ more. claim_header table.name table.lan (length table.rows) ++ more) (joined_map claim_line table.rows)
item_joined choice (ServiceShown table) = service_joined table
item_joined choice (Decoded bytes) = refl
item_joined choice (Happened names event) = shown_joined (is_shown choice event) (event_line names event)

-- ---- lines
lines_both : (xs ys : List (List ℕ)) → AreLines xs → AreLines ys → AreLines (xs ++ ys)
lines_both [] ys p q = q
lines_both (x ∷ xs) ys p q = (p.0, lines_both xs ys p.1 q)

other_lines : (xs : List (List ℕ)) → AllOther xs → AreLines xs
other_lines [] all = tt
other_lines (x ∷ xs) all = (all.0.whole, other_lines xs all.1)

entry_lines : (entries : List Entry) → AreLines (map entry_line entries)
entry_lines [] = tt
entry_lines (entry ∷ rest) = ((entry_told entry).whole, entry_lines rest)

parts_lines : (parts : List GlobalPart) → AreLines (flat_map part_lines parts)
parts_lines [] = tt
parts_lines (part ∷ rest) = lines_both (part_lines part) (flat_map part_lines rest) ((global_told part.row (length part.entries)).whole, entry_lines part.entries) (parts_lines rest)

pub shown_lines : (b : Bool) (line : List ℕ) → IsLine line → AreLines (cond b (line ∷ []) [])
shown_lines true line is = (is, tt)
shown_lines false line is = tt

pub item_are_lines : (choice : FrameChoice) (item : Printed) → IsPlain item → AreLines (item_lines choice item)
item_are_lines choice (LocalsShown table) plain = (
  (local_header_told table.name table.version (length table.rows) (unbroken_word table.name plain)).whole,
  other_lines (map vlan_line table.sums ++ map local_line table.rows) (other_both (map vlan_line table.sums) (map local_line table.rows) (other_map vlan_line vlan_told table.sums) (other_map local_line local_told table.rows)),
)
item_are_lines choice (OriginatorsShown table) plain = ((orig_header_told table.name table.algorithm (length table.rows) (unbroken_word table.name plain)).whole, other_lines (map orig_line table.rows) (other_map orig_line orig_told table.rows))
item_are_lines choice (NeighborsShown table) plain = ((link_header_told table.name table.algorithm (length table.rows) (unbroken_word table.name plain)).whole, other_lines (map neighbor_line table.rows) (other_map neighbor_line neighbor_told table.rows))
item_are_lines choice (GlobalsShown table) plain = (
  (global_header_told table.name (length table.parts) (unbroken_word table.name plain)).whole,
  lines_both (flat_map part_lines table.parts) (map mark_line table.marks) (parts_lines table.parts) (other_lines (map mark_line table.marks) (other_map mark_line mark_told table.marks)),
)
item_are_lines choice (ClaimsShown table) plain =
    ((claim_header_told table.name table.lan (length table.rows) (unbroken_word table.name plain.0) (unbroken_word (name_or_dash table.lan) plain.1)).whole, other_lines (map claim_line table.rows) (other_map claim_line claim_told table.rows))
item_are_lines choice (ServiceShown table) plain = other_lines (service_lines table) (service_other table plain)
item_are_lines choice (Decoded bytes) plain = other_lines (decode_lines bytes) (decoded_other bytes)
item_are_lines choice (Happened names event) plain = shown_lines (is_shown choice event) (event_line names event) (event_told names plain.0 event plain.1).whole

-- ---- all that is printed
pub printed_joined : (choice : FrameChoice) (printed : List Printed) → concat (lines_printed choice printed) ≡ flat_map (printed_text choice) printed
printed_joined choice printed = joined_flat (item_lines choice) (printed_text choice) (item_joined choice) printed

pub printed_are_lines : (choice : FrameChoice) (printed : List Printed) → ArePlain printed → AreLines (lines_printed choice printed)
printed_are_lines choice [] plain = tt
printed_are_lines choice (item ∷ rest) plain = lines_both (item_lines choice item) (lines_printed choice rest) (item_are_lines choice item (plain item (inl refl))) (printed_are_lines choice rest (λ one has. plain one (inr has)))

-- the lines of the text are those of what was printed
pub lines_of_text : (choice : FrameChoice) (printed : List Printed) → ArePlain printed → lines_of (flat_map (printed_text choice) printed) ≡ lines_printed choice printed
lines_of_text choice printed plain =
    let lines = lines_printed choice printed in
    ap lines_of (sym (printed_joined choice printed) ∙ sym (append-nil (concat lines))) ∙ lines_of-lines_then lines [] (printed_are_lines choice printed plain) ∙ append-nil lines
