-- The parts of what a node knows of the others' clients, by the rows of the live originators.
use Rattle.std.proofs.Common.{◌≡◌, cond, ℕ, suc, ◌+◌, ◌<◌, ◌≤◌, ◌⊎◌, inl, inr, Bool, true, false, if◌then◌else◌, List, [], ◌∷◌, ◌++◌, length, map, take, slice_get, get_or, Option, Some, None, option_and_then, option_map, refl, sym, ap, ◌∙◌, arith}
use Rattle.std.specs.List.{cons_option, count_by, fold}
use Rattle.std.specs.Prelude.{filter_map, flat_map}
use Rattle.std.proofs.lemmas.List.{length-map}
use Rattle.std.proofs.lemmas.List.Folds.{flat_map-map}
use Rattle.std.proofs.lemmas.List.Elements.{filter_map-append}
use Rattle.std.proofs.lemmas.Option.{slice_get_cases}
use Rattle.mesh_base.specs.declared.address.Mac.{Mac}
use Rattle.mesh_model.specs.declared.table_row.GlobalRow.{GlobalRow}
use Rattle.mesh_model.specs.Knowledge.Known.{Knowledge, known_at}
use Rattle.mesh_model.specs.Routes.Queries.{Queries}
use Rattle.mesh_model.specs.Run.KnownTables.{held_entries, part_of, parts_at}
use Rattle.mesh_model.specs.Tables.Known.{TableCalls, known_by, nothing, originators_by, global_row, stamp_of}
use Rattle.mesh_model.specs.Text.GlobalTables.{GlobalPart, global_header, part_text}
use Rattle.mesh_show.specs.Inner.Parts.{held_part, live_row}
use Rattle.mesh_show.proofs.RowLemmas.{take-next, then_more}

-- ---- one originator

part_by_row : {X : Type 0} (calls : TableCalls) (orig : Mac) (row_of : X → GlobalRow) (told : Option X) → ((x : X) → (row_of x).orig ≡ orig)
    → option_map (λ row. record { row = row; entries = held_entries (known_by calls orig).held }) (option_map row_of told) ≡ option_map (held_part calls) (option_map row_of told)
part_by_row calls orig row_of None same = refl
part_by_row calls orig row_of (Some x) same =
    ap (λ (o : Mac). Some (record { row = row_of x; entries = held_entries (known_by calls o).held })) (sym (same x))

part_by_live : (calls : TableCalls) (orig : Mac) (live : Bool)
    → part_of orig (if live then known_by calls orig else nothing) ≡ option_map (held_part calls) (global_row orig (if live then known_by calls orig else nothing))
part_by_live calls orig true = part_by_row calls orig _ (stamp_of (known_by calls orig)) (λ stamp. refl)
part_by_live calls orig false = refl

-- ---- all originators

mapped_first : {X Y : Type 0} (f : X → Y) (o : Option X) (xs : List X) → cons_option (option_map f o) (map f xs) ≡ map f (cons_option o xs)
mapped_first f None xs = refl
mapped_first f (Some x) xs = refl

pub parts_by_rows : (q : Queries) (known : Knowledge) (now : ℕ) (origs : List Mac)
    → filter_map (λ orig. part_of orig (known_at q known now orig)) origs ≡ map (held_part known.tables) (filter_map (live_row q known now) origs)
parts_by_rows q known now [] = refl
parts_by_rows q known now (orig ∷ origs) =
    ap (λ (o : Option GlobalPart). cons_option o (filter_map (λ other. part_of other (known_at q known now other)) origs)) (part_by_live known.tables orig (q.live known.routes now orig))
    ∙ ap (cons_option (option_map (held_part known.tables) (live_row q known now orig))) (parts_by_rows q known now origs)
    ∙ mapped_first (held_part known.tables) (live_row q known now orig) (filter_map (live_row q known now) origs)

-- there are as many parts as rows
pub parts_counted : (q : Queries) (known : Knowledge) (now : ℕ) (rows : List GlobalRow) → rows ≡ filter_map (live_row q known now) (originators_by known.tables)
    → length (parts_at q known now) ≡ length rows
parts_counted q known now rows are =
    ap length (parts_by_rows q known now (originators_by known.tables)) ∙ length-map (filter_map (live_row q known now) (originators_by known.tables)) (held_part known.tables) ∙ ap length (sym are)

-- and their texts are those of the rows
pub parts_printed : (q : Queries) (known : Knowledge) (now : ℕ) (rows : List GlobalRow) → rows ≡ filter_map (live_row q known now) (originators_by known.tables)
    → flat_map part_text (parts_at q known now) ≡ flat_map (λ row. part_text (held_part known.tables row)) rows
parts_printed q known now rows are =
    ap (flat_map part_text) (parts_by_rows q known now (originators_by known.tables))
    ∙ flat_map-map part_text (held_part known.tables) (filter_map (live_row q known now) (originators_by known.tables))
    ∙ ap (flat_map (λ row. part_text (held_part known.tables row))) (sym are)

-- the first line and the parts, by the texts of the rows
pub parts_appended : (q : Queries) (known : Knowledge) (now count : ℕ) (name old header new : List ℕ) (rows : List GlobalRow)
    → rows ≡ filter_map (live_row q known now) (originators_by known.tables) → count ≡ length rows
    → header ≡ old ++ global_header name count → new ≡ header ++ flat_map (λ row. part_text (held_part known.tables row)) rows
    → new ≡ old ++ (global_header name (length (parts_at q known now)) ++ flat_map part_text (parts_at q known now))
parts_appended q known now count name old header new rows are counted first next =
    then_more (global_header name (length (parts_at q known now))) (flat_map part_text (parts_at q known now)) old header new
    (first ∙ ap (λ (n : ℕ). old ++ global_header name n) (counted ∙ sym (parts_counted q known now rows are)))
    (next ∙ ap (λ (more : List ℕ). header ++ more) (sym (parts_printed q known now rows are)))

-- ---- counts

count-from : (calls : TableCalls) (rows : List GlobalRow) (before : ℕ)
    → fold (λ n part. n + cond part.row.ok 1 0) before (map (held_part calls) rows) ≡ fold (λ n row. n + cond row.ok 1 0) before rows
count-from calls [] before = refl
count-from calls (row ∷ rows) before = count-from calls rows (before + cond row.ok 1 0)

count-parts : (calls : TableCalls) (rows : List GlobalRow) → count_by (λ part. part.row.ok) (map (held_part calls) rows) ≡ count_by (λ row. row.ok) rows
count-parts calls rows = count-from calls rows 0

-- as many parts are ok as rows
pub ok-parts : (q : Queries) (known : Knowledge) (now : ℕ) (rows : List GlobalRow) → rows ≡ filter_map (live_row q known now) (originators_by known.tables)
    → count_by (λ row. row.ok) rows ≡ count_by (λ part. part.row.ok) (parts_at q known now)
ok-parts q known now rows are =
    ap (count_by (λ row. row.ok)) are ∙ sym (count-parts known.tables (filter_map (live_row q known now) (originators_by known.tables)))
    ∙ ap (count_by (λ part. part.row.ok)) (sym (parts_by_rows q known now (originators_by known.tables)))

-- ---- place by place

-- what is found at the first places, with the next
pub found_next : {X Y : Type 0} (f : X → Option Y) (xs : List X) (i : ℕ) (o : Option Y) → i < length xs → o ≡ option_and_then f (slice_get xs i)
    → filter_map f (take (i + 1) xs) ≡ filter_map f (take i xs) ++ cons_option o []
found_next {X} {Y} f xs i o within is = either (slice_get_cases xs i).1
  where
    at : (x : X) → slice_get xs i ≡ Some x → filter_map f (take (i + 1) xs) ≡ filter_map f (take i xs) ++ cons_option o []
    at x found =
        let next : i + 1 ≡ suc i = omega arith in
        ap (λ n. filter_map f (take n xs)) next ∙ ap (filter_map f) (take-next xs i x found) ∙ filter_map-append f (take i xs) (x ∷ [])
        ∙ ap (λ (y : Option Y). filter_map f (take i xs) ++ cons_option y []) (sym (is ∙ ap (option_and_then f) found))

    either : ((x : X) × (i < length xs) × (slice_get xs i ≡ Some x) × (get_or xs i x ≡ x)) ⊎ ((length xs ≤ i) × (slice_get xs i ≡ None))
        → filter_map f (take (i + 1) xs) ≡ filter_map f (take i xs) ++ cons_option o []
    either (inl some) = at some.0 some.2
    either (inr past) = absurd (omega (arith, within, past.0))
