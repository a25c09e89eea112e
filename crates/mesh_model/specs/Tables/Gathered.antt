-- The parts of a full answer that a node gathers of an originator's table: the first copy of each
-- number, while parts of one count come. A part of another count drops those that are there, and
-- itself counts. Parts are numbered from 0, and there are at most 4. The main words are
-- `with_table_part`, `missing_part` and `gathered_records`.
use Rattle.std.specs.Prelude.{ℕ, ◌==◌, ◌||◌, nat_eq, nat_lt, nat_le, Bool, not, List, [], ◌∷◌, ◌++◌, length, filter, find, flat_map, Option, is_some, unwrap_or, if◌then◌else◌}
use Rattle.std.specs.Map.{lookup}
use Rattle.mesh_model.specs.declared.table_change.Change.{Change}
use Rattle.mesh_model.specs.Tables.Pieces.{most_pieces, places}

-- how many parts there are to be, and the records of those that are there, by number, in the order
-- in which they came
pub record Gathered : Type 0 where
  pub count : ℕ
  pub got : List (ℕ × List Change)

-- no part is there
abbrev pub none_gathered : Gathered
none_gathered = record { count = 0; got = [] }

-- whether no part has this number, of so many
abbrev pub is_bad_part : ℕ → ℕ → Bool
is_bad_part number count = (count == 0) || nat_lt most_pieces count || nat_le count number

-- the records of the part of a number, where it is there
abbrev pub records_at : ℕ → Gathered → Option (List Change)
records_at number gathered = lookup (nat_eq number) gathered.got

-- whether the part of a number is there
abbrev pub has_records : ℕ → Gathered → Bool
has_records number gathered = is_some (records_at number gathered)

-- what is there of so many parts: nothing, where those that are there are of another count
abbrev pub of_count : ℕ → Gathered → Gathered
of_count count before =
    if before.count == count then before else record { count = count; got = [] }

-- a part beside those that are there, unless one of its number is
abbrev pub with_first_copy : ℕ → List Change → Gathered → Gathered
with_first_copy number records before = if has_records number before then before
    else record before { got = before.got ++ (number, records) ∷ [] }

-- what is gathered with a part of this number, of so many, from what was there
abbrev pub with_table_part : ℕ → ℕ → List Change → Gathered → Gathered
with_table_part number count records before =
    with_first_copy number records (of_count count before)

-- how many parts are there
abbrev pub gathered_count : Gathered → ℕ
gathered_count gathered = length (filter (λ number. has_records number gathered)
    (places gathered.count))

-- the least number whose part is missing, if any
abbrev pub missing_part : Gathered → Option ℕ
missing_part gathered = find (λ number. not (has_records number gathered)) (places gathered.count)

-- the records of the parts that are there, in the order of their numbers
abbrev pub gathered_records : Gathered → List Change
gathered_records gathered = flat_map (λ number. unwrap_or (records_at number gathered) [])
    (places gathered.count)
