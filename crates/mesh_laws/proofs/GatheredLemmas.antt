-- What is gathered once a part more came, and what no missing part means.
use Rattle.std.proofs.Common.{◌≡◌, ◌⊎◌, inl, inr, ℕ, zero, suc, ◌+◌, ◌<◌, ◌≤◌, nat_eq, Bool, true, false, cond, not, List, [], ◌∷◌, ◌++◌, Option, Some, None, is_some, refl, sym, ap, ◌∙◌, subst, arith}
use Rattle.std.specs.List.{find, range_with_len}
use Rattle.std.specs.Map.{lookup}
use Rattle.std.specs.Option.{option_or}
use Rattle.std.proofs.lemmas.Bool.{false≢true, cases_lt, eqb-true}
use Rattle.std.proofs.lemmas.Bool.Decides.{nat_tests}
use Rattle.mesh_model.specs.declared.table_change.Change.{Change}
use Rattle.mesh_model.specs.Tables.Gathered.{Gathered, has_records, is_bad_part, missing_part, none_gathered, of_count, records_at, with_first_copy, with_table_part}

-- ---- one part more
abbrev Parts : Type 0
Parts = List (ℕ × List Change)

lookup-append : (test : ℕ → Bool) (front back : Parts) → lookup test (front ++ back) ≡ option_or (lookup test front) (lookup test back)
lookup-append test [] back = refl
lookup-append test (e ∷ front) back =
    elim (test e.0) as (λ b. cond b (Some e.1) (lookup test (front ++ back)) ≡ option_or (cond b (Some e.1) (lookup test front)) (lookup test back)) [
      | true ↦ refl
      | false ↦ lookup-append test front back
    ]

-- the first copy of a part counts
copy_found : (q number : ℕ) (records : List Change) (before : Gathered) → records_at q (with_first_copy number records before) ≡ option_or (records_at q before) (cond (nat_eq q number) (Some records) None)
copy_found q number records before = go (records_at number before) refl
  where
    there : (o : Option (List Change)) → is_some o ≡ true → o ≡ option_or o (Some records)
    there None some = absurd (false≢true some)
    there (Some other) some = refl

    alone : (o : Option (List Change)) → o ≡ option_or o None
    alone None = refl
    alone (Some other) = refl

    same : (b : Bool) → nat_eq q number ≡ b → is_some (records_at number before) ≡ true → records_at q before ≡ option_or (records_at q before) (cond b (Some records) None)
    same true is some =
        subst (λ n. records_at n before ≡ option_or (records_at n before) (Some records)) (sym (eqb-true q number is))
        (there (records_at number before) some)
    same false is some = alone (records_at q before)

    go : (kept : Option (List Change)) → records_at number before ≡ kept → records_at q (cond (is_some kept) before (record before { got = before.got ++ (number, records) ∷ [] }))
        ≡ option_or (records_at q before) (cond (nat_eq q number) (Some records) None)
    go None is = lookup-append (nat_eq q) before.got ((number, records) ∷ [])
    go (Some other) is = same (nat_eq q number) refl (ap is_some is)

-- parts of this count are gathered, or none is
abbrev pub IsOfCount : ℕ → Gathered → Type 0
IsOfCount count gathered = (gathered ≡ none_gathered) ⊎ (gathered.count ≡ count)

-- what is found then of what a part goes to
of_count_found : (q count : ℕ) (before : Gathered) → IsOfCount count before → records_at q (of_count count before) ≡ records_at q before
of_count_found q count before (inl none) = subst (λ g. records_at q (of_count count g) ≡ records_at q g) (sym none) (elim (nat_eq 0 count) as (λ b. records_at q (cond b none_gathered (record { count = count; got = [] })) ≡ None) [ true ↦ refl | false ↦ refl ])
of_count_found q count before (inr same) = go (nat_eq before.count count) refl
  where
    go : (b : Bool) → nat_eq before.count count ≡ b → records_at q (cond b before (record { count = count; got = [] })) ≡ records_at q before
    go true is = refl
    go false is = absurd (false≢true (sym is ∙ grind (arith, nat_tests, same)))

-- what a part goes to, by the count of what is there
pub of_same_or_new : (count : ℕ) (before : Gathered) → ((before.count ≡ count) × (of_count count before ≡ before)) ⊎ (of_count count before ≡ record { count = count; got = [] })
of_same_or_new count before = go (nat_eq before.count count) refl
  where
    go : (b : Bool) → nat_eq before.count count ≡ b → ((before.count ≡ count) × (cond b before (record { count = count; got = [] }) ≡ before)) ⊎ (cond b before (record { count = count; got = [] }) ≡ record { count = count; got = [] })
    go true is = inl (eqb-true before.count count is, refl)
    go false is = inr refl

-- what is found once a part came, by what it went to
pub found_beside : (q number count : ℕ) (records : List Change) (before : Gathered) → records_at q (with_table_part number count records before) ≡ option_or (records_at q (of_count count before)) (cond (nat_eq q number) (Some records) None)
found_beside q number count records before = copy_found q number records (of_count count before)

-- what is found once a part of the same count came
pub found_with : (q number count : ℕ) (records : List Change) (before : Gathered) → IsOfCount count before → records_at q (with_table_part number count records before) ≡ option_or (records_at q before) (cond (nat_eq q number) (Some records) None)
found_with q number count records before of =
    found_beside q number count records before ∙ ap (λ o. option_or o (cond (nat_eq q number) (Some records) None)) (of_count_found q count before of)

-- once a part came, parts of its count are gathered
pub counted_with : (number count : ℕ) (records : List Change) (before : Gathered) → (with_table_part number count records before).count ≡ count
counted_with number count records before = copied (has_records number (of_count count before)) ∙ go (nat_eq before.count count) refl
  where
    copied : (b : Bool) → (cond b (of_count count before) (record (of_count count before) { got = (of_count count before).got ++ (number, records) ∷ [] })).count ≡ (of_count count before).count
    copied true = refl
    copied false = refl

    go : (b : Bool) → nat_eq before.count count ≡ b → (cond b before (record { count = count; got = [] })).count ≡ count
    go true is = eqb-true before.count count is
    go false is = refl

-- a number below a count from 1 to 4 isn't bad
pub not_bad : (number count : ℕ) → number < count → count ≤ 4 → is_bad_part number count ≡ false
not_bad number count below few = grind (arith, nat_tests, below, few)

-- ---- which part is missing
some_found : (p : ℕ → Bool) (first count i : ℕ) → first ≤ i → i < first + count → p i ≡ true → is_some (find p (range_with_len first count)) ≡ true
some_found p first zero i from to is = absurd (omega (arith, from, to))
some_found p first (suc count) i from to is = go (p first) refl (λ after. some_found p (first + 1) count i after (omega (arith, to)) is)
  where
    later : p first ≡ false → (first < i) ⊎ (i ≤ first) → first + 1 ≤ i
    later not (inl lt) = omega (arith, lt)
    later not (inr le) = let same : i ≡ first = omega (arith, from, le) in absurd (false≢true (sym not ∙ ap p (sym same) ∙ is))

    go : (b : Bool) → p first ≡ b → (first + 1 ≤ i → is_some (find p (range_with_len (first + 1) count)) ≡ true) → is_some (cond b (Some first) (find p (range_with_len (first + 1) count))) ≡ true
    go true there rest = refl
    go false there rest = rest (later there (cases_lt first i))

none_found : (p : ℕ → Bool) (first count : ℕ) → ((i : ℕ) → first ≤ i → i < first + count → p i ≡ false) → find p (range_with_len first count) ≡ None
none_found p first zero all = refl
none_found p first (suc count) all =
    ap (λ b. cond b (Some first) (find p (range_with_len (first + 1) count))) (all first (omega arith) (omega arith))
    ∙ none_found p (first + 1) count (λ i from to. all i (omega (arith, from)) (omega (arith, to)))

-- a part that isn't there is missing
pub still_missing : (gathered : Gathered) (number : ℕ) → number < gathered.count → records_at number gathered ≡ None → is_some (missing_part gathered) ≡ true
still_missing gathered number below none =
    some_found (λ n. not (has_records n gathered)) 0 gathered.count number (omega arith) (omega (arith, below)) (ap (λ o. not (is_some o)) none)

-- none is missing where each is there
pub none_missing : (gathered : Gathered) → ((number : ℕ) → number < gathered.count → is_some (records_at number gathered) ≡ true) → missing_part gathered ≡ None
none_missing gathered all = none_found (λ n. not (has_records n gathered)) 0 gathered.count (λ i from to. ap not (all i (omega (arith, to))))

-- where none is missing, each is there
pub each_there : (gathered : Gathered) → missing_part gathered ≡ None → (number : ℕ) → number < gathered.count → (records : List Change) × (records_at number gathered ≡ Some records)
each_there gathered complete number below = go (records_at number gathered) refl
  where
    go : (o : Option (List Change)) → records_at number gathered ≡ o → (records : List Change) × (o ≡ Some records)
    go None is = absurd (false≢true (sym (ap is_some complete) ∙ still_missing gathered number below is))
    go (Some records) is = (records, refl)
