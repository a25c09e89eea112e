-- How a row put in, replaced or taken out changes what rows say of each VLAN.
use Rattle.std.proofs.Common.{◌≡◌, ℕ, ◌+◌, ◌^◌, ◌<◌, ◌≤◌, Bool, true, false, cond, nat_eq, nat_lt, IsSome, option_and_then, option_map, filter, length, List, get_or, set, Option, Some, None, is_eq, nat_cmp, refl, sym, ap, ◌∙◌, subst, arith, Less, Equal, Greater}
use Rattle.std.specs.List.{insert}
use Rattle.std.proofs.lemmas.Bool.{eq-eqb, eqb-true, ltb-false, ltb-true, ne_eqb}
use Rattle.std.proofs.lemmas.Cmp.{nat_cmp_total, tied_itself}
use Rattle.std.proofs.lemmas.Map.Lookups.{exact_unsigned}
use Rattle.mesh_base.specs.declared.client.Entry.{Entry}
use Rattle.mesh_base.specs.declared.client.Vid.{Vid}
use Rattle.mesh_model.specs.Tables.Sums.{checksums, entries_in}
use Rattle.mesh_model.specs.declared.table_change.Change.{Change}
use Rattle.tt_table.specs.Places.{IsThere, IsGap}
use Rattle.tt_table.specs.Sums.{AreByVlan, AreFew, AreTotalsOf, HasOneChanged, HaveEntries, AreNamed, KeepNames, KeepTotals, entries_of, row_after, row_at, row_key, sum_of}
use Rattle.tt_table.specs.declared.vlan_total.VlanTotal.{VlanTotal}
use Rattle.tt_table.proofs.OrderedLists.{item_kept, item_put, item_set, item_there, none_in_gap}

-- the order of numbers and the test that they are equal
pub tied_test : (a b : ℕ) → is_eq (nat_cmp a b) ≡ nat_eq a b
tied_test a b = elim (nat_cmp a b) as (λ r. nat_cmp a b ≡ r → is_eq r ≡ nat_eq a b) [
  | Less ↦ λ e. sym (ne_eqb a b (λ same. let tied = tied_itself nat_cmp_total a in let here = ap (nat_cmp a) same in cc))
  | Equal ↦ λ e. sym (eq-eqb a b (exact_unsigned a b e))
  | Greater ↦ λ e. sym (ne_eqb a b (λ same. let tied = tied_itself nat_cmp_total a in let here = ap (nat_cmp a) same in cc))
] refl

-- VLANs of one number are one
pub same_vid : (a b : Vid) → nat_eq a.0 b.0 ≡ true → a ≡ b
same_vid a b e = let n = eqb-true a.0 b.0 e in λ i. record { 0 = n i }

-- one row changed, from what became of a look-up
changed_from : (vid : Vid) (change : Option VlanTotal → Option VlanTotal) (old new : List VlanTotal) (here : Option VlanTotal)
    → ((q : ℕ) → row_at new (record { 0 = q }) ≡ cond (is_eq (nat_cmp q vid.0)) here (row_at old (record { 0 = q })))
    → here ≡ change (row_at old vid) → HasOneChanged vid change old new
changed_from vid change old new here looks is other =
    looks other.0 ∙ ap (λ b. cond b here (row_at old other)) (tied_test other.0 vid.0)
    ∙ elim (nat_eq other.0 vid.0) as (λ b. nat_eq other.0 vid.0 ≡ b → cond b here (row_at old other) ≡ cond b (change (row_at old other)) (row_at old other)) [
      | true ↦ λ e. is ∙ ap (λ v. change (row_at old v)) (sym (same_vid other vid e))
      | false ↦ λ e. refl
    ] refl

-- a row of no entries for a VLAN that had none
abbrev pub no_row : Vid → VlanTotal
no_row vid = record { vid = vid; sum = 0; entries = 0 }

named : (vid : Vid) (rows : List VlanTotal) (i : ℕ) → IsGap nat_cmp row_key vid.0 rows i → HasOneChanged vid (λ o. Some (no_row vid)) rows (insert rows i (no_row vid))
named vid rows i gap =
    changed_from vid (λ o. Some (no_row vid)) rows (insert rows i (no_row vid)) (Some (no_row vid))
    (λ q. item_put nat_cmp_total exact_unsigned row_key q (no_row vid) rows i gap) refl

pub is_named : (vid : Vid) (rows : List VlanTotal) (i : ℕ) → IsGap nat_cmp row_key vid.0 rows i → IsSome (row_at (insert rows i (no_row vid)) vid)
is_named vid rows i gap =
    subst (λ o. IsSome o) (sym (named vid rows i gap vid))
    (subst (λ b. IsSome (cond b (Some (no_row vid)) (row_at rows vid))) (sym (eq-eqb vid.0 vid.0 refl)) refl)

-- a look-up at one VLAN or at the others
pub at_one_or_others : (P : Vid → Option VlanTotal → Type 0) (vid : Vid) (change : Option VlanTotal → Option VlanTotal) (old new : List VlanTotal) → HasOneChanged vid change old new
    → P vid (change (row_at old vid)) → ((other : Vid) → nat_eq other.0 vid.0 ≡ false → P other (row_at old other)) → (other : Vid) → P other (row_at new other)
at_one_or_others P vid change old new changed here others other =
    subst (P other) (sym (changed other))
    (elim (nat_eq other.0 vid.0) as (λ b. nat_eq other.0 vid.0 ≡ b → P other (cond b (change (row_at old other)) (row_at old other))) [
      | true ↦ λ e. subst (λ v. P v (change (row_at old v))) (sym (same_vid other vid e)) here
      | false ↦ λ e. others other e
    ] refl)

pub names_kept : (vid : Vid) (rows : List VlanTotal) (i : ℕ) → IsGap nat_cmp row_key vid.0 rows i → KeepNames rows (insert rows i (no_row vid))
names_kept vid rows i gap =
    at_one_or_others (λ v o. IsSome (row_at rows v) → IsSome o) vid (λ o. Some (no_row vid)) rows (insert rows i (no_row vid)) (named vid rows i gap) (λ h. refl) (λ other e h. h)

pub totals_kept : (vid : Vid) (rows : List VlanTotal) (i : ℕ) → IsGap nat_cmp row_key vid.0 rows i → KeepTotals rows (insert rows i (no_row vid))
totals_kept vid rows i gap =
    let none = none_in_gap nat_cmp_total exact_unsigned row_key vid.0 rows i gap in
    at_one_or_others (λ v o. (sum_of o ≡ sum_of (row_at rows v)) × (entries_of o ≡ entries_of (row_at rows v))) vid (λ o. Some (no_row vid)) rows (insert rows i (no_row vid)) (named vid rows i gap)
    (sym (ap sum_of none), sym (ap entries_of none)) (λ other e. (refl, refl))

pub changed_by_set : (vid : Vid) (change : Option VlanTotal → Option VlanTotal) (found row : VlanTotal) (rows : List VlanTotal) (i : ℕ)
    → IsThere nat_cmp row_key vid.0 rows i → found ≡ get_or rows i found → row.vid ≡ found.vid → Some row ≡ change (Some found)
    → HasOneChanged vid change rows (set rows i row)
changed_by_set vid change found row rows i there is kept becomes =
    changed_from vid change rows (set rows i row) (Some row)
    (λ q. item_set nat_cmp_total exact_unsigned row_key q vid.0 row rows i there (ap (λ (v : Vid). v.0) kept ∙ ap row_key is ∙ there.same found))
    (becomes ∙ ap change (ap (λ r. Some r) is ∙ sym (item_there nat_cmp_total exact_unsigned row_key vid.0 rows i found there)))

-- the row at a place, as it is looked up
pub found_row : (vid : Vid) (found : VlanTotal) (rows : List VlanTotal) (i : ℕ) → IsThere nat_cmp row_key vid.0 rows i → found ≡ get_or rows i found → row_at rows vid ≡ Some found
found_row vid found rows i there is = item_there nat_cmp_total exact_unsigned row_key vid.0 rows i found there ∙ ap (λ r. Some r) (sym is)

found_vid : (vid : Vid) (found : VlanTotal) (rows : List VlanTotal) (i : ℕ) → IsThere nat_cmp row_key vid.0 rows i → found ≡ get_or rows i found → found.vid ≡ vid
found_vid vid found rows i there is = let n = ap row_key is ∙ there.same found in λ j. record { 0 = n j }

pub some_found : (vid : Vid) (found : VlanTotal) (rows : List VlanTotal) (i : ℕ) → IsThere nat_cmp row_key vid.0 rows i → found ≡ get_or rows i found → IsSome (row_at rows vid)
some_found vid found rows i there is = subst (λ o. IsSome o) (sym (found_row vid found rows i there is)) refl

-- a row that went along with a change
pub followed : (vid : Vid) (sum : ℕ) (del : Bool) (found row : VlanTotal) (rows : List VlanTotal) (i : ℕ) → IsThere nat_cmp row_key vid.0 rows i → found ≡ get_or rows i found → row ≡ row_after sum del found
    → HasOneChanged vid (option_map (row_after sum del)) rows (set rows i row)
followed vid sum del found row rows i there is after =
    changed_by_set vid (option_map (row_after sum del)) found row rows i there is (ap (λ (r : VlanTotal). r.vid) after) (ap (λ r. Some r) after)

some_mapped : (f : VlanTotal → VlanTotal) (o : Option VlanTotal) → IsSome o → IsSome (option_map f o)
some_mapped f None h = h
some_mapped f (Some row) h = refl

pub names_followed : (vid : Vid) (f : VlanTotal → VlanTotal) (old new : List VlanTotal) → HasOneChanged vid (option_map f) old new → KeepNames old new
names_followed vid f old new changed =
    at_one_or_others (λ v o. IsSome (row_at old v) → IsSome o) vid (option_map f) old new changed (some_mapped f (row_at old vid)) (λ other e h. h)

-- ---- few entries
pub less_few : (more less : ℕ) (rows : List VlanTotal) → less ≤ more → AreFew more rows → AreFew less rows
less_few more less rows le few vid = let n = few vid in omega (arith, n, le)

one_more_at_most : (sum : ℕ) (del : Bool) (o : Option VlanTotal) → entries_of (option_map (row_after sum del) o) ≤ entries_of o + 1
one_more_at_most sum del None = omega arith
one_more_at_most sum true (Some row) = omega arith
one_more_at_most sum false (Some row) = omega arith

pub few_followed : (more : ℕ) (vid : Vid) (sum : ℕ) (del : Bool) (old new : List VlanTotal) → HasOneChanged vid (option_map (row_after sum del)) old new → AreFew (more + 1) old → AreFew more new
few_followed more vid sum del old new changed few =
    at_one_or_others (λ v o. entries_of o + more < 2 ^ 64) vid (option_map (row_after sum del)) old new changed
    (let n = one_more_at_most sum del (row_at old vid) in let h = few vid in omega (arith, n, h))
    (λ other e. let h = few other in omega (arith, h))

-- ---- rows without entries dropped
abbrev pub has_entries : VlanTotal → Bool
has_entries row = nat_lt 0 row.entries

kept_row : (rows : List VlanTotal) → AreByVlan rows → (vid : Vid) → row_at (filter has_entries rows) vid ≡ option_and_then (λ row. cond (has_entries row) (Some row) None) (row_at rows vid)
kept_row rows sorted vid = item_kept nat_cmp_total exact_unsigned row_key has_entries vid.0 rows sorted

pub have_entries : (rows : List VlanTotal) → AreByVlan rows → HaveEntries (filter has_entries rows)
have_entries rows sorted vid row e = some (row_at rows vid) (sym (kept_row rows sorted vid) ∙ e)
  where
    tested : (found : VlanTotal) (b : Bool) → has_entries found ≡ b → cond b (Some found) None ≡ Some row → 0 < row.entries
    tested found true t h = let lt = ltb-true 0 found.entries t in let n : found.entries ≡ row.entries = ap (λ (r : VlanTotal). r.entries) (let k : found ≡ row = cc in k) in omega (arith, lt, n)
    tested found false t h = absurd (let k : ⊥ = cc in k)

    some : (o : Option VlanTotal) → option_and_then (λ r. cond (has_entries r) (Some r) None) o ≡ Some row → 0 < row.entries
    some None h = absurd (let k : ⊥ = cc in k)
    some (Some found) h = tested found (has_entries found) refl h

pub totals_left : (rows : List VlanTotal) → AreByVlan rows → (table : List Entry) → ((vid : Vid) → length (entries_in vid table) ≡ 0 → checksums table vid ≡ 0)
    → AreTotalsOf rows table → AreTotalsOf (filter has_entries rows) table
totals_left rows sorted table empty totals vid =
    subst (λ o. (sum_of o ≡ checksums table vid) × (entries_of o ≡ length (entries_in vid table))) (sym (kept_row rows sorted vid))
    (left (row_at rows vid) (totals vid).0 (totals vid).1)
  where
    tested : (found : VlanTotal) (b : Bool) → has_entries found ≡ b → found.sum ≡ checksums table vid → found.entries ≡ length (entries_in vid table)
        → (sum_of (cond b (Some found) None) ≡ checksums table vid) × (entries_of (cond b (Some found) None) ≡ length (entries_in vid table))
    tested found true t s n = (s, n)
    tested found false t s n = let none = ltb-false 0 found.entries t in let zero : length (entries_in vid table) ≡ 0 = omega (arith, n, none) in (sym (empty vid zero), sym zero)

    left : (o : Option VlanTotal) → sum_of o ≡ checksums table vid → entries_of o ≡ length (entries_in vid table)
        → (sum_of (option_and_then (λ r. cond (has_entries r) (Some r) None) o) ≡ checksums table vid) × (entries_of (option_and_then (λ r. cond (has_entries r) (Some r) None) o) ≡ length (entries_in vid table))
    left None s n = (s, n)
    left (Some found) s n = tested found (has_entries found) refl s n

-- ---- what stays under other rows
pub totals_renamed : (old new : List VlanTotal) (table : List Entry) → KeepTotals old new → AreTotalsOf old table → AreTotalsOf new table
totals_renamed old new table keep totals vid = ((keep vid).0 ∙ (totals vid).0, (keep vid).1 ∙ (totals vid).1)

pub still_named : (old new : List VlanTotal) (changes : List Change) → KeepNames old new → AreNamed old changes → AreNamed new changes
still_named old new changes keep named i other lt added = keep _ (named i other lt added)
