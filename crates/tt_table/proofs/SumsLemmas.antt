-- What a place in the rows of sums says of a VLAN's checksum, and what a row put in or replaced changes.
use Rattle.std.proofs.Common.{◌≡◌, ℕ, zero, suc, ◌<◌, true, false, cond, nat_eq, List, [], ◌∷◌, length, map, get_or, set, nat_cmp, refl, sym, ap, ◌∙◌, subst, arith, Less, Greater}
use Rattle.std.specs.List.{insert}
use Rattle.std.specs.Ordering.{match_ordering}
use Rattle.std.proofs.lemmas.Bool.{eq-eqb, ne_eqb}
use Rattle.std.proofs.lemmas.Cmp.{nat_cmp_total, tied_itself}
use Rattle.std.proofs.lemmas.Map.Lookups.{exact_unsigned}
use Rattle.mesh_base.specs.declared.client.Vid.{Vid}
use Rattle.mesh_model.specs.Tables.Sums.{sum_at, with_sum}
use Rattle.tt_table.specs.Places.{IsThere, IsGap}
use Rattle.tt_table.specs.Sums.{row_key, row_sum}
use Rattle.tt_table.specs.declared.vlan_total.VlanTotal.{VlanTotal}
use Rattle.tt_table.proofs.OrderedLists.{gap_next, there_next, turned_greater, turned_less}

not_same : (a b : ℕ) → nat_cmp a b ≡ Less → nat_eq b a ≡ false
not_same a b e = ne_eqb b a (λ same. let tied = tied_itself nat_cmp_total a in let here = ap (nat_cmp a) same in cc)

not_same_above : (a b : ℕ) → nat_cmp a b ≡ Greater → nat_eq b a ≡ false
not_same_above a b e = ne_eqb b a (λ same. let tied = tied_itself nat_cmp_total a in let here = ap (nat_cmp a) same in cc)

same_itself : (a : ℕ) → nat_eq a a ≡ true
same_itself a = eq-eqb a a refl

pub sum_there : (vid : Vid) (rows : List VlanTotal) (i : ℕ) (d : VlanTotal) → IsThere nat_cmp row_key vid.0 rows i → sum_at (map row_sum rows) vid ≡ (get_or rows i d).sum
sum_there vid [] i d there = absurd (let w = there.within in omega (arith, w))
sum_there vid (row ∷ rows) zero d there = ap (λ b. cond b row.sum (sum_at (map row_sum rows) vid)) (ap (nat_eq vid.0) (there.same row) ∙ same_itself vid.0)
sum_there vid (row ∷ rows) (suc i) d there =
    ap (λ b. cond b row.sum (sum_at (map row_sum rows) vid)) (not_same row.vid.0 vid.0 (there.below 0 row (omega arith)))
    ∙ sum_there vid rows i d (there_next nat_cmp_total exact_unsigned row_key vid.0 row rows i there)

sum_above : (vid : Vid) (rows : List VlanTotal) → ((j : ℕ) (d : VlanTotal) → j < length rows → nat_cmp (get_or rows j d).vid.0 vid.0 ≡ Greater) → sum_at (map row_sum rows) vid ≡ 0
sum_above vid [] above = refl
sum_above vid (row ∷ rows) above =
    ap (λ b. cond b row.sum (sum_at (map row_sum rows) vid)) (not_same_above row.vid.0 vid.0 (above 0 row (omega arith)))
    ∙ sum_above vid rows (λ j d lt. above (suc j) d (omega (arith, lt)))

pub sum_in_gap : (vid : Vid) (rows : List VlanTotal) (i : ℕ) → IsGap nat_cmp row_key vid.0 rows i → sum_at (map row_sum rows) vid ≡ 0
sum_in_gap vid rows zero gap = sum_above vid rows (λ j d lt. gap.above j d (omega arith) lt)
sum_in_gap vid [] (suc i) gap = refl
sum_in_gap vid (row ∷ rows) (suc i) gap =
    ap (λ b. cond b row.sum (sum_at (map row_sum rows) vid)) (not_same row.vid.0 vid.0 (gap.below 0 row (omega arith)))
    ∙ sum_in_gap vid rows i (gap_next nat_cmp_total exact_unsigned row_key vid.0 row rows i gap)

pub set_there : (row : VlanTotal) (rows : List VlanTotal) (i : ℕ) → IsThere nat_cmp row_key row.vid.0 rows i → map row_sum (set rows i row) ≡ with_sum (row_sum row) (map row_sum rows)
set_there row [] i there = absurd (let w = there.within in omega (arith, w))
set_there row (first ∷ rows) zero there =
    ap (λ r. match_ordering r (row_sum row ∷ row_sum first ∷ map row_sum rows) (row_sum row ∷ map row_sum rows) (row_sum first ∷ with_sum (row_sum row) (map row_sum rows)))
    (sym (ap (nat_cmp row.vid.0) (there.same first) ∙ tied_itself nat_cmp_total row.vid.0))
set_there row (first ∷ rows) (suc i) there =
    ap (λ l. row_sum first ∷ l) (set_there row rows i (there_next nat_cmp_total exact_unsigned row_key row.vid.0 first rows i there))
    ∙ ap (λ r. match_ordering r (row_sum row ∷ row_sum first ∷ map row_sum rows) (row_sum row ∷ map row_sum rows) (row_sum first ∷ with_sum (row_sum row) (map row_sum rows)))
    (sym (turned_less nat_cmp_total exact_unsigned row_key first.vid.0 row.vid.0 (there.below 0 first (omega arith))))

pub set_in_gap : (row : VlanTotal) (rows : List VlanTotal) (i : ℕ) → IsGap nat_cmp row_key row.vid.0 rows i → map row_sum (insert rows i row) ≡ with_sum (row_sum row) (map row_sum rows)
set_in_gap row [] zero gap = refl
set_in_gap row [] (suc i) gap = refl
set_in_gap row (first ∷ rows) zero gap =
    ap (λ r. match_ordering r (row_sum row ∷ row_sum first ∷ map row_sum rows) (row_sum row ∷ map row_sum rows) (row_sum first ∷ with_sum (row_sum row) (map row_sum rows)))
    (sym (turned_greater nat_cmp_total exact_unsigned row_key first.vid.0 row.vid.0 (gap.above 0 first (omega arith) (omega arith))))
set_in_gap row (first ∷ rows) (suc i) gap =
    ap (λ l. row_sum first ∷ l) (set_in_gap row rows i (gap_next nat_cmp_total exact_unsigned row_key row.vid.0 first rows i gap))
    ∙ ap (λ r. match_ordering r (row_sum row ∷ row_sum first ∷ map row_sum rows) (row_sum row ∷ map row_sum rows) (row_sum first ∷ with_sum (row_sum row) (map row_sum rows)))
    (sym (turned_less nat_cmp_total exact_unsigned row_key first.vid.0 row.vid.0 (gap.below 0 first (omega arith))))

-- the same with the row's VLAN by its wire number
pub set_at : (vid : Vid) (row : VlanTotal) (rows : List VlanTotal) (i : ℕ) → row.vid.0 ≡ vid.0 → IsThere nat_cmp row_key vid.0 rows i
    → map row_sum (set rows i row) ≡ with_sum (record { vid = vid; sum = row.sum }) (map row_sum rows)
set_at vid row rows i same there =
    let vids : row.vid ≡ vid = λ j. record { 0 = same j } in
    subst (λ (v : Vid). IsThere nat_cmp row_key v.0 rows i → map row_sum (set rows i row) ≡ with_sum (record { vid = v; sum = row.sum }) (map row_sum rows)) vids (set_there row rows i) there
