-- The least VLAN that passes a test, of one list and of two, and of rows by wire number.
use Rattle.std.proofs.Common.{◌≡◌, ℕ, zero, suc, ◌<◌, Bool, true, false, cond, not, nat_eq, nat_lt, List, [], ◌∷◌, ◌++◌, length, map, drop, get_or, Option, Some, None, nat_cmp, refl, sym, ap, ap₂, ◌∙◌, arith, Less}
use Rattle.std.proofs.Math.Path.{fun_ext}
use Rattle.std.specs.List.{AllByRecursion}
use Rattle.std.specs.List.Sorted.{IsStrictlySortedBy}
use Rattle.std.proofs.lemmas.List.{length-map}
use Rattle.std.proofs.lemmas.Bool.Decides.{nat_tests}
use Rattle.mesh_base.specs.declared.client.Vid.{Vid}
use Rattle.mesh_model.specs.Packets.Bodies.{VlanSum}
use Rattle.mesh_model.specs.Tables.Differences.{differ_at, least_passing, lesser, named_vlans, vlan_if}
use Rattle.mesh_model.specs.Tables.Sums.{sum_at}
use Rattle.tt_table.specs.Sums.{AreByVlan, row_key, row_sum}
use Rattle.tt_table.specs.declared.vlan_total.VlanTotal.{VlanTotal}

-- ---- the lesser of two
abbrev pick : Bool → Vid → Vid → Option Vid
pick b a c = cond b (Some c) (Some a)

pub lesser_again : (a b c : Option Vid) → lesser (lesser a b) c ≡ lesser a (lesser b c)
lesser_again None b c = refl
lesser_again (Some a) None c = refl
lesser_again (Some a) (Some b) None =
    elim (nat_lt b.0 a.0) as (λ t. lesser (pick t a b) None ≡ pick t a b) [ true ↦ refl | false ↦ refl ]
lesser_again (Some a) (Some b) (Some c) = go (nat_lt b.0 a.0) refl (nat_lt c.0 b.0) refl (nat_lt c.0 a.0) refl
  where
    go : (x : Bool) → nat_lt b.0 a.0 ≡ x → (y : Bool) → nat_lt c.0 b.0 ≡ y → (z : Bool) → nat_lt c.0 a.0 ≡ z → lesser (pick x a b) (Some c) ≡ lesser (Some a) (pick y b c)
    go true xs true ys z zs = ap (λ t. pick t b c) ys ∙ sym (ap (λ t. pick t a c) (let low : nat_lt c.0 a.0 ≡ true = grind (arith, nat_tests) in low))
    go true xs false ys z zs = ap (λ t. pick t b c) ys ∙ sym (ap (λ t. pick t a b) xs)
    go false xs true ys z zs = refl
    go false xs false ys z zs =
        ap (λ t. pick t a c) (let high : nat_lt c.0 a.0 ≡ false = grind (arith, nat_tests) in high) ∙ sym (ap (λ t. pick t a b) xs)

-- the least of two lists is the lesser of the least of each
pub least_of_both : (test : Vid → Bool) (xs ys : List Vid) → least_passing test (xs ++ ys) ≡ lesser (least_passing test xs) (least_passing test ys)
least_of_both test [] ys = refl
least_of_both test (x ∷ xs) ys =
    ap (lesser (vlan_if test x)) (least_of_both test xs ys) ∙ sym (lesser_again (vlan_if test x) (least_passing test xs) (least_passing test ys))

-- ---- rows by wire number
abbrev AreAbove : Vid → List VlanTotal → Type 0
AreAbove vid rows = AllByRecursion (λ k. nat_cmp vid.0 k ≡ Less) (map row_key rows)

abbrev pub row_vids : List VlanTotal → List Vid
row_vids rows = named_vlans (map row_sum rows)

stays_least : (vid other : Vid) (b : Bool) (rest : Option Vid) → nat_cmp vid.0 other.0 ≡ Less → lesser (Some vid) rest ≡ Some vid → lesser (Some vid) (lesser (cond b (Some other) None) rest) ≡ Some vid
stays_least vid other false rest less is = is
stays_least vid other true rest less is =
    sym (lesser_again (Some vid) (Some other) rest)
    ∙ ap (λ t. lesser (pick t vid other) rest) (let above : nat_lt other.0 vid.0 ≡ false = grind (arith, nat_tests) in above) ∙ is

least_below : (test : Vid → Bool) (vid : Vid) (rows : List VlanTotal) → AreAbove vid rows → lesser (Some vid) (least_passing test (row_vids rows)) ≡ Some vid
least_below test vid [] above = refl
least_below test vid (row ∷ rows) above = stays_least vid row.vid (test row.vid) _ above.0 (least_below test vid rows above.1)

-- the first that passes is the least
pub first_is_least : (test : Vid → Bool) (rows : List VlanTotal) (i : ℕ) (d : VlanTotal) → AreByVlan rows → i < length rows
    → ((j : ℕ) (e : VlanTotal) → j < i → test (get_or rows j e).vid ≡ false) → test (get_or rows i d).vid ≡ true → least_passing test (row_vids rows) ≡ Some (get_or rows i d).vid
unfolding IsStrictlySortedBy
first_is_least test [] i d sorted within before here = absurd (omega (arith, within))
first_is_least test (row ∷ rows) zero d sorted within before here =
    ap (λ b. lesser (cond b (Some row.vid) None) (least_passing test (row_vids rows))) here ∙ least_below test row.vid rows sorted.0
first_is_least test (row ∷ rows) (suc i) d sorted within before here =
    ap (λ b. lesser (cond b (Some row.vid) None) (least_passing test (row_vids rows))) (before 0 row (omega arith))
    ∙ first_is_least test rows i d sorted.1 (omega (arith, within)) (λ j e lt. before (suc j) e (omega (arith, lt))) here

pub none_passes : (test : Vid → Bool) (rows : List VlanTotal) → ((j : ℕ) (e : VlanTotal) → j < length rows → test (get_or rows j e).vid ≡ false) → least_passing test (row_vids rows) ≡ None
none_passes test [] before = refl
none_passes test (row ∷ rows) before =
    ap (λ b. lesser (cond b (Some row.vid) None) (least_passing test (row_vids rows))) (before 0 row (omega arith))
    ∙ none_passes test rows (λ j e lt. before (suc j) e (omega (arith, lt)))

-- ---- the difference of two lists of sums
other_way : (a b : ℕ) → not (nat_eq a b) ≡ not (nat_eq b a)
other_way a b = grind (arith, nat_tests)

pub differ_either_way : (kept told : List VlanSum) → differ_at told kept ≡ differ_at kept told
differ_either_way kept told = fun_ext (λ vid. other_way (sum_at told vid) (sum_at kept vid))

-- the least VLAN of both, from the least of each
pub least_named : (kept told : List VlanSum) (mine other : Option Vid) → mine ≡ least_passing (differ_at kept told) (named_vlans kept)
    → other ≡ least_passing (differ_at told kept) (named_vlans told) → lesser mine other ≡ least_passing (differ_at kept told) (named_vlans kept ++ named_vlans told)
least_named kept told mine other mine_is other_is =
    ap (λ x. lesser x other) mine_is
    ∙ ap (lesser (least_passing (differ_at kept told) (named_vlans kept))) (other_is ∙ ap (λ t. least_passing t (named_vlans told)) (differ_either_way kept told))
    ∙ sym (least_of_both (differ_at kept told) (named_vlans kept) (named_vlans told))

-- ---- sums that are the same
pub same_named : (xs ys : List VlanTotal) → length xs ≡ length ys → ((i : ℕ) (d : VlanTotal) → i < length xs → row_sum (get_or xs i d) ≡ row_sum (get_or ys i d)) → map row_sum xs ≡ map row_sum ys
same_named [] [] counted same = refl
same_named [] (y ∷ ys) counted same = absurd (omega (arith, counted))
same_named (x ∷ xs) [] counted same = absurd (omega (arith, counted))
same_named (x ∷ xs) (y ∷ ys) counted same =
    ap₂ (λ r l. r ∷ l) (same 0 x (omega arith)) (same_named xs ys (omega (arith, counted)) (λ i d lt. same (suc i) d (omega (arith, lt))))

pub same_counted : (xs ys : List VlanTotal) → map row_sum xs ≡ map row_sum ys → length xs ≡ length ys
same_counted xs ys is = sym (length-map xs row_sum) ∙ ap length is ∙ length-map ys row_sum

pub same_rows : (xs ys : List VlanTotal) → map row_sum xs ≡ map row_sum ys → (i : ℕ) (d e : VlanTotal) → i < length xs → row_sum (get_or xs i d) ≡ row_sum (get_or ys i e)
same_rows [] ys is i d e lt = absurd (omega (arith, lt))
same_rows (x ∷ xs) [] is i d e lt = absurd (let counted = same_counted (x ∷ xs) [] is in omega (arith, counted))
same_rows (x ∷ xs) (y ∷ ys) is zero d e lt = ap (λ l. get_or l 0 (row_sum x)) is
same_rows (x ∷ xs) (y ∷ ys) is (suc i) d e lt = same_rows xs ys (ap (drop 1) is) i d e (omega (arith, lt))
