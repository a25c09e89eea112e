-- Where two lists of sums differ: the least VLAN that passes a test, and what agreement says.
use Rattle.std.proofs.Common.{◌≡◌, ◌≢◌, ◌<◌, ◌≤◌, ℕ, Bool, true, false, cond, not, nat_eq, nat_lt, ◌&&◌, ◌||◌, List, [], ◌∷◌, ◌++◌, Option, Some, None, option_map, is_none, is_some, refl, sym, ap, ap₂, ◌∙◌, subst, arith}
use Rattle.std.proofs.Math.Path.{fun_ext}
use Rattle.std.specs.List.{list_any}
use Rattle.std.proofs.lemmas.Bool.{true≢false, false≢true, eq-eqb, and_from, and_parts}
use Rattle.std.proofs.lemmas.Bool.Decides.{nat_tests}
use Rattle.mesh_base.specs.declared.client.Vid.{Vid}
use Rattle.mesh_model.specs.Packets.Bodies.{VlanSum}
use Rattle.mesh_model.specs.declared.table_outcome.Difference.{Difference}
use Rattle.mesh_model.specs.Tables.Differences.{differ_at, difference_at, first_difference, least_passing, lesser, named_vlans}
use Rattle.mesh_model.specs.Tables.Sums.{sum_at, sums_of}
use Rattle.mesh_model.specs.Tables.Versions.{Stamp}
use Rattle.mesh_laws.specs.KnownLaws.{AgreesByChecksums, FindsEachDifference, FindsLeastDifference, IsLeastDifference}
use Rattle.mesh_laws.proofs.AnnouncedSums.{announces_checksums}

-- ---- the least that passes
-- whether a VLAN is in a list
abbrev is_among : Vid → List Vid → Bool
is_among vid vids = list_any (λ other. nat_eq vid.0 other.0) vids

-- what was found of VLANs passes, and none of them that passes is below it
abbrev IsLeast : (Vid → Bool) → List Vid → Option Vid → Type 0
IsLeast test vids None = (vid : Vid) → is_among vid vids ≡ true → test vid ≡ false
IsLeast test vids (Some least) = (test least ≡ true) × ((vid : Vid) → is_among vid vids ≡ true → test vid ≡ true → least.0 ≤ vid.0)

same_number : (a b : ℕ) → nat_eq a b ≡ true → a ≡ b
same_number a b t = grind (arith, nat_tests)

same_vid : (a b : Vid) → nat_eq a.0 b.0 ≡ true → a ≡ b
same_vid a b t = let e = same_number a.0 b.0 t in λ i. record { 0 = e i }

less_from : (a b : ℕ) → nat_lt a b ≡ true → a < b
less_from a b t = grind (arith, nat_tests)

not_less : (a b : ℕ) → nat_lt a b ≡ false → b ≤ a
not_less a b t = grind (arith, nat_tests)

-- of a list with one more, by whether it is the one
either : (v vid : Vid) (vids : List Vid) (P : Type 0) → is_among vid (v ∷ vids) ≡ true → (vid ≡ v → P) → (is_among vid vids ≡ true → P) → P
either v vid vids P among here there = go (nat_eq vid.0 v.0) refl among
  where
    go : (b : Bool) → nat_eq vid.0 v.0 ≡ b → (b || is_among vid vids) ≡ true → P
    go true t among = here (same_vid vid v t)
    go false t among = there among

one_more : (test : Vid → Bool) (v : Vid) (vids : List Vid) (b : Bool) → test v ≡ b → (rest : Option Vid) → IsLeast test vids rest → IsLeast test (v ∷ vids) (lesser (cond b (Some v) None) rest)
one_more test v vids false t None f = λ vid among. either v vid vids _ among (λ is. ap test is ∙ t) (λ there. f vid there)
one_more test v vids false t (Some w) f = (f.0, λ vid among passes. either v vid vids _ among (λ is. absurd (true≢false (sym passes ∙ ap test is ∙ t))) (λ there. f.1 vid there passes))
one_more test v vids true t None f = (t, λ vid among passes. either v vid vids _ among (λ is. let e = ap (λ x. x.0) is in omega (arith, e)) (λ there. absurd (true≢false (sym passes ∙ f vid there))))
one_more test v vids true t (Some w) f = go (nat_lt w.0 v.0) refl
  where
    go : (b : Bool) → nat_lt w.0 v.0 ≡ b → IsLeast test (v ∷ vids) (cond b (Some w) (Some v))
    go true lt = (f.0, λ vid among passes. either v vid vids _ among (λ is. let e = ap (λ x. x.0) is in let low = less_from w.0 v.0 lt in omega (arith, e, low)) (λ there. f.1 vid there passes))
    go false lt = (t, λ vid among passes. either v vid vids _ among (λ is. let e = ap (λ x. x.0) is in omega (arith, e)) (λ there. let low = f.1 vid there passes in let high = not_less w.0 v.0 lt in omega (arith, low, high)))

found_least : (test : Vid → Bool) (vids : List Vid) → IsLeast test vids (least_passing test vids)
found_least test [] = λ vid among. absurd (false≢true among)
found_least test (v ∷ vids) = one_more test v vids (test v) refl (least_passing test vids) (found_least test vids)

-- ---- VLANs that differ are named
among_both : (vid : Vid) (xs ys : List Vid) → is_among vid (xs ++ ys) ≡ (is_among vid xs || is_among vid ys)
among_both vid [] ys = refl
among_both vid (x ∷ xs) ys = ap (λ b. nat_eq vid.0 x.0 || b) (among_both vid xs ys) ∙ again (nat_eq vid.0 x.0) (is_among vid xs) (is_among vid ys)
  where
    again : (a b c : Bool) → (a || (b || c)) ≡ ((a || b) || c)
    again true b c = refl
    again false b c = refl

unnamed_is_zero : (vid : Vid) (sums : List VlanSum) → is_among vid (named_vlans sums) ≡ false → sum_at sums vid ≡ 0
unnamed_is_zero vid [] t = refl
unnamed_is_zero vid (s ∷ sums) t = go (nat_eq vid.0 s.vid.0) refl t (unnamed_is_zero vid sums)
  where
    go : (b : Bool) → nat_eq vid.0 s.vid.0 ≡ b → (b || is_among vid (named_vlans sums)) ≡ false → (is_among vid (named_vlans sums) ≡ false → sum_at sums vid ≡ 0) → cond b s.sum (sum_at sums vid) ≡ 0
    go true e t rest = absurd (true≢false t)
    go false e t rest = rest t

equal_numbers : (a b : ℕ) → not (nat_eq a b) ≡ false → a ≡ b
equal_numbers a b t = grind (arith, nat_tests)

other_numbers : (a b : ℕ) → not (nat_eq a b) ≡ true → a ≢ b
other_numbers a b t = λ e. absurd (true≢false (sym t ∙ ap not (eq-eqb a b e)))

same_numbers : (a b : ℕ) → a ≡ b → not (nat_eq a b) ≡ false
same_numbers a b e = ap not (eq-eqb a b e)

-- where a named VLAN doesn't differ, the checksums are the same
same_at : (kept told : List VlanSum) (vid : Vid) → (is_among vid (named_vlans kept ++ named_vlans told) ≡ true → differ_at kept told vid ≡ false) → sum_at kept vid ≡ sum_at told vid
same_at kept told vid named = go (is_among vid (named_vlans kept)) refl (is_among vid (named_vlans told)) refl
  where
    split : is_among vid (named_vlans kept ++ named_vlans told) ≡ (is_among vid (named_vlans kept) || is_among vid (named_vlans told))
    split = among_both vid (named_vlans kept) (named_vlans told)

    go : (a : Bool) → is_among vid (named_vlans kept) ≡ a → (b : Bool) → is_among vid (named_vlans told) ≡ b → sum_at kept vid ≡ sum_at told vid
    go true t b u = equal_numbers _ _ (named (split ∙ ap (λ x. x || is_among vid (named_vlans told)) t))
    go false t true u = equal_numbers _ _ (named (split ∙ ap₂ (λ x y. x || y) t u))
    go false t false u = unnamed_is_zero vid kept t ∙ sym (unnamed_is_zero vid told u)

none_only : {X Y : Type 0} (f : X → Y) (o : Option X) → option_map f o ≡ None → o ≡ None
none_only f None e = refl
none_only f (Some x) e = absurd (true≢false (ap is_some e))

-- the VLANs that are named in one of two lists
abbrev both : List VlanSum → List VlanSum → List Vid
both kept told = named_vlans kept ++ named_vlans told

no_least : (kept told : List VlanSum) → sum_at kept ≡ sum_at told → (o : Option Vid) → IsLeast (differ_at kept told) (both kept told) o → o ≡ None
no_least kept told same None f = refl
no_least kept told same (Some vid) f = absurd (true≢false (sym f.0 ∙ same_numbers _ _ (ap (λ g. g vid) same)))

pub finds_each_difference : FindsEachDifference
finds_each_difference kept told = (
  λ none.
      let least : IsLeast (differ_at kept told) (both kept told) None = subst (IsLeast (differ_at kept told) (both kept told)) (none_only (difference_at kept told) _ none) (found_least (differ_at kept told) (both kept told)) in
      fun_ext (λ vid. same_at kept told vid (least vid)),
  λ same. ap (option_map (difference_at kept told)) (no_least kept told same _ (found_least (differ_at kept told) (both kept told))),
)

abbrev value_or : {X : Type 0} → X → Option X → X
value_or x None = x
value_or x (Some y) = y

below_same : (kept told : List VlanSum) (vid other : Vid) (b : Bool) → differ_at kept told other ≡ b → (b ≡ true → vid.0 ≤ other.0) → other.0 < vid.0 → differ_at kept told other ≡ false
below_same kept told vid other true t above lt = absurd (let high = above refl in omega (arith, high, lt))
below_same kept told vid other false t above lt = t

least_of_some : (kept told : List VlanSum) (difference : Difference) (o : Option Vid) → IsLeast (differ_at kept told) (both kept told) o → option_map (difference_at kept told) o ≡ Some difference → IsLeastDifference kept told difference
least_of_some kept told difference None f e = absurd (false≢true (ap is_some e))
least_of_some kept told difference (Some vid) f e = subst (IsLeastDifference kept told) (ap (value_or difference) e) (record {
  kept_is = refl;
  told_is = refl;
  differs = other_numbers _ _ f.0;
  least = λ other lt. same_at kept told other (λ among. below_same kept told vid other (differ_at kept told other) refl (λ t. f.1 other among t) lt);
})

pub finds_least_difference : FindsLeastDifference
finds_least_difference kept told difference is = least_of_some kept told difference _ (found_least (differ_at kept told) (both kept told)) is

-- ---- agreement
none_from : {X : Type 0} (o : Option X) → is_none o ≡ true → o ≡ None
none_from None t = refl
none_from (Some x) t = absurd (false≢true t)

pub agrees_by_checksums : AgreesByChecksums
agrees_by_checksums told held = (
  λ t.
      let parts = and_parts (nat_eq held.byte told.byte) (is_none (first_difference (sums_of held.table) told.sums)) t in
      (same_number held.byte told.byte parts.0, sym (announces_checksums held.table) ∙ (finds_each_difference (sums_of held.table) told.sums).0 (none_from _ parts.1)),
  λ is. and_from _ _ (eq-eqb held.byte told.byte is.0) (ap is_none ((finds_each_difference (sums_of held.table) told.sums).1 (announces_checksums held.table ∙ is.1))),
)

-- what matches what was told, by its byte and its checksums
pub by_match : {X : Type 0} (told stamp : Stamp) → (nat_eq told.byte stamp.byte && is_none (first_difference told.sums stamp.sums)) ≡ true → (told.byte ≡ stamp.byte → sum_at told.sums ≡ sum_at stamp.sums → X) → X
by_match {X} told stamp matches then = go (nat_eq told.byte stamp.byte) refl (first_difference told.sums stamp.sums) refl matches
  where
    go : (same : Bool) → nat_eq told.byte stamp.byte ≡ same → (d : Option _) → first_difference told.sums stamp.sums ≡ d → (same && is_none d) ≡ true → X
    go true is None none m = then (same_number told.byte stamp.byte is) ((finds_each_difference told.sums stamp.sums).0 none)
    go true is (Some d) some m = absurd (false≢true m)
    go false is d e m = absurd (false≢true m)
