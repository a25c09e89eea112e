-- Which gateway is chosen among rows.
use Rattle.std.proofs.Common.{◌≡◌, ◌⊎◌, inl, inr, ◌<◌, ◌≤◌, ◌+◌, ◌&&◌, ◌||◌, ℕ, Bool, true, false, cond, nat_lt, nat_eq, is_lt, List, [], ◌∷◌, find, Option, Some, None, option_map, refl, sym, ap, subst, ◌∙◌, arith, Ordering, Less, Equal, Greater}
use Rattle.std.specs.Option.{option_or}
use Rattle.std.proofs.lemmas.Bool.{ltb-true}
use Rattle.std.proofs.lemmas.Bool.Decides.{nat_tests}
use Rattle.std.proofs.lemmas.Cmp.{tied_itself}
use Rattle.mesh_base.specs.declared.address.Mac.{Mac}
use Rattle.mesh_model.specs.declared.line_form.Policy.{Policy}
use Rattle.mesh_model.specs.declared.line_form.Policy.TheVariants.{Best, Stable, Late}
use Rattle.mesh_model.specs.declared.service.GwRow.{GwRow}
use Rattle.mesh_model.specs.Net.Next.{Has}
use Rattle.mesh_model.specs.Routes.Addresses.{is_smaller, mac_order, same_mac}
use Rattle.mesh_model.specs.Services.Gateways.{best_row, better_row, chosen_row, kept_row, old_row, unless_late}
use Rattle.mesh_laws.specs.ServiceLaws.{AnyIsChosen, BestIsGreatest, ChosenIsAmong, IsNoBetter, IsOfRow, NoneLeadsTheLate, StableStays}
use Rattle.mesh_laws.proofs.MacLemmas.{mac_total, same_exact, same_self}
use Rattle.mesh_laws.proofs.Schedule.Members.{one_some}

-- ---- rows among rows
better_among : (row : GwRow) (o : Option GwRow) (rest : List GwRow) → ((other : GwRow) → o ≡ Some other → Has rest other) → Has (row ∷ rest) (better_row row o)
better_among row None rest more = inl refl
better_among row (Some other) rest more = go (nat_lt other.metric row.metric || (nat_eq other.metric row.metric && is_smaller row.orig other.orig))
  where
    go : (b : Bool) → Has (row ∷ rest) (cond b row other)
    go true = inl refl
    go false = inr (more other refl)

best_among : (rows : List GwRow) (row : GwRow) → best_row rows ≡ Some row → Has rows row
best_among [] row is = cc
best_among (first ∷ rest) row is = subst (Has (first ∷ rest)) (one_some (better_row first (best_row rest)) row is) (better_among first (best_row rest) rest (best_among rest))

best_none : (rows : List GwRow) → best_row rows ≡ None → rows ≡ []
best_none [] none = refl
best_none (first ∷ rest) none = cc

found_among : (test : GwRow → Bool) (rows : List GwRow) (row : GwRow) → find test rows ≡ Some row → (test row ≡ true) × Has rows row
found_among test [] row is = cc
found_among test (first ∷ rest) row is = go (test first) refl is (found_among test rest row)
  where
    go : (b : Bool) → test first ≡ b → cond b (Some first) (find test rest) ≡ Some row → (find test rest ≡ Some row → (test row ≡ true) × Has rest row) → (test row ≡ true) × Has (first ∷ rest) row
    go true t e more = let same = one_some first row e in (subst (λ (r : GwRow). test r ≡ true) same t, inl (sym same))
    go false t e more = let p = more e in (p.0, inr p.1)

old_among : (old : Option Mac) (rows : List GwRow) (row : GwRow) → old_row old rows ≡ Some row → Has rows row
old_among None rows row is = cc
old_among (Some mac) rows row is = (found_among (λ (r : GwRow). same_mac mac r.orig) rows row is).1

-- ---- what is kept
late_kept : (lead : ℕ) (best : Option GwRow) (one row : GwRow) → unless_late lead best one ≡ Some row → one ≡ row
late_kept lead None one row is = one_some one row is
late_kept lead (Some best) one row is = go (nat_lt best.metric (one.metric + lead)) is
  where
    go : (b : Bool) → cond b (Some one) None ≡ Some row → one ≡ row
    go true e = one_some one row e
    go false e = cc

kept_old : (policy : Policy) (best old : Option GwRow) (row : GwRow) → kept_row policy best old ≡ Some row → old ≡ Some row
kept_old Best best old row is = cc
kept_old Stable best old row is = is
kept_old (Late lead) best None row is = cc
kept_old (Late lead) best (Some one) row is = ap Some (late_kept lead best one row is)

row_among : (policy : Policy) (old : Option Mac) (rows : List GwRow) (row : GwRow) → chosen_row policy old rows ≡ Some row → Has rows row
row_among policy old rows row is = go (kept_row policy (best_row rows) (old_row old rows)) refl is
  where
    go : (o : Option GwRow) → kept_row policy (best_row rows) (old_row old rows) ≡ o → option_or o (best_row rows) ≡ Some row → Has rows row
    go None kept e = best_among rows row e
    go (Some one) kept e = old_among old rows row (kept_old policy (best_row rows) (old_row old rows) row (kept ∙ e))

-- the row of a gateway that is chosen
of_row : (o : Option GwRow) (gateway : Mac) → option_map (λ (row : GwRow). row.orig) o ≡ Some gateway → (row : GwRow) × (o ≡ Some row) × (row.orig ≡ gateway)
of_row None gateway is = cc
of_row (Some row) gateway is = (row, refl, one_some row.orig gateway is)

chosen_so : (policy : Policy) (old : Option Mac) (rows : List GwRow) (gateway : Mac) (P : GwRow → Type 0) → ((row : GwRow) → chosen_row policy old rows ≡ Some row → P row)
    → option_map (λ (row : GwRow). row.orig) (chosen_row policy old rows) ≡ Some gateway → IsOfRow rows P gateway
chosen_so policy old rows gateway P each is =
    let of = of_row (chosen_row policy old rows) gateway is in
    record { row = of.0; among = row_among policy old rows of.0 of.1; orig_is = of.2; holds = each of.0 of.1 }

pub chosen_is_among : ChosenIsAmong
chosen_is_among policy old rows gateway is = chosen_so policy old rows gateway (λ row. Unit {0}) (λ row chosen. tt) is

pub any_is_chosen : AnyIsChosen
any_is_chosen policy old rows is = go (kept_row policy (best_row rows) (old_row old rows)) (best_row rows) refl is
  where
    go : (o best : Option GwRow) → best_row rows ≡ best → option_map (λ (row : GwRow). row.orig) (option_or o best) ≡ None → rows ≡ []
    go None None none e = best_none rows none
    go None (Some row) none e = cc
    go (Some row) best none e = cc

-- ---- the best
smaller_less : (a b : Mac) → is_smaller a b ≡ true → mac_order a b ≡ Less
smaller_less a b is = go (mac_order a b) is
  where
    go : (r : Ordering) → is_lt r ≡ true → r ≡ Less
    go Less e = refl
    go Equal e = cc
    go Greater e = cc

pub not_itself : (a : Mac) → is_smaller a a ≡ false
not_itself a = ap is_lt (tied_itself mac_total a)

-- one that is not below a second is not below what is above it
pub not_below : (a b c : Mac) → is_smaller a b ≡ true → is_smaller c b ≡ false → is_smaller c a ≡ false
not_below a b c below not = go (is_smaller c a) refl
  where
    go : (r : Bool) → is_smaller c a ≡ r → r ≡ false
    go true is = let less : is_smaller c b ≡ true = ap is_lt (mac_total.trans c a b (smaller_less c a is) (smaller_less a b below)) in cc
    go false is = refl

-- no row is better
abbrev IsTop : List GwRow → GwRow → Type 0
IsTop rows row = (other : GwRow) → Has rows other → IsNoBetter row other

-- a row is better than another by this test
abbrev is_better : GwRow → GwRow → Bool
is_better row other = nat_lt other.metric row.metric || (nat_eq other.metric row.metric && is_smaller row.orig other.orig)

better_is : (row other : GwRow) → is_better row other ≡ true → (other.metric < row.metric) ⊎ ((other.metric ≡ row.metric) × (is_smaller row.orig other.orig ≡ true))
better_is row other is = go (nat_lt other.metric row.metric) (nat_eq other.metric row.metric) refl refl is
  where
    go : (l e : Bool) → nat_lt other.metric row.metric ≡ l → nat_eq other.metric row.metric ≡ e → (l || (e && is_smaller row.orig other.orig)) ≡ true → (other.metric < row.metric) ⊎ ((other.metric ≡ row.metric) × (is_smaller row.orig other.orig ≡ true))
    go true e low same t = inl (ltb-true other.metric row.metric low)
    go false true low same t = inr (grind (arith, nat_tests, same), t)
    go false false low same t = cc

no_better_is : (row other : GwRow) → is_better row other ≡ false → IsNoBetter other row
no_better_is row other is = go (nat_lt other.metric row.metric) (nat_eq other.metric row.metric) refl refl is
  where
    go : (l e : Bool) → nat_lt other.metric row.metric ≡ l → nat_eq other.metric row.metric ≡ e → (l || (e && is_smaller row.orig other.orig)) ≡ false → IsNoBetter other row
    go true e low same t = cc
    go false true low same t = inr (grind (arith, nat_tests, same), t)
    go false false low same t = inl (grind (arith, nat_tests, low, same))

-- what is no better than one is no better than one that is better
beyond : (row one other : GwRow) → is_better row one ≡ true → IsNoBetter one other → IsNoBetter row other
beyond row one other is behind = go (better_is row one is) behind
  where
    go : (one.metric < row.metric) ⊎ ((one.metric ≡ row.metric) × (is_smaller row.orig one.orig ≡ true)) → IsNoBetter one other → IsNoBetter row other
    go (inl a) (inl b) = inl (omega arith)
    go (inl a) (inr b) = let same = b.0 in inl (omega (arith, a, same))
    go (inr a) (inl b) = let same = a.0 in inl (omega (arith, b, same))
    go (inr a) (inr b) = inr (b.0 ∙ a.0, not_below row.orig one.orig other.orig a.1 b.1)

itself_no_better : (row : GwRow) → IsNoBetter row row
itself_no_better row = inr (refl, not_itself row.orig)

better_top : (row : GwRow) (o : Option GwRow) (rest : List GwRow) → (o ≡ None → rest ≡ []) → ((one : GwRow) → o ≡ Some one → IsTop rest one) → IsTop (row ∷ rest) (better_row row o)
better_top row None rest none top other (inl is) = subst (IsNoBetter row) (sym is) (itself_no_better row)
better_top row None rest none top other (inr has) = absurd (subst (λ rows. Has rows other) (none refl) has)
better_top row (Some one) rest none top other has = go (is_better row one) refl has
  where
    go : (b : Bool) → is_better row one ≡ b → Has (row ∷ rest) other → IsNoBetter (cond b row one) other
    go true is (inl same) = subst (IsNoBetter row) (sym same) (itself_no_better row)
    go true is (inr among) = beyond row one other is (top one refl other among)
    go false is (inl same) = subst (IsNoBetter one) (sym same) (no_better_is row one is)
    go false is (inr among) = top one refl other among

best_top : (rows : List GwRow) (row : GwRow) → best_row rows ≡ Some row → IsTop rows row
best_top [] row is = cc
best_top (first ∷ rest) row is = subst (IsTop (first ∷ rest)) (one_some (better_row first (best_row rest)) row is) (better_top first (best_row rest) rest (best_none rest) (best_top rest))

pub best_is_greatest : BestIsGreatest
best_is_greatest old rows gateway is = chosen_so Best old rows gateway (IsTop rows) (λ row chosen. best_top rows row chosen) is

-- ---- the late
at_most : (one other : GwRow) → IsNoBetter one other → other.metric ≤ one.metric
at_most one other (inl low) = omega (arith, low)
at_most one other (inr same) = let metric = same.0 in omega (arith, metric)

near_kept : (lead : ℕ) (rows : List GwRow) (best : Option GwRow) (one row : GwRow) → best_row rows ≡ best → unless_late lead best one ≡ Some row → (other : GwRow) → Has rows other → other.metric < row.metric + lead
near_kept lead rows None one row none is other has = absurd (subst (λ rs. Has rs other) (best_none rows none) has)
near_kept lead rows (Some best) one row of is other has = go (nat_lt best.metric (one.metric + lead)) refl is
  where
    go : (b : Bool) → nat_lt best.metric (one.metric + lead) ≡ b → cond b (Some one) None ≡ Some row → other.metric < row.metric + lead
    go true low e =
        let most = at_most best other (best_top rows best of other has) in
        let near = ltb-true best.metric (one.metric + lead) low in
        subst (λ (r : GwRow). other.metric < r.metric + lead) (one_some one row e) (omega (arith, most, near))
    go false low e = cc

pub none_leads_the_late : NoneLeadsTheLate
none_leads_the_late lead old rows gateway some is = chosen_so (Late lead) old rows gateway (λ row. (other : GwRow) → Has rows other → other.metric < row.metric + lead) (λ row chosen. go (old_row old rows) (best_row rows) refl row chosen) is
  where
    by_best : (row : GwRow) → best_row rows ≡ Some row → (other : GwRow) → Has rows other → other.metric < row.metric + lead
    by_best row of other has = let most = at_most row other (best_top rows row of other has) in omega (arith, most, some)

    kept : (best o : Option GwRow) (one row : GwRow) → best_row rows ≡ best → unless_late lead best one ≡ o → option_or o best ≡ Some row → (other : GwRow) → Has rows other → other.metric < row.metric + lead
    kept best None one row of late e = by_best row (of ∙ e)
    kept best (Some k) one row of late e = near_kept lead rows best one row of (late ∙ e)

    go : (old best : Option GwRow) → best_row rows ≡ best → (row : GwRow) → option_or (kept_row (Late lead) best old) best ≡ Some row → (other : GwRow) → Has rows other → other.metric < row.metric + lead
    go None best of row e = by_best row (of ∙ e)
    go (Some one) best of row e = kept best (unless_late lead best one) one row of refl e

-- ---- the stable
stays : (mac : Mac) (rows : List GwRow) (row : GwRow) (best : Option GwRow) → Has rows row → row.orig ≡ mac → option_map (λ (r : GwRow). r.orig) (option_or (find (λ (r : GwRow). same_mac mac r.orig) rows) best) ≡ Some mac
stays mac [] row best has is = absurd has
stays mac (first ∷ rest) row best has is = go (same_mac mac first.orig) refl has (λ among. stays mac rest row best among is)
  where
    Stays : List GwRow → Type 0
    Stays rows = option_map (λ (r : GwRow). r.orig) (option_or (find (λ (r : GwRow). same_mac mac r.orig) rows) best) ≡ Some mac

    go : (b : Bool) → same_mac mac first.orig ≡ b → Has (first ∷ rest) row → (Has rest row → Stays rest)
        → option_map (λ (r : GwRow). r.orig) (option_or (cond b (Some first) (find (λ (r : GwRow). same_mac mac r.orig) rest)) best) ≡ Some mac
    go true same among more = ap Some (sym (same_exact mac first.orig same))
    go false same (inl first_is) more =
        let it : same_mac mac first.orig ≡ true = subst (λ (m : Mac). same_mac mac m ≡ true) (sym is ∙ ap (λ (r : GwRow). r.orig) first_is) (same_self mac) in
        cc
    go false same (inr among) more = more among

pub stable_stays : StableStays
stable_stays rows row has = stays row.orig rows row (best_row rows) has refl
