-- A walk that notes where it was: each pair on its way is in a loop with a least node that is noted, or in the loop of
-- the pair where the walk is.
use Rattle.std.proofs.Common.{◌≡◌, ◌<◌, ◌≤◌, leb, ℕ, zero, suc, Bool, true, false, cond, List, [], ◌∷◌, ◌++◌, length, take, slice_get, Some, None, refl, sym, ap, ◌∙◌, subst, arith, ◌⊎◌, inl, inr}
use Rattle.std.specs.Bool.{then_some}
use Rattle.std.specs.List.{list_any}
use Rattle.std.proofs.lemmas.Bool.Decides.{nat_tests}
use Rattle.std.proofs.lemmas.List.{length-take, take-append-le}
use Rattle.std.proofs.lemmas.Map.Keys.{any_passes_from_place}
use Rattle.indexmap.specs.IndexSet.{insert_key}
use Rattle.mesh_base.specs.declared.address.Mac.{Mac}
use Rattle.mesh_model.specs.declared.route_line.RoutePair.{RoutePair}
use Rattle.mesh_loops.specs.declared.when.When.{When}
use Rattle.mesh_loops.specs.Changed.{nexts_at, pair_of}
use Rattle.mesh_loops.specs.Walks.{AreAmong, AreNoted, HasHead, HasMet, IsNoted, IsOnWay, IsWay}
use Rattle.mesh_model.specs.Loops.Routes.{same_pair}
use Rattle.mesh_loops.specs.Watch.{Kept}
use Rattle.mesh_loops.proofs.HeadLemmas.{head_leads, head_moves}
use Rattle.mesh_loops.proofs.PairLemmas.{pair_same}

module _ (kept : Kept) (when : When) where
  -- a pair is in a loop with this least node
  abbrev pub IsIn : RoutePair → Mac → Type 0
  IsIn pair head = HasHead (nexts_at kept when pair.orig) pair.node head

  module _ (heads seen : List RoutePair) (start : RoutePair) where
    -- before a walk all is noted
    pub begun : AreNoted kept when heads seen → IsWay kept when heads seen start start
    begun noted = record { all = λ pair among head is_in. inl (noted pair among head is_in); first = λ head is_in. inr (refl, is_in) }

    module _ (here : RoutePair) (way : IsWay kept when heads seen start here) where
      -- the pair where it is may be seen
      pub seen_here : (now : List RoutePair) → ((q : RoutePair) → list_any (same_pair q) now ≡ cond (same_pair here q) true (list_any (same_pair q) seen)) → IsWay kept when heads now start here
      seen_here now added = record { all = λ pair among. go pair (same_pair here pair) refl (sym (added pair) ∙ among); first = way.first }
        where
          go : (pair : RoutePair) (b : Bool) → same_pair here pair ≡ b → cond b true (list_any (same_pair pair) seen) ≡ true → IsOnWay kept when heads here pair
          go pair true same among = subst (IsOnWay kept when heads here) (pair_same here pair same) (λ head is_in. inr (refl, is_in))
          go pair false same among = way.all pair among

      -- it goes on to the next node
      pub goes_further : (after : Mac) → nexts_at kept when here.orig here.node ≡ Some after → IsWay kept when heads seen start (pair_of here.orig after)
      goes_further after leads = record { all = λ pair among. move pair (way.all pair among); first = move start way.first }
        where
          move : (pair : RoutePair) → IsOnWay kept when heads here pair → IsOnWay kept when heads (pair_of here.orig after) pair
          move pair on head is_in = go (on head is_in)
            where
              go : (list_any (same_pair (pair_of pair.orig head)) heads ≡ true) ⊎ ((pair.orig ≡ here.orig) × IsIn here head)
                  → (list_any (same_pair (pair_of pair.orig head)) heads ≡ true) ⊎ ((pair.orig ≡ here.orig) × IsIn (pair_of here.orig after) head)
              go (inl noted) = inl noted
              go (inr there) = inr (there.0, head_moves (nexts_at kept when here.orig) here.node head there.1 after leads)

      -- once the least node of the loop where it is is noted, those of all that was seen are
      module _ (more : List RoutePair) (among_more : AreAmong heads more) (noted : IsNoted kept when more here) where
        by_way : (pair : RoutePair) → IsOnWay kept when heads here pair → IsNoted kept when more pair
        by_way pair on head is_in = go (on head is_in)
          where
            go : (list_any (same_pair (pair_of pair.orig head)) heads ≡ true) ⊎ ((pair.orig ≡ here.orig) × IsIn here head) → list_any (same_pair (pair_of pair.orig head)) more ≡ true
            go (inl there) = among_more (pair_of pair.orig head) there
            go (inr there) = subst (λ orig. list_any (same_pair (pair_of orig head)) more ≡ true) (sym there.0) (noted head there.1)

        pub all_noted : AreNoted kept when more seen
        all_noted pair among = by_way pair (way.all pair among)

        pub start_noted : IsNoted kept when more start
        start_noted = by_way start way.first

  -- where no node is next there is no loop
  pub none_next : (heads : List RoutePair) (here : RoutePair) → nexts_at kept when here.orig here.node ≡ None → IsNoted kept when heads here
  none_next heads here none head is_in = absurd (head_leads (nexts_at kept when here.orig) here.node head is_in none)

-- ---- the places of what was seen
-- what is added stands behind the front
pub front_stays : (first : ℕ) (old seen now : List RoutePair) (pair : RoutePair) → first ≡ length old → take first seen ≡ old → now ≡ insert_key same_pair seen pair → take first now ≡ old
front_stays first old seen now pair counted front added = ap (take first) added ∙ go (list_any (same_pair pair) seen)
  where
    within : first ≤ length seen
    within = let long = ap length front in omega (arith, length-take first seen)

    go : (b : Bool) → take first (cond b seen (seen ++ pair ∷ [])) ≡ old
    go true = front
    go false = take-append-le first seen (pair ∷ []) within ∙ front

in_front : (first place : ℕ) (xs : List RoutePair) → place < first → slice_get (take first xs) place ≡ slice_get xs place
in_front zero place xs less = absurd (omega arith)
in_front (suc first) place [] less = refl
in_front (suc first) zero (x ∷ xs) less = refl
in_front (suc first) (suc place) (x ∷ xs) less = in_front first place xs (omega arith)

-- what stands within the front was seen before
pub seen_before : (first place : ℕ) (old now : List RoutePair) (here : RoutePair) → take first now ≡ old → place < first
    → (k : RoutePair) × (slice_get now place ≡ Some k) × (same_pair here k ≡ true) → list_any (same_pair here) old ≡ true
seen_before first place old now here front less stored =
    any_passes_from_place (same_pair here) old place stored.0 (ap (λ xs. slice_get xs place) (sym front) ∙ in_front first place now less ∙ stored.1) stored.2

-- where a walk came to a pair that was seen, it met itself unless that was seen before the walk
pub has_met : (kept : Kept) (when : When) (heads old now : List RoutePair) (start here : RoutePair) → AreNoted kept when heads old → IsWay kept when heads now start here
    → (first place : ℕ) → take first now ≡ old → (k : RoutePair) × (slice_get now place ≡ Some k) × (same_pair here k ≡ true)
    → HasMet kept when heads now start (then_some (leb first place) here)
has_met kept when heads old now start here noted way first place front stored = go (leb first place) refl
  where
    below : leb first place ≡ false → place < first
    below e = grind (arith, nat_tests)

    go : (b : Bool) → leb first place ≡ b → HasMet kept when heads now start (then_some b here)
    go true later = way
    go false before =
        let here_noted = noted here (seen_before first place old now here front (below before) stored) in
        (all_noted kept when heads now start here way heads (λ pair among. among) here_noted, start_noted kept when heads now start here way heads (λ pair among. among) here_noted)
