-- Walks from one changed pair after another: the least node is noted of each loop to which one leads that was passed.
use Rattle.std.proofs.Common.{◌≡◌, ◌+◌, ◌<◌, ℕ, suc, Bool, true, false, ◌||◌, List, [], ◌∷◌, length, take, get_or, Option, Some, None, is_some, refl, sym, ap, ◌∙◌, subst, arith}
use Rattle.std.specs.List.{list_any}
use Rattle.std.specs.List.Sorted.{IsPermutation}
use Rattle.std.specs.Map.{keys_of, lookup}
use Rattle.std.specs.Option.{option_flatten, option_or}
use Rattle.std.proofs.Math.Seq.{take-suc}
use Rattle.std.proofs.lemmas.Bool.{false≢true, true≢false}
use Rattle.std.proofs.lemmas.List.Folds.{list_any-append}
use Rattle.std.proofs.lemmas.List.Sorted.{list_any-IsPermutation}
use Rattle.std.proofs.lemmas.Map.Made.{is_some-lookup}
use Rattle.mesh_base.specs.declared.address.Mac.{Mac}
use Rattle.mesh_model.specs.declared.route_line.RoutePair.{RoutePair}
use Rattle.mesh_loops.specs.declared.when.When.{When}
use Rattle.mesh_loops.specs.declared.when.When.TheVariants.{Before, Now}
use Rattle.mesh_loops.specs.Changed.{has_changed, pair_of}
use Rattle.mesh_loops.specs.Walks.{AreAmong, IsNoted}
use Rattle.mesh_model.specs.Loops.Routes.{same_pair}
use Rattle.mesh_loops.specs.Watch.{Kept, next_at}
use Rattle.mesh_loops.proofs.ChangedLemmas.{not_changed}
use Rattle.mesh_loops.proofs.NotedLemmas.{stays_noted}
use Rattle.mesh_loops.proofs.PairLemmas.{pair_same}

-- a pair that has changed was set since loops were looked at last
pub changed_is_set : (kept : Kept) (pair : RoutePair) → has_changed kept pair ≡ true → list_any (same_pair pair) (keys_of kept.before) ≡ true
changed_is_set kept pair changed = sym (is_some-lookup (same_pair pair) kept.before) ∙ go (lookup (same_pair pair) kept.before) refl
  where
    go : (o : Option (Option Mac)) → lookup (same_pair pair) kept.before ≡ o → is_some o ≡ true
    go (Some next) is = refl
    go None is =
        let same : next_at kept Before pair ≡ next_at kept Now pair = ap (λ o. option_flatten (option_or o (lookup (same_pair pair) kept.routes))) is in
        absurd (true≢false (sym changed ∙ not_changed kept Before pair same))

module _ (kept : Kept) (when : When) where
  -- of these pairs each that has changed is noted
  abbrev pub ArePassed : List RoutePair → List RoutePair → Type 0
  ArePassed heads pairs = (pair : RoutePair) → list_any (same_pair pair) pairs ≡ true → has_changed kept pair ≡ true → IsNoted kept when heads pair

  -- so are those with one more
  pub passed_further : (old new pairs : List RoutePair) (i : ℕ) (d : RoutePair) → i < length pairs → AreAmong old new → ArePassed old (take i pairs)
      → (has_changed kept (get_or pairs i d) ≡ true → IsNoted kept when new (get_or pairs i d)) → ArePassed new (take (i + 1) pairs)
  passed_further old new pairs i d within among passed last pair there changed =
      go (list_any (same_pair pair) (take i pairs)) refl (same_pair pair here) refl (sym split ∙ there)
    where
      here : RoutePair
      here = get_or pairs i d

      next : i + 1 ≡ suc i
      next = omega arith

      split : list_any (same_pair pair) (take (i + 1) pairs) ≡ (list_any (same_pair pair) (take i pairs) || (same_pair pair here || false))
      split =
          ap (λ n. list_any (same_pair pair) (take n pairs)) next
          ∙ ap (list_any (same_pair pair)) (take-suc pairs i d within) ∙ list_any-append (same_pair pair) (take i pairs) (here ∷ [])

      go : (a : Bool) → list_any (same_pair pair) (take i pairs) ≡ a → (b : Bool) → same_pair pair here ≡ b → (a || (b || false)) ≡ true → IsNoted kept when new pair
      go true is b same e = stays_noted kept when old new pair among (passed pair is changed)
      go false is true same e =
          let it = pair_same pair here same in
          subst (IsNoted kept when new) (sym it) (last (subst (λ q. has_changed kept q ≡ true) it changed))
      go false is false same e = absurd (false≢true e)

  -- the order of what is noted is no matter
  pub noted_sorted : (heads sorted : List RoutePair) (pair : RoutePair) → IsPermutation heads sorted → IsNoted kept when heads pair → IsNoted kept when sorted pair
  noted_sorted heads sorted pair moves noted head has = sym (list_any-IsPermutation (same_pair (pair_of pair.orig head)) heads sorted moves) ∙ noted head has
