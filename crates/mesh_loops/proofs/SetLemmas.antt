-- What a call of a watch leaves: a line that is set, loops that are looked at, and how many pairs are kept.
use Rattle.std.proofs.Common.{◌≡◌, ◌≤◌, ℕ, Bool, true, false, cond, ◌||◌, List, [], ◌∷◌, length, map, find, Option, Some, None, IsSome, is_some, option_and_then, refl, sym, ap, ap₂, ◌∙◌, subst, ◌↔◌, not, leb, arith}
use Rattle.std.specs.Bool.{IsTrue}
use Rattle.std.specs.List.{IsDistinct}
use Rattle.std.specs.Map.{keys_of, lookup}
use Rattle.std.specs.Option.{option_flatten, option_or}
use Rattle.std.proofs.lemmas.Bool.{false≢true, true≢false}
use Rattle.std.proofs.lemmas.Bool.Decides.{nat_tests}
use Rattle.std.proofs.lemmas.List.{length-map}
use Rattle.std.proofs.lemmas.Map.Keys.{IsDistinct-from_sorted}
use Rattle.std.proofs.lemmas.Map.Made.{is_some-lookup, length-from_same_keys}
use Rattle.mesh_base.specs.declared.address.Mac.{Mac}
use Rattle.mesh_model.specs.declared.route_line.RouteLine.{RouteLine}
use Rattle.mesh_model.specs.declared.route_line.RoutePair.{RoutePair}
use Rattle.mesh_model.specs.Loops.Routes.{has_pair, next_of, pair_of_line, pair_order, pairs_of, same_pair, tells_of}
use Rattle.mesh_laws.proofs.ListedInOrder.{sorted_in_order}
use Rattle.mesh_loops.specs.declared.when.When.{When}
use Rattle.mesh_loops.specs.declared.when.When.TheVariants.{Before, Now}
use Rattle.mesh_loops.specs.Watch.{AreKept, Kept, WasSet, WasSettled, WatchCall, WatchStands, lines_at, lines_set, next_at, PassesPairs}
use Rattle.mesh_loops.proofs.PairLemmas.{has_line, pair_equiv, pair_exact, pair_same, pair_total, same_by_pair_order, tells}

-- pairs that are kept with one more, of which something may have been kept
record IsPut (pair : RoutePair) (next : Option Mac) (old new : Kept) : Type 0 where
  routes : (q : RoutePair) → lookup (same_pair q) new.routes ≡ cond (same_pair pair q) (Some next) (lookup (same_pair q) old.routes)
  before : (q : RoutePair) → lookup (same_pair q) new.before
      ≡ option_or (lookup (same_pair q) old.before) (cond (same_pair pair q) (Some (option_flatten (lookup (same_pair pair) old.routes))) None)

or_none : {X : Type 0} (o : Option X) → option_or o None ≡ o
or_none None = refl
or_none (Some x) = refl

module _ (kept new : Kept) (calls : List WatchCall) (line : RouteLine) (put : IsPut (pair_of_line line) line.next kept new) (stands : WatchStands kept calls) where
  abbrev pair : RoutePair
  pair = pair_of_line line

  -- the line counts now
  now_is : (q : RoutePair) → next_at new Now q ≡ next_of (line ∷ lines_set calls) q.orig q.node
  now_is q =
      ap option_flatten (put.routes q)
      ∙ go (same_pair pair q)
      ∙ ap (λ b. option_and_then (λ (l : RouteLine). l.next) (cond b (Some line) (find (tells_of q.orig q.node) (lines_set calls)))) (pair_equiv.symm pair q ∙ sym (tells q line))
    where
      go : (b : Bool) → option_flatten (cond b (Some line.next) (lookup (same_pair q) kept.routes)) ≡ option_and_then (λ (l : RouteLine). l.next) (cond b (Some line) (find (tells_of q.orig q.node) (lines_set calls)))
      go true = refl
      go false = stands.nexts Now q

  -- and nothing before
  before_is : (q : RoutePair) → next_at new Before q ≡ next_at kept Before q
  before_is q =
      ap₂ (λ b r. option_flatten (option_or b r)) (put.before q) (put.routes q)
      ∙ go (lookup (same_pair q) kept.before) (same_pair pair q) refl
    where
      go : (o : Option (Option Mac)) (b : Bool) → same_pair pair q ≡ b
          → option_flatten (option_or (option_or o (cond b (Some (option_flatten (lookup (same_pair pair) kept.routes))) None)) (cond b (Some line.next) (lookup (same_pair q) kept.routes)))
          ≡ option_flatten (option_or o (lookup (same_pair q) kept.routes))
      go (Some next) b same = refl
      go None true same = ap (λ (p : RoutePair). option_flatten (lookup (same_pair p) kept.routes)) (pair_same pair q same)
      go None false same = refl

  nexts_are : (when : When) (q : RoutePair) → next_at new when q ≡ next_of (lines_at (WasSet line ∷ calls) when) q.orig q.node
  nexts_are Before q = before_is q ∙ stands.nexts Before q
  nexts_are Now q = now_is q

  pairs_are : (q : RoutePair) → is_some (lookup (same_pair q) new.routes) ≡ has_pair (line ∷ lines_set calls) q
  pairs_are q =
      ap is_some (put.routes q)
      ∙ go (same_pair pair q)
      ∙ ap₂ (λ a b. a || b) (pair_equiv.symm pair q) (stands.pairs q ∙ has_line (lines_set calls) q)
      ∙ sym (has_line (line ∷ lines_set calls) q)
    where
      go : (b : Bool) → is_some (cond b (Some line.next) (lookup (same_pair q) kept.routes)) ≡ (b || is_some (lookup (same_pair q) kept.routes))
      go true = refl
      go false = refl

  are_kept : AreKept new
  are_kept q there = subst IsSome (sym (put.routes q)) (go (same_pair pair q) (subst IsSome (put.before q) there))
    where
      go : (b : Bool) → IsSome (option_or (lookup (same_pair q) kept.before) (cond b (Some (option_flatten (lookup (same_pair pair) kept.routes))) None)) → IsSome (cond b (Some line.next) (lookup (same_pair q) kept.routes))
      go true there = refl
      go false there = stands.among q (subst IsSome (or_none (lookup (same_pair q) kept.before)) there)

  stands_set : WatchStands new (WasSet line ∷ calls)
  stands_set = record { nexts = nexts_are; pairs = pairs_are; among = are_kept }

module _ (kept : Kept) (calls : List WatchCall) (moment : ℕ) (pair : RoutePair) (next : Option Mac) (stands : WatchStands kept calls) where
  abbrev line : RouteLine
  line = record { moment = moment; node = pair.node; orig = pair.orig; next = next }

  -- a pair of which nothing is kept from before is put with what it had
  pub first_set : (new : Kept) → ((q : RoutePair) → lookup (same_pair q) new.routes ≡ cond (same_pair pair q) (Some next) (lookup (same_pair q) kept.routes))
      → ((q : RoutePair) → lookup (same_pair q) new.before ≡ cond (same_pair pair q) (Some (option_flatten (lookup (same_pair pair) kept.routes))) (lookup (same_pair q) kept.before))
      → lookup (same_pair pair) kept.before ≡ None → WatchStands new (WasSet line ∷ calls)
  first_set new routes before absent = stands_set kept new calls line (record { routes = routes; before = λ q. before q ∙ go q (same_pair pair q) refl }) stands
    where
      go : (q : RoutePair) (b : Bool) → same_pair pair q ≡ b → cond b (Some (option_flatten (lookup (same_pair pair) kept.routes))) (lookup (same_pair q) kept.before)
          ≡ option_or (lookup (same_pair q) kept.before) (cond b (Some (option_flatten (lookup (same_pair pair) kept.routes))) None)
      go q true same = ap (λ o. option_or o (Some (option_flatten (lookup (same_pair pair) kept.routes)))) (sym absent ∙ ap (λ p. lookup (same_pair p) kept.before) (pair_same pair q same))
      go q false same = sym (or_none (lookup (same_pair q) kept.before))

  -- another keeps what it had
  pub set_again : (new : Kept) → ((q : RoutePair) → lookup (same_pair q) new.routes ≡ cond (same_pair pair q) (Some next) (lookup (same_pair q) kept.routes))
      → new.before ≡ kept.before → IsSome (lookup (same_pair pair) kept.before) → WatchStands new (WasSet line ∷ calls)
  set_again new routes before there = stands_set kept new calls line (record { routes = routes; before = λ q. ap (lookup (same_pair q)) before ∙ go q (same_pair pair q) refl }) stands
    where
      first : (o : Option (Option Mac)) (d : Option (Option Mac)) → IsSome o → o ≡ option_or o d
      first None d there = absurd (false≢true there)
      first (Some x) d there = refl

      go : (q : RoutePair) (b : Bool) → same_pair pair q ≡ b → lookup (same_pair q) kept.before ≡ option_or (lookup (same_pair q) kept.before) (cond b (Some (option_flatten (lookup (same_pair pair) kept.routes))) None)
      go q true same = first (lookup (same_pair q) kept.before) _ (subst (λ p. IsSome (lookup (same_pair p) kept.before)) (pair_same pair q same) there)
      go q false same = sym (or_none (lookup (same_pair q) kept.before))

-- once loops were looked at, all is as it is now
pub settled : (kept new : Kept) (calls : List WatchCall) → WatchStands kept calls → new.routes ≡ kept.routes → new.before ≡ [] → WatchStands new (WasSettled ∷ calls)
settled kept new calls stands routes before = record {
  nexts = nexts_are;
  pairs = λ q. ap (λ r. is_some (lookup (same_pair q) r)) routes ∙ stands.pairs q;
  among = λ q there. absurd (false≢true (ap (λ b. is_some (lookup (same_pair q) b)) (sym before) ∙ there));
}
  where
    nexts_are : (when : When) (q : RoutePair) → next_at new when q ≡ next_of (lines_at (WasSettled ∷ calls) when) q.orig q.node
    nexts_are Before q = ap₂ (λ b r. option_flatten (option_or (lookup (same_pair q) b) (lookup (same_pair q) r))) before routes ∙ stands.nexts Now q
    nexts_are Now q = ap (λ r. option_flatten (lookup (same_pair q) r)) routes ∙ stands.nexts Now q

-- as many pairs are kept as lines tell of
pub as_many : (kept : Kept) (calls : List WatchCall) → WatchStands kept calls → IsDistinct same_pair (keys_of kept.routes) → length (pairs_of (lines_set calls)) ≡ length kept.routes
as_many kept calls stands once =
    length-from_same_keys pair_equiv (pairs_of (lines_set calls)) (keys_of kept.routes)
    (subst (λ same. IsDistinct same (pairs_of (lines_set calls))) (sym same_by_pair_order) (IsDistinct-from_sorted pair_order (pairs_of (lines_set calls)) (sorted_in_order pair_total pair_exact (map pair_of_line (lines_set calls)))))
    once
    (λ q. sym (stands.pairs q) ∙ is_some-lookup (same_pair q) kept.routes)
    ∙ length-map kept.routes (λ (e : RoutePair × Option Mac). e.0)

-- a pair of which nothing is kept is one too many where so many are kept
pub full_for : (kept : Kept) (calls : List WatchCall) (pair : RoutePair) (stands : WatchStands kept calls) → IsDistinct same_pair (keys_of kept.routes) → (len : ℕ) → len ≡ length kept.routes
    → is_some (lookup (same_pair pair) kept.routes) ≡ false → IsTrue (leb 65536 len) ↔ PassesPairs (lines_set calls) pair
full_for kept calls pair stands once len len_is absent =
    let many = as_many kept calls stands once in (
      λ full. (sym (stands.pairs pair) ∙ absent, le_from_leb 65536 len (length (pairs_of (lines_set calls))) (len_is ∙ sym many) full),
      λ passes. leb_from_le 65536 len (length (pairs_of (lines_set calls))) (len_is ∙ sym many) passes.1,
    )
  where
    le_from_leb : (a b d : ℕ) → b ≡ d → IsTrue (leb a b) → a ≤ d
    le_from_leb a b d e t = grind (arith, nat_tests)

    leb_from_le : (a b d : ℕ) → b ≡ d → a ≤ d → IsTrue (leb a b)
    leb_from_le a b d e t = grind (arith, nat_tests)

-- one that is kept isn't
pub not_full_for : (kept : Kept) (calls : List WatchCall) (pair : RoutePair) (stands : WatchStands kept calls) (has : Bool) → has ≡ true → is_some (lookup (same_pair pair) kept.routes) ≡ true
    → IsTrue (not has) ↔ PassesPairs (lines_set calls) pair
not_full_for kept calls pair stands has is there =
    (λ new. absurd (false≢true (ap not (sym is) ∙ new)), λ passes. absurd (true≢false (sym there ∙ stands.pairs pair ∙ passes.0)))
