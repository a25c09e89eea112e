-- The walk over an originator's rows finds the best route of a life, where each row has the score of
-- its neighbour.
use Rattle.std.proofs.Common.{◌≡◌, ℕ, nat_eq, nat_lt, Bool, true, false, cond, ◌&&◌, ◌||◌, List, [], ◌∷◌, map, is_some, Option, Some, None, option_map, is_lt, refl, sym, ap, ap₂, ◌∙◌, Less, Equal, Greater}
use Rattle.std.specs.List.{AllByRecursion}
use Rattle.std.specs.List.Sorted.{IsStrictlySortedBy}
use Rattle.std.specs.Map.{keys_of, lookup}
use Rattle.std.specs.Ordering.{ordering_then}
use Rattle.std.proofs.lemmas.Bool.{true≢false, false≢true}
use Rattle.mesh_base.specs.declared.address.Mac.{Mac}
use Rattle.mesh_model.specs.Routes.Addresses.{mac_order, same_mac, is_smaller}
use Rattle.mesh_model.specs.Routes.BestRoute.{better, best, best_route, is_over}
use Rattle.mesh_model.specs.Routes.Life.{HeardOgm, numbers_from}
use Rattle.mesh_laws.proofs.MacLemmas.{same_self, same_exact, same_equiv, other_by_order}
use Rattle.mesh_algo.specs.declared.best.Best.{Best}
use Rattle.mesh_algo.specs.declared.pair.Pair.{Pair}
use Rattle.mesh_algo.specs.Pairs.{pair_order, same_pair}
use Rattle.mesh_algo.specs.Walk.{best_in, better_row, is_best, walk}
use Rattle.mesh_algo.proofs.LifeLemmas.{and_false, or_parts, other_numbers}
use Rattle.mesh_algo.proofs.BestLemmas.{is_among, best_is_top, one_top}

-- ---- a neighbour from which nothing was heard
unheard_from : (k : Mac) (alive : List HeardOgm) → is_among (map (λ h. h.from) alive) k ≡ false → numbers_from k alive ≡ []
unheard_from k [] e = refl
unheard_from k (h ∷ alive) e =
    let parts = or_parts (same_mac k h.from) (is_among (map (λ g. g.from) alive) k) e in
    other_numbers k h alive (same_equiv.symm h.from k ∙ parts.0) ∙ unheard_from k alive parts.1

-- ---- pairs
same_pair_self : (a : Pair) → same_pair a a ≡ true
same_pair_self a = ap₂ (λ x y. x && y) (same_self a.orig) (same_self a.from)

other_pair : (a b : Pair) → pair_order a b ≡ Less → same_pair b a ≡ false
other_pair a b e =
    elim (mac_order a.orig b.orig) as (λ r. mac_order a.orig b.orig ≡ r → ordering_then r (mac_order a.from b.from) ≡ Less → same_pair b a ≡ false) [
      | Less ↦ λ p h. ap (λ x. x && same_mac b.from a.from) (other_by_order a.orig b.orig p)
      | Equal ↦ λ p h. ap (λ x. same_mac b.orig a.orig && x) (other_by_order a.from b.from h) ∙ and_false (same_mac b.orig a.orig)
      | Greater ↦ λ p h. absurd (false≢true (ap is_lt h))
    ] refl e

-- each row is found by its key
abbrev AllRows : {X : Type 0} → (Pair × X → Type 0) → List (Pair × X) → Type 0
AllRows P [] = Unit {0}
AllRows P (e ∷ rows) = P e × AllRows P rows

all_later : {X : Type 0} (P Q : Pair × X → Type 0) (k : Pair) (rows : List (Pair × X)) → AllByRecursion (λ y. pair_order k y ≡ Less) (keys_of rows) → ((e : Pair × X) → pair_order k e.0 ≡ Less → P e → Q e) → AllRows P rows → AllRows Q rows
all_later P Q k [] above step all = tt
all_later P Q k (e ∷ rows) above step all = (step e above.0 all.0, all_later P Q k rows above.1 step all.1)

all_rows : {X : Type 0} (P Q : Pair × X → Type 0) (rows : List (Pair × X)) → ((e : Pair × X) → P e → Q e) → AllRows P rows → AllRows Q rows
all_rows P Q [] step all = tt
all_rows P Q (e ∷ rows) step all = (step e all.0, all_rows P Q rows step all.1)

rows_found : {X : Type 0} (rows : List (Pair × X)) → IsStrictlySortedBy pair_order (keys_of rows) → AllRows (λ e. lookup (same_pair e.0) rows ≡ Some e.1) rows
unfolding IsStrictlySortedBy
rows_found [] sorted = tt
rows_found (e ∷ rows) sorted = (
  ap (λ b. cond b (Some e.1) (lookup (same_pair e.0) rows)) (same_pair_self e.0),
  all_later (λ f. lookup (same_pair f.0) rows ≡ Some f.1) (λ f. lookup (same_pair f.0) (e ∷ rows) ≡ Some f.1) e.0 rows sorted.0
      (λ f less found. ap (λ b. cond b (Some e.1) (lookup (same_pair f.0) rows)) (other_pair e.0 f.0 less) ∙ found) (rows_found rows sorted.1),
)

or_none : (a : Bool) → a ≡ (a || false)
or_none true = refl
or_none false = refl

one_more : {X : Type 0} (c s : Bool) (path : X) (rest : Option X) → ((c || s) || is_some rest) ≡ (s || is_some (cond c (Some path) rest))
one_more true true path rest = refl
one_more true false path rest = refl
one_more false s path rest = refl

none_is : {X : Type 0} (row : Option X) → is_some row ≡ false → row ≡ None
none_is None e = refl
none_is (Some path) e = absurd (true≢false e)

-- ---- the walk
module _ {X : Type 0} (f : Mac → X → ℕ) (score : Mac → ℕ) (o : Mac) where
  abbrev with_score : Option Mac → Option Best
  with_score k = option_map (λ k. record { from = k; score = score k }) k

  -- the neighbours of the originator's rows, behind those before
  abbrev onto : List Mac → List (Pair × X) → List Mac
  onto seen [] = seen
  onto seen (e ∷ rows) = cond (same_mac e.0.orig o) (onto (e.0.from ∷ seen) rows) (onto seen rows)

  better_step : (k : Option Mac) (from : Mac) → better_row (with_score k) from (score from) ≡ with_score (better score from k)
  better_step None from = elim (nat_lt 0 (score from)) as (λ b. cond b (Some (record { from = from; score = score from })) None ≡ with_score (cond b (Some from) None)) [ true ↦ refl | false ↦ refl ]
  better_step (Some j) from =
      elim (nat_lt (score j) (score from) || (nat_eq (score j) (score from) && is_smaller from j)) as (λ b. cond b (Some (record { from = from; score = score from })) (Some (record { from = j; score = score j })) ≡ with_score (cond b (Some from) (Some j))) [ true ↦ refl | false ↦ refl ]

  abbrev HasScore : Pair × X → Type 0
  HasScore e = same_mac e.0.orig o ≡ true → f e.0.from e.1 ≡ score e.0.from

  walk_onto : (seen : List Mac) (rows : List (Pair × X)) → AllRows HasScore rows → walk f o (with_score (best score seen)) rows ≡ with_score (best score (onto seen rows))
  walk_onto seen [] all = refl
  walk_onto seen (e ∷ rows) all =
      elim (same_mac e.0.orig o) as (λ b. same_mac e.0.orig o ≡ b → cond b (walk f o (better_row (with_score (best score seen)) e.0.from (f e.0.from e.1)) rows) (walk f o (with_score (best score seen)) rows)
      ≡ with_score (best score (cond b (onto (e.0.from ∷ seen) rows) (onto seen rows)))) [
        | true ↦ λ t. ap (λ n. walk f o (better_row (with_score (best score seen)) e.0.from n) rows) (all.0 t)
            ∙ ap (λ b. walk f o b rows) (better_step (best score seen) e.0.from) ∙ walk_onto (e.0.from ∷ seen) rows all.1
        | false ↦ λ t. walk_onto seen rows all.1
      ] refl

  -- a neighbour is among those of the rows exactly where its row is there
  among_onto : (k : Mac) (seen : List Mac) (rows : List (Pair × X)) → is_among (onto seen rows) k ≡ (is_among seen k || is_some (lookup (same_pair (record { orig = o; from = k })) rows))
  among_onto k seen [] = or_none (is_among seen k)
  among_onto k seen (e ∷ rows) =
      elim (same_mac e.0.orig o) as (λ b. same_mac e.0.orig o ≡ b → is_among (cond b (onto (e.0.from ∷ seen) rows) (onto seen rows)) k ≡ (is_among seen k || is_some (lookup (same_pair (record { orig = o; from = k })) (e ∷ rows)))) [
        | true ↦ λ t. among_onto k (e.0.from ∷ seen) rows ∙ one_more (same_mac k e.0.from) (is_among seen k) e.1 (lookup (same_pair (record { orig = o; from = k })) rows)
            ∙ sym (ap (λ b. is_among seen k || is_some (cond (b && same_mac k e.0.from) (Some e.1) (lookup (same_pair (record { orig = o; from = k })) rows))) (same_equiv.symm o e.0.orig ∙ t))
        | false ↦ λ t. among_onto k seen rows
            ∙ sym (ap (λ b. is_among seen k || is_some (cond (b && same_mac k e.0.from) (Some e.1) (lookup (same_pair (record { orig = o; from = k })) rows))) (same_equiv.symm o e.0.orig ∙ t))
      ] refl

  -- the walk finds the best route of a life, with its score, where each row has the score of its
  -- neighbour, and a neighbour without a row, or of which nothing was heard, has none
  pub walk_best : (rows : List (Pair × X)) (alive : List HeardOgm) → IsStrictlySortedBy pair_order (keys_of rows)
      → ((k : Mac) (x : X) → lookup (same_pair (record { orig = o; from = k })) rows ≡ Some x → f k x ≡ score k)
      → ((k : Mac) → lookup (same_pair (record { orig = o; from = k })) rows ≡ None → score k ≡ 0)
      → ((k : Mac) → numbers_from k alive ≡ [] → score k ≡ 0)
      → walk f o None rows ≡ best_in score alive
  unfolding best_route
  walk_best rows alive sorted has none unheard =
      let scores : AllRows HasScore rows
      = all_rows (λ e. lookup (same_pair e.0) rows ≡ Some e.1) HasScore rows (λ e found t.
      let key : e.0 ≡ record { orig = o; from = e.0.from } = (let same = same_exact e.0.orig o t in λ i. record { orig = same i; from = e.0.from }) in
      has e.0.from e.1 (sym (ap (λ k. lookup (same_pair k) rows) key) ∙ found)) (rows_found rows sorted) in
      let senders = onto [] rows in
      walk_onto [] rows scores
      ∙ ap with_score (one_top score (is_among senders) (is_among (map (λ h. h.from) alive))
      (λ k out. none k (none_is _ (sym (among_onto k [] rows) ∙ out)))
      (λ k out. unheard k (unheard_from k alive out))
      (best score senders) (best_route score alive) (best_is_top score senders) (best_is_top score (map (λ h. h.from) alive)))

-- the best neighbour is that of the route
pub best_is_over : (k : Mac) (score : Mac → ℕ) (alive : List HeardOgm) → is_best k (best_in score alive) ≡ is_over k (best_route score alive)
best_is_over k score alive = by (best_route score alive)
  where
    by : (route : Option Mac) → is_best k (option_map (λ j. record { from = j; score = score j }) route) ≡ is_over k route
    by None = refl
    by (Some j) = refl
