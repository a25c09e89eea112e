-- The least node of a loop: it is the same from each node of the loop, and there is one.
use Rattle.std.proofs.Common.{◌≡◌, Bool, true, false, cond, ◌||◌, ◌&&◌, not, List, [], ◌∷◌, ◌++◌, Option, Some, None, Ordering, Less, Equal, Greater, is_lt, refl, sym, ap, ap₂, ◌∙◌, subst}
use Rattle.std.specs.Cmp.{IsStrictWeakOrder}
use Rattle.std.specs.List.{best_of, list_any, list_all}
use Rattle.std.specs.Ordering.{ordering_reverse}
use Rattle.std.proofs.lemmas.Bool.{false≢true, true≢false}
use Rattle.std.proofs.lemmas.Cmp.{tied_itself}
use Rattle.std.proofs.lemmas.List.MinMax.{ranks_by}
use Rattle.std.proofs.lemmas.List.Folds.{list_all-append, list_any-append}
use Rattle.mesh_base.specs.declared.address.Mac.{Mac}
use Rattle.mesh_model.specs.Loops.Routes.{is_least_of}
use Rattle.mesh_model.specs.Routes.Addresses.{is_smaller, mac_order, same_mac}
use Rattle.mesh_loops.specs.Walks.{HasHead, Leads}
use Rattle.mesh_laws.proofs.MacLemmas.{mac_exact, mac_total, same_equiv, same_exact, same_self}
use Rattle.mesh_loops.proofs.WalkLemmas.{not_again}

pub neither : (a b : Bool) → (a || b) ≡ false → (a ≡ false) × (b ≡ false)
neither true b e = absurd (true≢false e)
neither false b e = (refl, e)

pub both : (a b : Bool) → (a && b) ≡ true → (a ≡ true) × (b ≡ true)
both true b e = (refl, e)
both false b e = absurd (false≢true e)

pub unless : (b : Bool) → not b ≡ true → b ≡ false
unless true e = absurd (false≢true e)
unless false e = refl

first_last_or : (a b c : Bool) → (a || (b || c)) ≡ (b || (c || (a || false)))
first_last_or true true c = refl
first_last_or true false true = refl
first_last_or true false false = refl
first_last_or false true c = refl
first_last_or false false true = refl
first_last_or false false false = refl

first_last_and : (a b c : Bool) → (a && (b && c)) ≡ (b && (c && (a && true)))
first_last_and true true true = refl
first_last_and true true false = refl
first_last_and true false c = refl
first_last_and false true true = refl
first_last_and false true false = refl
first_last_and false false c = refl

-- ---- turning a loop
-- a list whose first comes last has the same elements
any_turned : (p : Mac → Bool) (x w : Mac) (r : List Mac) → list_any p (x ∷ w ∷ r) ≡ list_any p (w ∷ (r ++ x ∷ []))
any_turned p x w r = first_last_or (p x) (p w) (list_any p r) ∙ ap (λ b. p w || b) (sym (list_any-append p r (x ∷ [])))

all_turned : (p : Mac → Bool) (x w : Mac) (r : List Mac) → list_all p (x ∷ w ∷ r) ≡ list_all p (w ∷ (r ++ x ∷ []))
all_turned p x w r = first_last_and (p x) (p w) (list_all p r) ∙ ap (λ b. p w && b) (sym (list_all-append p r (x ∷ [])))

module _ (next : Mac → Option Mac) where
  -- what leads to x leads on to the next node of x
  goes_further : (x y : Mac) → next x ≡ Some y → same_mac x y ≡ false → (z : Mac) (r : List Mac) → Leads next x z r → list_any (same_mac y) r ≡ false → Leads next y z (r ++ x ∷ [])
  goes_further x y leads differ z [] way none = (way, differ, leads)
  goes_further x y leads differ z (w ∷ r) way none =
      let parts = neither (same_mac y w) (list_any (same_mac y) r) none in
      (way.0, same_equiv.symm w y ∙ parts.0, goes_further x y leads differ w r way.2 parts.1)

  -- ---- the least node
  -- so is its next node
  turned : (x head : Mac) (rest : List Mac) → Leads next x x rest → list_any (same_mac head) (x ∷ rest) ≡ true → is_least_of (x ∷ rest) head ≡ true → (y : Mac) → next x ≡ Some y → HasHead next y head
  turned x head [] leads among least y is =
      let e : x ≡ y = cc in
      subst (λ n. HasHead next n head) e (record { rest = []; leads = leads; among = among; least = least })
  turned x head (w ∷ r) leads among least y is =
      let e : w ≡ y = (let f = leads.0 in cc) in
      let none = not_again next x w r leads.2 in
      subst (λ n. HasHead next n head) e (record {
        rest = r ++ x ∷ [];
        leads = goes_further x w leads.0 (same_equiv.symm x w ∙ leads.1) w r leads.2 none;
        among = sym (any_turned (same_mac head) x w r) ∙ among;
        least = sym (all_turned (λ other. not (is_smaller other head)) x w r) ∙ least;
      })

  pub head_moves : (x head : Mac) → HasHead next x head → (y : Mac) → next x ≡ Some y → HasHead next y head
  head_moves x head has y is = turned x head has.rest has.leads has.among has.least y is

  -- and there is one
  pub head_leads : (x head : Mac) → HasHead next x head → next x ≡ None → ⊥
  head_leads x head has none = go has.rest has.leads
    where
      go : (rest : List Mac) → Leads next x x rest → ⊥
      go [] leads = absurd cc
      go (w ∷ r) leads = let f = leads.0 in absurd cc

  -- all nodes that lead on from a node of a loop have its least node
  pub head_along : (goal x head : Mac) (rest : List Mac) → Leads next goal x rest → HasHead next x head → (z : Mac) → list_any (same_mac z) (x ∷ rest) ≡ true → HasHead next z head
  head_along goal x head [] leads has z among = go (same_mac z x) refl among
    where
      go : (b : Bool) → same_mac z x ≡ b → (b || false) ≡ true → HasHead next z head
      go true is among = subst (λ n. HasHead next n head) (sym (same_exact z x is)) has
      go false is among = absurd (false≢true among)
  head_along goal x head (y ∷ rest) leads has z among = go (head_along goal y head rest leads.2 (head_moves x head has y leads.0) z) (same_mac z x) refl among
    where
      go : (list_any (same_mac z) (y ∷ rest) ≡ true → HasHead next z head) → (b : Bool) → same_mac z x ≡ b → (b || list_any (same_mac z) (y ∷ rest)) ≡ true → HasHead next z head
      go further true is among = subst (λ n. HasHead next n head) (sym (same_exact z x is)) has
      go further false is among = further among

-- ---- the least of a list
-- no node of a list is below its least
none_below : (nodes : List Mac) (least z : Mac) → is_least_of nodes least ≡ true → list_any (same_mac z) nodes ≡ true → is_smaller z least ≡ false
none_below [] least z is among = absurd (false≢true among)
none_below (x ∷ nodes) least z is among =
    let parts = both (not (is_smaller x least)) (is_least_of nodes least) is in
    go (none_below nodes least z parts.1) parts.0 (same_mac z x) refl among
  where
    go : (list_any (same_mac z) nodes ≡ true → is_smaller z least ≡ false) → not (is_smaller x least) ≡ true → (b : Bool) → same_mac z x ≡ b → (b || list_any (same_mac z) nodes) ≡ true → is_smaller z least ≡ false
    go further not_below true same among = ap (λ n. is_smaller n least) (same_exact z x same) ∙ unless (is_smaller x least) not_below
    go further not_below false same among = further among

neither_smaller : (a b : Mac) → is_smaller a b ≡ false → is_smaller b a ≡ false → a ≡ b
neither_smaller a b p q = go (mac_order a b) refl
  where
    go : (r : Ordering) → mac_order a b ≡ r → a ≡ b
    go Less is = absurd (true≢false (ap is_lt (sym is) ∙ p))
    go Equal is = mac_exact a b is
    go Greater is = absurd (true≢false (ap is_lt (sym (mac_total.antisymm b a ∙ ap ordering_reverse is)) ∙ q))

-- a list has one least node
pub one_least : (nodes : List Mac) (a b : Mac) → list_any (same_mac a) nodes ≡ true → is_least_of nodes a ≡ true → list_any (same_mac b) nodes ≡ true → is_least_of nodes b ≡ true → a ≡ b
one_least nodes a b among_a least_a among_b least_b = neither_smaller a b (none_below nodes b a least_b among_a) (none_below nodes a b least_a among_b)

-- which is the best by order
pub best_among : (first : Mac) (rest : List Mac) → list_any (same_mac (best_of is_smaller first rest)) (first ∷ rest) ≡ true
best_among first [] = ap (λ b. b || false) (same_self first)
best_among first (x ∷ rest) = go (is_smaller x first) (best_among (cond (is_smaller x first) x first) rest)
  where
    deeper : (a b c : Bool) → (b || c) ≡ true → (a || (b || c)) ≡ true
    deeper true b c e = refl
    deeper false b c e = e

    wider : (a b c : Bool) → (a || c) ≡ true → (a || (b || c)) ≡ true
    wider true b c e = refl
    wider false true c e = refl
    wider false false c e = e

    go : (b : Bool) → list_any (same_mac (best_of is_smaller (cond b x first) rest)) (cond b x first ∷ rest) ≡ true → list_any (same_mac (best_of is_smaller (cond b x first) rest)) (first ∷ x ∷ rest) ≡ true
    go true h = let best = best_of is_smaller x rest in deeper (same_mac best first) (same_mac best x) (list_any (same_mac best) rest) h
    go false h = let best = best_of is_smaller first rest in wider (same_mac best first) (same_mac best x) (list_any (same_mac best) rest) h

mac_ranks : IsStrictWeakOrder is_smaller
mac_ranks = ranks_by mac_total (λ m. m)

pub best_is_least : (first : Mac) (rest : List Mac) → is_least_of (first ∷ rest) (best_of is_smaller first rest) ≡ true
best_is_least first [] = ap (λ r. not (is_lt r) && true) (tied_itself mac_total first)
best_is_least first (x ∷ rest) = go (is_smaller x first) refl (best_is_least (cond (is_smaller x first) x first) rest)
  where
    all_three : (a c m : Mac) → is_smaller a m ≡ false → is_smaller c m ≡ false → is_least_of rest m ≡ true → is_least_of (a ∷ c ∷ rest) m ≡ true
    all_three a c m p q r = ap₂ (λ h k. not h && (not k && is_least_of rest m)) p q ∙ r

    go : (b : Bool) → is_smaller x first ≡ b → is_least_of (cond b x first ∷ rest) (best_of is_smaller (cond b x first) rest) ≡ true → is_least_of (first ∷ x ∷ rest) (best_of is_smaller (cond b x first) rest) ≡ true
    go true is h =
        let best = best_of is_smaller x rest in
        let parts = both (not (is_smaller x best)) (is_least_of rest best) h in
        let below = unless (is_smaller x best) parts.0 in
        all_three first x best (mac_ranks.chain first x best (mac_ranks.one_way x first is) below) below parts.1
    go false is h =
        let best = best_of is_smaller first rest in
        let parts = both (not (is_smaller first best)) (is_least_of rest best) h in
        let below = unless (is_smaller first best) parts.0 in
        all_three first x best below (mac_ranks.chain x first best is below) parts.1
