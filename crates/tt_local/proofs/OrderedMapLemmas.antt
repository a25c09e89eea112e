-- A set of keys that is kept in their order: they ascend strictly, and a key is found by the order.
use Rattle.std.proofs.Common.{◌≡◌, ◌+◌, Bool, ◌||◌, true, false, cond, List, [], ◌∷◌, refl, sym, ap, ap₂, ◌∙◌, is_eq, is_lt, Ordering, Less, Equal, Greater, arith}
use Rattle.std.specs.Cmp.{IsTotalOrder}
use Rattle.std.specs.List.{IsDistinct, list_any}
use Rattle.std.specs.List.Sorted.{IsSorted, IsStrictlySortedBy}
use Rattle.std.specs.Ordering.{eq_by_cmp, ordering_reverse}
use Rattle.std.proofs.lemmas.Bool.{true≢false}
use Rattle.std.proofs.lemmas.Map.Keys.{sorted_from_all_adjacent, apart_from_distinct, Less-from_sorted}

pub chosen_or : (b c : Bool) → cond b true c ≡ (b || c)
chosen_or true c = refl
chosen_or false c = refl

module _ {K : Type 0} {R : K → K → Ordering} (o : IsTotalOrder R) (E : K → K → Bool) (ties : (x y : K) → E x y ≡ eq_by_cmp R x y) where
  -- a key that isn't below another, nor the same, is above it
  below_next : (x y : K) (r : Ordering) → R y x ≡ r → is_lt r ≡ false → E x y ≡ false → R x y ≡ Less
  below_next x y Less is up apart = absurd (true≢false up)
  below_next x y Equal is up apart =
      absurd (true≢false (sym (ap is_eq (o.antisymm x y ∙ ap ordering_reverse is)) ∙ sym (ties x y) ∙ apart))
  below_next x y Greater is up apart = o.antisymm x y ∙ ap ordering_reverse is

  -- keys that ascend and differ ascend strictly
  pub strict_from : (ks : List K) → IsSorted R ks → IsDistinct E ks → IsStrictlySortedBy R ks
  unfolding IsStrictlySortedBy
  strict_from [] up apart = tt
  strict_from (x ∷ xs) up apart = sorted_from_all_adjacent o (x ∷ xs) x (λ k below. below_next _ _ _ refl
      (up k x (omega arith) below) (apart_from_distinct E (x ∷ xs) k (k + 1) x apart (omega arith) below))

  -- keys that ascend strictly ascend
  pub sorted_from_strict : (ks : List K) → IsStrictlySortedBy R ks → IsSorted R ks
  sorted_from_strict ks strict = λ k d low below.
      ap is_lt (o.antisymm _ _ ∙ ap ordering_reverse (Less-from_sorted R ks k (k + 1) d strict (omega arith) below))

  -- a key is among keys by equality where it is by the order
  pub any_tied : (key : K) (keys : List K) → list_any (E key) keys ≡ list_any (eq_by_cmp R key) keys
  any_tied key keys = ap (λ test. list_any test keys) (λ i other. ties key other i)

  -- the keys of a set after one more
  pub added_tied : (key : K) (old new : List K)
      → ((q : K) → list_any (E q) new ≡ cond (E key q) true (list_any (E q) old))
      → (q : K) → list_any (eq_by_cmp R q) new ≡ (eq_by_cmp R key q || list_any (eq_by_cmp R q) old)
  added_tied key old new updates q = sym (any_tied q new) ∙ updates q
      ∙ chosen_or (E key q) (list_any (E q) old)
      ∙ ap₂ (λ b c. b || c) (ties key q) (any_tied q old)
