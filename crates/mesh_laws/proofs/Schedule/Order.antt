-- The order of happenings.
use Rattle.std.proofs.Common.{◌≡◌, ℕ, ◌<◌, ◌≤◌, ◌⊎◌, inl, inr, true, false, refl, sym, ap, ◌∙◌, subst, Less, Equal, Greater, nat_cmp, arith, is_lt}
use Rattle.std.specs.Ordering.{ordering_reverse, ordering_then}
use Rattle.std.specs.Cmp.{IsTotalOrder}
use Rattle.std.proofs.lemmas.Bool.{true≢false}
use Rattle.std.proofs.lemmas.Cmp.{nat_cmp_total, on_total, then_total, tied_itself}
use Rattle.std.proofs.lemmas.Bool.Decides.{nat_tests}
use Rattle.std.proofs.lemmas.Map.Lookups.{CmpEqualImpliesEq, exact_unsigned, exact_pairs}
use Rattle.mesh_model.specs.declared.happening.Class.{Class}
use Rattle.mesh_model.specs.declared.happening.Class.TheVariants.{LinkDelivery, LanDelivery, NodeTick}
use Rattle.mesh_model.specs.declared.happening.Happening.{Happening}
use Rattle.mesh_model.specs.Net.Happenings.{class_number, happening_order, is_before, Before}
use Rattle.mesh_model.specs.Net.Next.{AtMost}
use Rattle.mesh_laws.specs.Soundness.{places, rank}

pub order_total : IsTotalOrder happening_order
order_total =
    then_total (on_total (λ (h : Happening). h.moment) nat_cmp_total)
    (then_total (on_total (λ (h : Happening). class_number h.class) nat_cmp_total)
    (on_total (λ (h : Happening). h.place) nat_cmp_total))

class_exact : (a b : Class) → class_number a ≡ class_number b → a ≡ b
class_exact LinkDelivery LinkDelivery e = refl
class_exact LinkDelivery LanDelivery e = absurd (omega (arith, e))
class_exact LinkDelivery NodeTick e = absurd (omega (arith, e))
class_exact LanDelivery LinkDelivery e = absurd (omega (arith, e))
class_exact LanDelivery LanDelivery e = refl
class_exact LanDelivery NodeTick e = absurd (omega (arith, e))
class_exact NodeTick LinkDelivery e = absurd (omega (arith, e))
class_exact NodeTick LanDelivery e = absurd (omega (arith, e))
class_exact NodeTick NodeTick e = refl

pub exact : CmpEqualImpliesEq happening_order
exact a b e =
    let numbers = exact_pairs nat_cmp (λ (x y : ℕ × ℕ). ordering_then (nat_cmp x.0 y.0) (nat_cmp x.1 y.1)) exact_unsigned (exact_pairs nat_cmp nat_cmp exact_unsigned exact_unsigned)
    (a.moment, (class_number a.class, a.place)) (b.moment, (class_number b.class, b.place)) e in
    let class_is : a.class ≡ b.class = class_exact a.class b.class (λ i. ((numbers i).1).0) in
    λ i. record { moment = (numbers i).0; class = class_is i; place = ((numbers i).1).1 }

less_no_equal : Less ≡ Equal → ⊥
less_no_equal e = cc

pub before_trans : (a b c : Happening) → Before a b → Before b c → Before a c
before_trans a b c = order_total.trans a b c

pub before_irrefl : (a : Happening) → Before a a → ⊥
before_irrefl a p = less_no_equal (sym p ∙ tied_itself order_total a)

pub by_moment : (a b : Happening) → a.moment < b.moment → Before a b
by_moment a b p = grind (arith, nat_tests)

pub moments : (a b : Happening) → Before a b → a.moment ≤ b.moment
moments a b p = grind (arith, nat_tests)

pub ranks : (a b : Happening) → Before a b → a.place < places → b.place < places → rank a < rank b
ranks a b p s t = grind (arith, nat_tests)

-- of two happenings one is before the other, or they are one
pub cases : (a b : Happening) → AtMost a b ⊎ Before b a
cases a b =
    elim (happening_order a b) as (λ r. happening_order a b ≡ r → AtMost a b ⊎ Before b a) [
      | Less ↦ λ p. inl (inr p)
      | Equal ↦ λ p. inl (inl (exact a b p))
      | Greater ↦ λ p. inr (order_total.antisymm b a ∙ ap ordering_reverse p)
    ] refl

-- the test and the relation
pub test_before : (a b : Happening) → is_before a b ≡ true → Before a b
test_before a b p =
    elim (happening_order a b) as (λ r. is_lt r ≡ true → r ≡ Less) [
      | Less ↦ λ q. refl
      | Equal ↦ λ q. cc
      | Greater ↦ λ q. cc
    ] p

pub before_test : (a b : Happening) → Before a b → is_before a b ≡ true
before_test a b p = ap is_lt p

pub not_before : (a b : Happening) → is_before a b ≡ false → AtMost b a
not_before a b p = sooner (cases b a)
  where
    sooner : AtMost b a ⊎ Before a b → AtMost b a
    sooner (inl q) = q
    sooner (inr q) = absurd (true≢false (sym (before_test a b q) ∙ p))

pub at_most_before : (a b c : Happening) → AtMost a b → Before b c → Before a c
at_most_before a b c (inl e) q = subst (λ x. Before x c) (sym e) q
at_most_before a b c (inr p) q = before_trans a b c p q

pub before_at_most : (a b c : Happening) → Before a b → AtMost b c → Before a c
before_at_most a b c p (inl e) = subst (Before a) e p
before_at_most a b c p (inr q) = before_trans a b c p q

pub at_most_trans : (a b c : Happening) → AtMost a b → AtMost b c → AtMost a c
at_most_trans a b c (inl e) q = subst (λ x. AtMost x c) (sym e) q
at_most_trans a b c (inr p) q = inr (before_at_most a b c p q)

pub at_most_moments : (a b : Happening) → AtMost a b → a.moment ≤ b.moment
at_most_moments a b (inl e) = grind arith
at_most_moments a b (inr p) = moments a b p

pub both_at_most : (a b : Happening) → AtMost a b → AtMost b a → a ≡ b
both_at_most a b (inl e) q = e
both_at_most a b (inr p) q = absurd (before_irrefl a (before_at_most a b a p q))
