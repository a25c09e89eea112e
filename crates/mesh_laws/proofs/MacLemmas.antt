-- Addresses: their order is total, and two that are one are equal.
use Rattle.std.proofs.Common.{◌≡◌, nat_eq, nat_cmp, true, false, is_eq, arith, refl, sym, ap, ◌∙◌, Ordering, Less, Equal, Greater}
use Rattle.std.specs.Cmp.{IsTotalOrder, IsEquivalence}
use Rattle.std.specs.Cmp.Lexicographic.{pointwise}
use Rattle.std.specs.Ordering.{ordering_reverse}
use Rattle.std.proofs.lemmas.Bool.{false≢true}
use Rattle.std.proofs.lemmas.Bool.Decides.{nat_tests}
use Rattle.std.proofs.lemmas.Cmp.{nat_list_cmp_total, on_total, same_from_slice_cmp, tied_itself, nat_list_eq_equiv, on_equiv}
use Rattle.std.proofs.lemmas.Map.Lookups.{CmpEqualImpliesEq, exact_bytes}
use Rattle.mesh_base.specs.declared.address.Mac.{Mac}
use Rattle.mesh_model.specs.Routes.Addresses.{mac_order, same_mac}

pub mac_total : IsTotalOrder mac_order
mac_total = on_total (λ (m : Mac). m.0) nat_list_cmp_total

pub mac_exact : CmpEqualImpliesEq mac_order
mac_exact a b e = let p = exact_bytes a.0 b.0 e in λ i. record { 0 = p i }

pub same_equiv : IsEquivalence same_mac
same_equiv = on_equiv (λ (m : Mac). m.0) nat_list_eq_equiv

-- two addresses are one where neither is the smaller
pub same_by_order : (a b : Mac) → is_eq (mac_order a b) ≡ same_mac a b
same_by_order a b =
    same_from_slice_cmp nat_cmp is_eq (pointwise nat_eq) refl (λ y ys. refl) (λ x xs. refl) (λ x y xs ys o h. grind (arith, nat_tests)) a.0 b.0 (mac_order a b) refl

by_equal : (a b : Mac) (r : Ordering) → mac_order a b ≡ r → is_eq r ≡ true → a ≡ b
by_equal a b Less e t = absurd (false≢true t)
by_equal a b Equal e t = mac_exact a b e
by_equal a b Greater e t = absurd (false≢true t)

pub same_exact : (a b : Mac) → same_mac a b ≡ true → a ≡ b
same_exact a b t = by_equal a b (mac_order a b) refl (same_by_order a b ∙ t)

pub same_self : (a : Mac) → same_mac a a ≡ true
same_self a = sym (same_by_order a a) ∙ ap is_eq (tied_itself mac_total a)

-- one of two addresses that differ is the smaller
pub other_by_order : (a b : Mac) → mac_order a b ≡ Less → same_mac b a ≡ false
other_by_order a b e = sym (same_by_order b a) ∙ ap is_eq (mac_total.antisymm b a ∙ ap ordering_reverse e)
