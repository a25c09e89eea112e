-- A set of happenings in their order: one joins, and the first leaves.
use Rattle.std.proofs.Common.{◌≡◌, ◌↔◌, ℕ, ◌⊎◌, inl, inr, List, [], ◌∷◌, suc, slice_get, Option, Some, None, false, refl, sym, ap, ◌∙◌, subst, arith, Less, Equal, Greater, is_gt}
use Rattle.std.specs.Option.{IfSome, IsSome}
use Rattle.std.specs.BTreeSet.{insert_key}
use Rattle.std.specs.List.{All}
use Rattle.std.specs.Ordering.{match_ordering}
use Rattle.std.specs.declared.cmp.Ordering.{Ordering}
use Rattle.std.specs.BTreeMap.Range.{IsLtBy, IsLeBy}
use Rattle.mesh_model.specs.declared.happening.Happening.{Happening}
use Rattle.mesh_model.specs.contracts.happening.HappeningOrd.TheImpl as ord
use Rattle.mesh_model.specs.declared.happening.Class.{Class}
use Rattle.mesh_model.specs.declared.happening.Class.TheVariants.{LinkDelivery, LanDelivery, NodeTick}
use Rattle.mesh_model.specs.Net.Happenings.{Before, happening_order, is_before}
use Rattle.mesh_model.specs.Net.Next.{AtMost, Has}
use Rattle.mesh_laws.proofs.Schedule.Order.{both_at_most, exact, not_before}
use Rattle.mesh_post.specs.Waiting.{IsEarliest, Joins, Leaves}
use Rattle.mesh_post.proofs.RisingLemmas.{has_at}

-- a key stands among keys that another joined where it is that one, or stood there
pub insert_has : (R : Happening → Happening → Ordering) → ((a b : Happening) → R a b ≡ Equal → a ≡ b) → (ks : List Happening) (k x : Happening) → Has (insert_key R ks k) x ↔ (x ≡ k) ⊎ Has ks x
insert_has R same [] k x = (λ h. h, λ h. h)
insert_has R same (y ∷ ys) k x = by_order (R k y) refl (insert_has R same ys k x)
  where
    by_order : (r : Ordering) → R k y ≡ r → Has (insert_key R ys k) x ↔ (x ≡ k) ⊎ Has ys x → Has (match_ordering r (k ∷ y ∷ ys) (y ∷ ys) (y ∷ insert_key R ys k)) x ↔ (x ≡ k) ⊎ Has (y ∷ ys) x
    by_order Less e more = (λ h. h, λ h. h)
    by_order Equal e more = (λ h. inr h, elim [ inl p ↦ inl (p ∙ same k y e) | inr p ↦ p ])
    by_order Greater e more = (
      elim [ inl p ↦ inr (inl p) | inr p ↦ elim (more.0 p) as (λ _. (x ≡ k) ⊎ Has (y ∷ ys) x) [ inl q ↦ inl q | inr q ↦ inr (inr q) ] ],
      elim [ inl p ↦ inr (more.1 (inl p)) | inr p ↦ elim p as (λ _. Has (y ∷ insert_key R ys k) x) [ inl q ↦ inl q | inr q ↦ inr (more.1 (inr q)) ] ],
    )

-- the order of the code
abbrev pub R : Happening → Happening → Ordering
R = ord.cmp-value.it

same_order_at : (m n p q : ℕ) (a b : Class) → R (record { moment = m; class = a; place = p }) (record { moment = n; class = b; place = q }) ≡ happening_order (record { moment = m; class = a; place = p }) (record { moment = n; class = b; place = q })
same_order_at m n p q LinkDelivery LinkDelivery = refl
same_order_at m n p q LinkDelivery LanDelivery = refl
same_order_at m n p q LinkDelivery NodeTick = refl
same_order_at m n p q LanDelivery LinkDelivery = refl
same_order_at m n p q LanDelivery LanDelivery = refl
same_order_at m n p q LanDelivery NodeTick = refl
same_order_at m n p q NodeTick LinkDelivery = refl
same_order_at m n p q NodeTick LanDelivery = refl
same_order_at m n p q NodeTick NodeTick = refl

-- values of the code are ordered as happenings are
pub same_order : (a b : Happening) → R a b ≡ happening_order a b
same_order a b = same_order_at a.moment b.moment a.place b.place a.class b.class

-- one more stands in a set that it joined
pub joined : (ks : List Happening) (k : Happening) → Joins k ks (insert_key R ks k)
joined ks k x = insert_has R (λ a b e. exact a b (sym (same_order a b) ∙ e)) ks k x

all_has : {X : Type 0} (P : X → Type 0) (xs : List X) (x : X) → All P xs → Has xs x → P x
all_has P [] x all h = absurd h
all_has P (y ∷ ys) x all (inl e) = subst P (sym e) (all 0 y (omega arith))
all_has P (y ∷ ys) x all (inr h) = all_has P ys x (λ k d l. all (suc k) d (omega (arith, l))) h

not_after : (a b : Happening) → is_gt (happening_order a b) ≡ false → AtMost a b
not_after a b p = elim (happening_order a b) as (λ r. happening_order a b ≡ r → is_gt r ≡ false → AtMost a b) [
  | Less ↦ λ e q. inr e
  | Equal ↦ λ e q. inl (exact a b e)
  | Greater ↦ λ e q. cc
] refl p

-- the first key is the earliest
pub first_key : (ks : List Happening) (f : Happening) → slice_get ks 0 ≡ Some f → All (IsLeBy R f) ks → IsEarliest ks (Some f)
first_key ks f e all = (has_at ks 0 f e, λ x p. not_after f x (ap is_gt (sym (same_order f x)) ∙ all_has (IsLeBy R f) ks x all p))

-- it leaves, where it isn't after one that is after none
pub key_leaves : (h f : Happening) (old new : List Happening) (o : Option Happening) → IsSome o → IfSome o (λ k. old ≡ k ∷ new) → IfSome o (λ k. All (IsLtBy R k) new) → Has old f → ((x : Happening) → Has old x → AtMost h x) → is_before h f ≡ false → ((x : Happening) → Has old x → AtMost f x) → Leaves h old new
key_leaves h f old new None some removal all has low late first = cc
key_leaves h f old new (Some k) some removal all has low late first =
    let had : Has old k = subst (λ ks. Has ks k) (sym removal) (inl refl) in
    let above : (x : Happening) → Has new x → Before k x = λ x p. sym (same_order k x) ∙ all_has (IsLtBy R k) new x all p in
    let f_is : h ≡ f = both_at_most h f (low f has) (not_before h f late) in
    let k_is : k ≡ h = by f_is above (subst (λ ks. Has ks f) removal has) in
    record {
      kept = λ x p. elim (subst (λ ks. Has ks x) removal p) as (λ _. (x ≡ h) ⊎ Has new x) [ inl e ↦ inl (e ∙ k_is) | inr q ↦ inr q ];
      had = λ x p. subst (λ ks. Has ks x) (sym removal) (inr p);
      above = λ x p. subst (λ y. Before y x) k_is (above x p);
    }
  where
    by : h ≡ f → ((x : Happening) → Has new x → Before k x) → (f ≡ k) ⊎ Has new f → k ≡ h
    by f_is above (inl e) = sym (f_is ∙ e)
    by f_is above (inr p) = both_at_most k h (inr (subst (Before k) (sym f_is) (above f p))) (low k (subst (λ ks. Has ks k) (sym removal) (inl refl)))
