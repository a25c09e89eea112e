-- What a table's announced sums say of each VLAN.
use Rattle.std.proofs.Common.{◌≡◌, ℕ, Bool, true, false, cond, ◌||◌, ◌==◌, arith, List, [], ◌∷◌, map, Ordering, Less, Equal, Greater, refl, sym, ap, subst, ◌∙◌, nat_cmp}
use Rattle.std.specs.List.{list_any}
use Rattle.std.specs.Cmp.{IsTotalOrder}
use Rattle.std.specs.Ordering.{eq_by_cmp, match_ordering}
use Rattle.std.proofs.Math.Path.{fun_ext}
use Rattle.std.proofs.lemmas.Bool.{eqb-true, true≢false}
use Rattle.std.proofs.lemmas.Bool.Decides.{nat_tests}
use Rattle.std.proofs.lemmas.Cmp.{nat_cmp_total, on_total}
use Rattle.std.proofs.lemmas.Map.Lookups.{CmpEqualImpliesEq, exact_unsigned}
use Rattle.mesh_base.specs.Ordered.{in_order, placed}
use Rattle.mesh_base.specs.declared.client.Entry.{Entry}
use Rattle.mesh_base.specs.declared.client.Vid.{Vid}
use Rattle.mesh_model.specs.Packets.Bodies.{VlanSum}
use Rattle.mesh_model.specs.Tables.Sums.{checksums, entry_sum, entries_in, is_in_vlan, xor_of, insert_vlan, vlans_of, sums_of, sum_at}
use Rattle.mesh_laws.proofs.ListedInOrder.{has_in_order}
use Rattle.mesh_laws.specs.TableLaws.{AnnouncesChecksums, AnnouncesNoneOfEmpty}

-- ---- the order of VLANs
abbrev vlan_order : Vid → Vid → Ordering
vlan_order v w = nat_cmp v.0 w.0

vlan_total : IsTotalOrder vlan_order
vlan_total = on_total (λ (v : Vid). v.0) nat_cmp_total

vlan_exact : CmpEqualImpliesEq vlan_order
vlan_exact v w e = λ i. record { 0 = exact_unsigned v.0 w.0 e i }

same_vlan : (v : Vid) → eq_by_cmp vlan_order v ≡ (λ w. v.0 == w.0)
same_vlan v = fun_ext (λ w. grind (arith, nat_tests))

vlan_placed : (v : Vid) (vs : List Vid) → insert_vlan v vs ≡ placed vlan_order v vs
vlan_placed v [] = refl
vlan_placed v (w ∷ vs) = ap (λ later. match_ordering (vlan_order v w) (v ∷ w ∷ vs) (w ∷ vs) (w ∷ later)) (vlan_placed v vs)

vlans_in_order : (t : List Entry) → vlans_of t ≡ in_order vlan_order (map (λ e. e.key.vid) t)
vlans_in_order [] = refl
vlans_in_order (e ∷ t) = vlan_placed e.key.vid (vlans_of t) ∙ ap (placed vlan_order e.key.vid) (vlans_in_order t)

-- ---- the sums
-- whether a VLAN is among some
is_named : Vid → List Vid → Bool
is_named v vs = list_any (λ w. v.0 == w.0) vs

sum_named : (f : Vid → ℕ) (v : Vid) (vs : List Vid) → sum_at (map (λ w. record { vid = w; sum = f w }) vs) v ≡ cond (is_named v vs) (f v) 0
unfolding is_named
sum_named f v [] = refl
sum_named f v (w ∷ vs) = go (v.0 == w.0) refl (sum_named f v vs)
  where
    go : (b : Bool) → (v.0 == w.0) ≡ b → sum_at (map (λ u. record { vid = u; sum = f u }) vs) v ≡ cond (is_named v vs) (f v) 0 → cond b (f w) (sum_at (map (λ w. record { vid = w; sum = f w }) vs) v) ≡ cond (b || is_named v vs) (f v) 0
    go true p ih =
        let same : w ≡ v = λ i. record { 0 = sym (eqb-true v.0 w.0 p) i } in
        ap f same
    go false p ih = ih

named_entries : (v : Vid) (t : List Entry) → is_named v (map (λ e. e.key.vid) t) ≡ list_any (is_in_vlan v) t
unfolding is_named
named_entries v [] = refl
named_entries v (e ∷ t) = ap (λ b. is_in_vlan v e || b) (named_entries v t)

named_vlans : (v : Vid) (t : List Entry) → is_named v (vlans_of t) ≡ list_any (is_in_vlan v) t
unfolding is_named
named_vlans v t =
    ap (is_named v) (vlans_in_order t)
    ∙ subst (λ test. list_any test (in_order vlan_order (map (λ e. e.key.vid) t)) ≡ list_any test (map (λ e. e.key.vid) t)) (same_vlan v) (has_in_order vlan_total vlan_exact v (map (λ e. e.key.vid) t))
    ∙ named_entries v t

none_in_vlan : (v : Vid) (t : List Entry) → list_any (is_in_vlan v) t ≡ false → checksums t v ≡ 0
none_in_vlan v [] h = refl
none_in_vlan v (e ∷ t) h =
    elim (is_in_vlan v e) as (λ b. (b || list_any (is_in_vlan v) t) ≡ false → xor_of (map entry_sum (cond b (e ∷ entries_in v t) (entries_in v t))) ≡ 0) [
      | true ↦ λ k. absurd (true≢false k)
      | false ↦ λ k. none_in_vlan v t k
    ] h

pub announces_checksums : AnnouncesChecksums
announces_checksums t = fun_ext (λ v. sum_named (checksums t) v (vlans_of t) ∙ ap (λ b. cond b (checksums t v) 0) (named_vlans v t) ∙ named v (list_any (is_in_vlan v) t) refl)
  where
    named : (v : Vid) (b : Bool) → list_any (is_in_vlan v) t ≡ b → cond b (checksums t v) 0 ≡ checksums t v
    named v true h = refl
    named v false h = sym (none_in_vlan v t h)

some_inserted : (u : Vid) (vs : List Vid) (f : Vid → VlanSum) → map f (insert_vlan u vs) ≡ [] → ⊥
some_inserted u [] f h = cc
some_inserted u (w ∷ vs) f h = go (nat_cmp u.0 w.0) h
  where
    go : (r : Ordering) → map f (match_ordering r (u ∷ w ∷ vs) (w ∷ vs) (w ∷ insert_vlan u vs)) ≡ [] → ⊥
    go Less h = cc
    go Equal h = cc
    go Greater h = cc

empty_if_none : (t : List Entry) → sums_of t ≡ [] → t ≡ []
empty_if_none [] h = refl
empty_if_none (e ∷ t) h = absurd (some_inserted e.key.vid (vlans_of t) (λ v. record { vid = v; sum = checksums (e ∷ t) v }) h)

pub announces_none_of_empty : AnnouncesNoneOfEmpty
announces_none_of_empty t = (empty_if_none t, λ e. ap sums_of e)
