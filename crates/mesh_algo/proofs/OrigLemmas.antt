-- The originators heard stand in the order of their addresses, each once.
use Rattle.std.proofs.Common.{◌≡◌, Bool, true, false, cond, ◌||◌, List, [], ◌∷◌, find, Some, None, is_eq, refl, sym, ap, ◌∙◌, subst, map-id}
use Rattle.std.specs.Bool.{Decides}
use Rattle.std.specs.List.{list_any}
use Rattle.std.specs.List.Sorted.{IsStrictlySortedBy}
use Rattle.std.specs.Ordering.{eq_by_cmp, match_ordering}
use Rattle.std.proofs.Math.Path.{fun_ext}
use Rattle.std.proofs.lemmas.Map.Made.{find_same}
use Rattle.mesh_base.specs.declared.address.Mac.{Mac}
use Rattle.mesh_base.specs.Ordered.{placed}
use Rattle.mesh_model.specs.Routes.Addresses.{mac_order, same_mac, insert_mac}
use Rattle.mesh_model.specs.Routes.Life.{HeardOgm, of, is_live, heard_originators}
use Rattle.mesh_laws.proofs.KeyLists.{same_items}
use Rattle.mesh_laws.proofs.ListedInOrder.{has_placed, sorted_placed}
use Rattle.mesh_laws.proofs.MacLemmas.{mac_total, mac_exact, same_by_order, same_equiv, same_exact, same_self}

mac_placed : (k : Mac) (ks : List Mac) → insert_mac k ks ≡ placed mac_order k ks
mac_placed k [] = refl
mac_placed k (first ∷ rest) = ap (λ later. match_ordering (mac_order k first) (k ∷ first ∷ rest) (first ∷ rest) (first ∷ later)) (mac_placed k rest)

pub sorted_insert : (k : Mac) (ks : List Mac) → IsStrictlySortedBy mac_order ks → IsStrictlySortedBy mac_order (insert_mac k ks)
sorted_insert k ks sorted = subst (IsStrictlySortedBy mac_order) (sym (mac_placed k ks)) (sorted_placed mac_total mac_exact k ks sorted)

pub sorted_heard : (hearings : List HeardOgm) → IsStrictlySortedBy mac_order (heard_originators hearings)
unfolding IsStrictlySortedBy
sorted_heard [] = tt
sorted_heard (h ∷ older) = sorted_insert h.orig (heard_originators older) (sorted_heard older)

same_is_tied : (q : Mac) → eq_by_cmp mac_order q ≡ same_mac q
same_is_tied q = fun_ext (same_by_order q)

pub any_inserted : (q k : Mac) (ks : List Mac) → list_any (same_mac q) (insert_mac k ks) ≡ (same_mac q k || list_any (same_mac q) ks)
any_inserted q k ks =
    ap (list_any (same_mac q)) (mac_placed k ks)
    ∙ subst (λ test. list_any test (placed mac_order k ks) ≡ (test k || list_any test ks)) (same_is_tied q) (has_placed mac_total mac_exact q k ks)

live_step : (b : Bool) (h : HeardOgm) (rest : List HeardOgm) → (b || is_live rest) ≡ is_live (cond b (h ∷ rest) rest)
live_step true h rest = refl
live_step false h rest = refl

-- an originator is among them exactly where it was heard
any_heard : (q : Mac) (hearings : List HeardOgm) → list_any (same_mac q) (heard_originators hearings) ≡ is_live (of q hearings)
any_heard q [] = refl
any_heard q (h ∷ older) =
    any_inserted q h.orig (heard_originators older) ∙ ap (λ b. b || list_any (same_mac q) (heard_originators older)) (same_equiv.symm q h.orig)
    ∙ ap (λ b. same_mac h.orig q || b) (any_heard q older) ∙ live_step (same_mac h.orig q) h (of q older)

same_decides : (a b : Mac) → Decides (same_mac a b) (a ≡ b)
same_decides a b = (same_exact a b, λ e. subst (λ m. same_mac a m ≡ true) e (same_self a))

found : (q : Mac) (ks : List Mac) → find (λ x. is_eq (mac_order q x)) ks ≡ cond (list_any (same_mac q) ks) (Some q) None
found q ks = ap (λ test. find test ks) (same_is_tied q) ∙ find_same same_decides q ks

-- keys in order that are the same are one list
pub same_keys : (ks js : List Mac) → IsStrictlySortedBy mac_order ks → IsStrictlySortedBy mac_order js → ((q : Mac) → list_any (same_mac q) ks ≡ list_any (same_mac q) js) → ks ≡ js
same_keys ks js sorted rising there =
    same_items mac_order (λ (x : Mac). x) mac_total mac_exact ks js
    (subst (IsStrictlySortedBy mac_order) (sym (map-id ks)) sorted) (subst (IsStrictlySortedBy mac_order) (sym (map-id js)) rising)
    (λ q. found q ks ∙ ap (λ b. cond b (Some q) None) (there q) ∙ sym (found q js))

-- keys in order that are there exactly where an originator was heard are the originators heard
pub keys_are_heard : (ks : List Mac) (hearings : List HeardOgm) → IsStrictlySortedBy mac_order ks → ((q : Mac) → list_any (same_mac q) ks ≡ is_live (of q hearings)) → ks ≡ heard_originators hearings
keys_are_heard ks hearings sorted there =
    same_keys ks (heard_originators hearings) sorted (sorted_heard hearings) (λ q. there q ∙ sym (any_heard q hearings))
