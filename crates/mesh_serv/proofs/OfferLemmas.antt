-- What is kept of offers once one more was noted.
use Rattle.std.proofs.Common.{◌≡◌, true, false, cond, List, [], ◌∷◌, find, map, is_some, Option, None, Some, option_map, refl, sym, ap, ◌∙◌, subst, Less, Equal, Greater}
use Rattle.std.specs.BTreeMap.{insert_entry}
use Rattle.std.specs.List.{IsDistinct}
use Rattle.std.specs.List.Sorted.{IsSorted, IsStrictlySortedBy}
use Rattle.std.specs.Map.{keys_of, lookup}
use Rattle.std.specs.Ordering.{eq_by_cmp, match_ordering}
use Rattle.std.proofs.Math.Path.{fun_ext}
use Rattle.std.proofs.lemmas.Bool.{false≢true}
use Rattle.mesh_base.specs.Ordered.{placed}
use Rattle.mesh_base.specs.declared.address.Mac.{Mac}
use Rattle.mesh_model.specs.Knowledge.Served.{Offered, offer_of}
use Rattle.mesh_model.specs.Routes.Addresses.{mac_order, same_mac}
use Rattle.mesh_laws.proofs.AscendingKeys.{ascend_inserted, found_inserted, inserted, same_from, sorted_from}
use Rattle.mesh_laws.proofs.ListedInOrder.{sorted_in_order}
use Rattle.mesh_laws.proofs.MacLemmas.{mac_exact, mac_total, same_by_order, same_exact}
use Rattle.mesh_serv.specs.OffersStand.{OffersStand, offered}
use Rattle.mesh_serv.specs.declared.offers.Offer.{Offer}

-- before anything was offered
pub nothing_stands : (kept : List (Mac × Offer)) → kept ≡ [] → OffersStand kept []
nothing_stands kept is = subst (λ k. OffersStand k []) (sym is) (record { addresses = refl; last = λ orig. refl })

-- an originator that offers something
abbrev pub one_offered : Mac → Offer → Offered
one_offered orig offer = record { orig = orig; offer = offered offer }

alike : (x y : Mac) → same_mac x y ≡ eq_by_cmp mac_order x y
alike x y = sym (same_by_order x y)

-- the addresses of what is kept ascend
ascending : (kept : List (Mac × Offer)) (offers : List Offered) → OffersStand kept offers → IsStrictlySortedBy mac_order (keys_of kept)
ascending kept offers stands = subst (IsStrictlySortedBy mac_order) (sym stands.addresses) (sorted_in_order mac_total mac_exact (map (λ (one : Offered). one.orig) offers))

-- an insertion places its key
keys_placed : (kept : List (Mac × Offer)) (orig : Mac) (offer : Offer) → keys_of (insert_entry mac_order kept orig offer) ≡ placed mac_order orig (keys_of kept)
keys_placed [] orig offer = refl
keys_placed (e ∷ es) orig offer =
    elim (mac_order orig e.0) as (λ r. keys_of (match_ordering r ((orig, offer) ∷ e ∷ es) ((e.0, offer) ∷ es) (e ∷ insert_entry mac_order es orig offer)) ≡ match_ordering r (orig ∷ e.0 ∷ keys_of es) (e.0 ∷ keys_of es) (e.0 ∷ placed mac_order orig (keys_of es))) [
      | Less ↦ refl
      | Equal ↦ refl
      | Greater ↦ ap (λ ks. e.0 ∷ ks) (keys_placed es orig offer)
    ]

-- what an originator offered last, once one more offer is kept
last_after : (orig : Mac) (offer : Offer) (old : Option Offer) (offers : List Offered) (q : Mac) → option_map offered old ≡ offer_of offers q
    → option_map offered (cond (same_mac orig q) (Some offer) old) ≡ offer_of (one_offered orig offer ∷ offers) q
last_after orig offer old offers q was =
    elim (same_mac orig q) as (λ b. option_map offered (cond b (Some offer) old) ≡ option_map (λ (one : Offered). one.offer) (cond b (Some (one_offered orig offer)) (find (λ one. same_mac one.orig q) offers))) [
      | true ↦ refl
      | false ↦ was
    ]

-- an offer is noted by what a sorted insertion leaves
pub noted : (orig : Mac) (offer : Offer) (kept after : List (Mac × Offer)) → (IsSorted mac_order (keys_of kept) → IsSorted mac_order (keys_of after)) → IsDistinct same_mac (keys_of after)
    → ((q : Mac) → lookup (same_mac q) after ≡ cond (same_mac orig q) (Some offer) (lookup (same_mac q) kept))
    → (offers : List Offered) → OffersStand kept offers → OffersStand after (one_offered orig offer ∷ offers)
noted orig offer kept after sorted once updates offers stands = record {
  addresses =
      ap keys_of (inserted mac_total mac_exact same_mac alike kept after orig offer (ascending kept offers stands) (sorted (sorted_from mac_total mac_exact kept (ascending kept offers stands))) once updates)
      ∙ keys_placed kept orig offer ∙ ap (placed mac_order orig) stands.addresses;
  last = λ q. ap (option_map offered) (updates q) ∙ last_after orig offer (lookup (same_mac q) kept) offers q (stands.last q);
}

-- the address of what is kept is there already
placed_there : (kept : List (Mac × Offer)) (offers : List Offered) (orig : Mac) (found : Option Offer) → OffersStand kept offers → lookup (same_mac orig) kept ≡ found → is_some found ≡ true
    → keys_of kept ≡ placed mac_order orig (keys_of kept)
placed_there kept offers orig None stands there some = absurd (false≢true some)
placed_there kept offers orig (Some offer) stands there some =
    let rises = ascending kept offers stands in
    let by_order : (q : Mac) → lookup (eq_by_cmp mac_order q) kept ≡ lookup (same_mac q) kept = λ q. ap (λ test. lookup test kept) (fun_ext (λ other. sym (alike q other))) in
    let found : (q : Mac) → lookup (same_mac q) kept ≡ cond (same_mac orig q) (Some offer) (lookup (same_mac q) kept) = λ q.
    elim (same_mac orig q) as (λ b. same_mac orig q ≡ b → lookup (same_mac q) kept ≡ cond b (Some offer) (lookup (same_mac q) kept)) [
      | true ↦ λ t. sym (ap (λ k. lookup (same_mac k) kept) (same_exact orig q t)) ∙ there
      | false ↦ λ t. refl
    ] refl in
    let unchanged : kept ≡ insert_entry mac_order kept orig offer
    = same_from mac_total mac_exact kept (insert_entry mac_order kept orig offer) rises (ascend_inserted mac_total mac_exact kept orig offer rises)
    (λ q. by_order q ∙ found q ∙ ap (λ b. cond b (Some offer) (lookup (same_mac q) kept)) (alike orig q)
    ∙ ap (λ o. cond (eq_by_cmp mac_order orig q) (Some offer) o) (sym (by_order q)) ∙ sym (found_inserted mac_total mac_exact q kept orig offer)) in
    ap keys_of unchanged ∙ keys_placed kept orig offer

some_of : (o : Option Offer) (offer : Offer) → option_map offered o ≡ Some (offered offer) → is_some o ≡ true
some_of None offer is = absurd (false≢true (ap is_some is))
some_of (Some x) offer is = refl

-- an offer that was the last of its originator changes nothing
pub noted_again : (orig : Mac) (offer : Offer) (kept : List (Mac × Offer)) (offers : List Offered) → OffersStand kept offers → offer_of offers orig ≡ Some (offered offer)
    → OffersStand kept (one_offered orig offer ∷ offers)
noted_again orig offer kept offers stands again = record {
  addresses =
      placed_there kept offers orig (lookup (same_mac orig) kept) stands refl (some_of (lookup (same_mac orig) kept) offer (stands.last orig ∙ again))
      ∙ ap (placed mac_order orig) stands.addresses;
  last = λ q.
      elim (same_mac orig q) as (λ b. same_mac orig q ≡ b → option_map offered (lookup (same_mac q) kept) ≡ option_map (λ (one : Offered). one.offer) (cond b (Some (one_offered orig offer)) (find (λ one. same_mac one.orig q) offers))) [
        | true ↦ λ t. stands.last q ∙ ap (offer_of offers) (sym (same_exact orig q t)) ∙ again
        | false ↦ λ t. stands.last q
      ] refl;
}
