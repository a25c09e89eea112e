-- What is made of each originator that offered something: by what is kept, and by what was offered.
use Rattle.std.proofs.Common.{◌≡◌, ◌↔◌, ◌≤◌, ℕ, IfSome, IsNone, length, slice_get, arith, ◌&&◌, ◌||◌, Bool, true, false, cond, List, [], ◌∷◌, filter, filter_map, Option, Some, None, option_map, option_and_then, refl, sym, ap, ap₂, ◌∙◌, subst, Less}
use Rattle.std.specs.Prelude.{if◌then◌else◌, map}
use Rattle.std.specs.List.{AllByRecursion, cons_option}
use Rattle.std.specs.List.Sorted.{IsStrictlySortedBy}
use Rattle.std.specs.Map.{keys_of, lookup}
use Rattle.std.specs.Option.{option_map_or}
use Rattle.std.proofs.Math.Path.{fun_ext}
use Rattle.std.proofs.lemmas.Grind.{common_steps}
use Rattle.std.proofs.lemmas.Option.{gets}
use Rattle.mesh_base.specs.declared.address.Mac.{Mac}
use Rattle.mesh_base.specs.declared.client.Key.{Key}
use Rattle.mesh_model.specs.declared.service.GroupRow.{GroupRow}
use Rattle.mesh_model.specs.declared.service.GwRow.{GwRow}
use Rattle.mesh_model.specs.Packets.Bodies.{Bandwidth}
use Rattle.mesh_model.specs.Knowledge.Known.{Knowledge}
use Rattle.mesh_model.specs.Knowledge.Offers.{choosable_rows, gateway_row, gateway_rows, group_rows, has_route, is_receiver, offering, receivers, row_of_gateway, row_of_groups, wants_group}
use Rattle.mesh_model.specs.Knowledge.Served.{Offer, Offered, offer_of}
use Rattle.mesh_model.specs.Routes.Addresses.{mac_order, same_mac}
use Rattle.mesh_model.specs.Routes.Queries.{Queries}
use Rattle.mesh_model.specs.Services.Groups.{is_wanted}
use Rattle.mesh_model.specs.Tables.Known.{known_by, names, nothing}
use Rattle.mesh_laws.proofs.ListedInOrder.{sorted_in_order}
use Rattle.mesh_laws.proofs.MacLemmas.{mac_exact, mac_total, other_by_order, same_self}
use Rattle.mesh_serv.specs.OffersStand.{OffersStand, offered}
use Rattle.mesh_serv.specs.declared.offers.Offer as kept_offer
use Rattle.node_ground.specs.ServiceRows.{choosable_of, gateway_of, group_of, receiver_of, wants_by}

-- ---- what is kept of each

module _ {V X : Type 0} (h : Mac → Option V → Option X) where
  -- addresses above one find what is behind it
  found_behind : (first : Mac) (value : V) (es : List (Mac × V)) (ks : List Mac) → AllByRecursion (λ k. mac_order first k ≡ Less) ks
      → filter_map (λ k. h k (cond (same_mac k first) (Some value) (lookup (same_mac k) es))) ks ≡ filter_map (λ k. h k (lookup (same_mac k) es)) ks
  found_behind first value es [] above = refl
  found_behind first value es (k ∷ ks) above =
      ap₂ (λ o xs. cons_option o xs) (ap (λ b. h k (cond b (Some value) (lookup (same_mac k) es))) (other_by_order first k above.0)) (found_behind first value es ks above.1)

  -- what is made of each entry is made of each address by what it finds
  found_each : (es : List (Mac × V)) → IsStrictlySortedBy mac_order (keys_of es) → filter_map (λ (e : Mac × V). h e.0 (Some e.1)) es ≡ filter_map (λ k. h k (lookup (same_mac k) es)) (keys_of es)
  unfolding IsStrictlySortedBy
  found_each [] rise = refl
  found_each (e ∷ es) rise =
      ap₂ (λ o xs. cons_option o xs) (ap (λ b. h e.0 (cond b (Some e.1) (lookup (same_mac e.0) es))) (sym (same_self e.0)))
      (found_each es rise.1 ∙ sym (found_behind e.0 e.1 es (keys_of es) rise.0))

-- what is made of each that is kept is made of each that offered something
pub walked : {X : Type 0} (h : Mac → Option Offer → Option X) (kept : List (Mac × kept_offer.Offer)) (offers : List Offered) → OffersStand kept offers
    → filter_map (λ (e : Mac × kept_offer.Offer). h e.0 (Some (offered e.1))) kept ≡ filter_map (λ orig. h orig (offer_of offers orig)) (offering offers)
walked h kept offers stands =
    let rise : IsStrictlySortedBy mac_order (keys_of kept) = subst (IsStrictlySortedBy mac_order) (sym stands.addresses) (sorted_in_order mac_total mac_exact (map (λ (one : Offered). one.orig) offers)) in
    found_each (λ orig o. h orig (option_map offered o)) kept rise
    ∙ ap (filter_map (λ orig. h orig (option_map offered (lookup (same_mac orig) kept)))) stands.addresses
    ∙ ap (λ f. filter_map f (offering offers)) (fun_ext (λ orig. ap (h orig) (stands.last orig)))

-- ---- of those that pass

-- what is made of those that pass a test
pub of_those : {X : Type 0} (p : Mac → Bool) (f : Mac → Option X) (ks : List Mac) → filter_map (λ k. if p k then f k else None) ks ≡ filter_map f (filter p ks)
of_those p f [] = refl
of_those p f (k ∷ ks) =
    elim (p k) as (λ b. cons_option (if b then f k else None) (filter_map (λ k. if p k then f k else None) ks) ≡ filter_map f (cond b (k ∷ filter p ks) (filter p ks))) [
      | true ↦ ap (λ xs. cons_option (f k) xs) (of_those p f ks)
      | false ↦ of_those p f ks
    ]

-- those that pass are those of which they themselves are made
pub themselves : (p : Mac → Bool) (ks : List Mac) → filter_map (λ k. if p k then Some k else None) ks ≡ filter p ks
themselves p [] = refl
themselves p (k ∷ ks) =
    elim (p k) as (λ b. cons_option (if b then Some k else None) (filter_map (λ k. if p k then Some k else None) ks) ≡ cond b (k ∷ filter p ks) (filter p ks)) [
      | true ↦ ap (λ xs. k ∷ xs) (themselves p ks)
      | false ↦ themselves p ks
    ]

-- rows that pass a test are made of what passes it
filtered : {E X : Type 0} (p : X → Bool) (f : E → Option X) (r : E → Bool) → ((e : E) → IfSome (f e) (λ x. p x ≡ r e)) → (es : List E) → filter p (filter_map f es) ≡ filter_map (λ e. if r e then f e else None) es
filtered p f r same [] = refl
filtered {E = E} {X = X} p f r same (e ∷ es) =
    by (f e) (r e) (same e) (filtered p f r same es)
  where
    by : (o : Option X) (b : Bool) → IfSome o (λ x. p x ≡ b) → filter p (filter_map f es) ≡ filter_map (λ e. if r e then f e else None) es
        → filter p (cons_option o (filter_map f es)) ≡ cons_option (if b then o else None) (filter_map (λ e. if r e then f e else None) es)
    by None true is rest = rest
    by None false is rest = rest
    by (Some x) true is rest = ap (λ b. cond b (x ∷ filter p (filter_map f es)) (filter p (filter_map f es))) is ∙ ap (λ xs. x ∷ xs) rest
    by (Some x) false is rest = ap (λ b. cond b (x ∷ filter p (filter_map f es)) (filter p (filter_map f es))) is ∙ rest

module _ (q : Queries) (known : Knowledge) (now : ℕ) (kept : List (Mac × kept_offer.Offer)) (stands : OffersStand kept known.services.offers) where
  -- the gateways
  pub gateways_are : filter_map (λ (e : Mac × kept_offer.Offer). gateway_of q known now e.0 (Some (offered e.1))) kept ≡ gateway_rows q known now
  gateways_are =
      walked (gateway_of q known now) kept known.services.offers stands
      ∙ of_those (q.live known.routes now) (row_of_gateway q known now) (offering known.services.offers)

  gateway_orig : (orig : Mac) (speeds : Option Bandwidth) (live : Bool) → IfSome (if live then option_map (gateway_row q known now orig) speeds else None) (λ (row : GwRow). has_route q known now row.orig ≡ has_route q known now orig)
  gateway_orig orig None true = tt
  gateway_orig orig (Some offered) true = refl
  gateway_orig orig speeds false = tt

  -- the gateways that can be chosen
  pub choosable_are : filter_map (λ (e : Mac × kept_offer.Offer). choosable_of q known now e.0 (Some (offered e.1))) kept ≡ choosable_rows q known now
  choosable_are =
      sym (filtered (λ (row : GwRow). has_route q known now row.orig) (λ (e : Mac × kept_offer.Offer). gateway_of q known now e.0 (Some (offered e.1))) (λ e. has_route q known now e.0)
      (λ e. gateway_orig e.0 (offered e.1).gateway (q.live known.routes now e.0)) kept)
      ∙ ap (filter (λ (row : GwRow). has_route q known now row.orig)) gateways_are

  -- those that tell multicast flags
  pub groups_are : filter_map (λ (e : Mac × kept_offer.Offer). group_of q known now e.0 (Some (offered e.1))) kept ≡ group_rows q known now
  groups_are =
      walked (group_of q known now) kept known.services.offers stands
      ∙ of_those (q.live known.routes now) (row_of_groups known) (offering known.services.offers)

  wants_told : (group orig : Mac) (told : Option ℕ)
      → option_map_or (λ flags. is_wanted group flags) told false ≡ option_map_or (λ (row : GroupRow). is_wanted group row.flags) (option_map (λ flags. record { orig = orig; flags = flags }) told) false
  wants_told group orig None = refl
  wants_told group orig (Some flags) = refl

  -- one that is live receives the frames of a group, or doesn't
  receives : (key : Key) (orig : Mac) → receiver_of q known now key orig (offer_of known.services.offers orig)
      ≡ (if q.live known.routes now orig then (if is_receiver q known now key orig then Some orig else None) else None)
  receives key orig =
      elim (q.live known.routes now orig) as (λ b. q.live known.routes now orig ≡ b
      → (if b then (if has_route q known now orig && (names key (known_by known.tables orig).held || wants_by key.mac (offer_of known.services.offers orig)) then Some orig else None) else None)
      ≡ (if b then (if is_receiver q known now key orig then Some orig else None) else None)) [
        | true ↦ λ t.
            ap (λ wants. if has_route q known now orig && (names key (known_by known.tables orig).held || wants) then Some orig else None)
            (wants_told key.mac orig (option_and_then (λ (o : Offer). o.multicast) (offer_of known.services.offers orig)))
            ∙ ap (λ b. if has_route q known now orig && (names key (if b then known_by known.tables orig else nothing).held || wants_group known key.mac orig) then Some orig else None) (sym t)
        | false ↦ λ t. refl
      ] refl

  -- those that receive the frames of a group
  pub receivers_are : (key : Key) → filter_map (λ (e : Mac × kept_offer.Offer). receiver_of q known now key e.0 (Some (offered e.1))) kept ≡ receivers q known now key
  receivers_are key =
      walked (receiver_of q known now key) kept known.services.offers stands
      ∙ ap (λ f. filter_map f (offering known.services.offers)) (fun_ext (receives key))
      ∙ of_those (q.live known.routes now) (λ orig. if is_receiver q known now key orig then Some orig else None) (offering known.services.offers)
      ∙ themselves (is_receiver q known now key) (filter (q.live known.routes now) (offering known.services.offers))

-- a place of a list has nothing exactly where it is past the end
pub none_past_end : {X : Type 0} (rows : List X) (i : ℕ) (row : Option X) → row ≡ slice_get rows i → IsNone row ↔ (length rows ≤ i)
none_past_end rows i row is = grind (arith, common_steps, gets)
