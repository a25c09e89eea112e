-- To whom a frame for a group goes.
use Rattle.std.proofs.Common.{inl, inr, ◌≡◌, ◌<◌, ◌≤◌, ◌&&◌, ◌==◌, ℕ, Bool, true, false, cond, nat_le, List, [], ◌∷◌, ◌++◌, filter, filter_map, length, map, Option, Some, None, is_some, option_map, refl, sym, subst, arith}
use Rattle.std.specs.List.{cons_option}
use Rattle.std.specs.Option.{unwrap_or}
use Rattle.std.proofs.lemmas.Bool.{eqb-true, leb-true, leb-false}
use Rattle.std.proofs.lemmas.List.Kept.{IsStrictlySortedBy-filter}
use Rattle.mesh_base.specs.declared.address.Mac.{Mac}
use Rattle.mesh_base.specs.declared.event.Reason.TheVariants.{Mc}
use Rattle.mesh_model.specs.declared.service.Fan.TheVariants.{Nobody, Each, Flood}
use Rattle.mesh_model.specs.Acts.BridgeRows.{Place, handed_out}
use Rattle.mesh_model.specs.Acts.GroupRows.{each_acts, fan_acts, group_acts, receivers_acts, sent_on}
use Rattle.mesh_model.specs.Knowledge.Addressee.{way_to}
use Rattle.mesh_model.specs.Knowledge.Known.{Knowledge, told_at}
use Rattle.mesh_model.specs.Knowledge.Offers.{has_route, is_receiver, live_offering, offering, receivers}
use Rattle.mesh_model.specs.Knowledge.Served.{Offered}
use Rattle.mesh_model.specs.Net.Next.{Has}
use Rattle.mesh_model.specs.Packets.Payload.{ClientFrame}
use Rattle.mesh_model.specs.Routes.Addresses.{mac_order}
use Rattle.mesh_model.specs.Routes.Queries.{Queries}
use Rattle.mesh_laws.specs.ServiceLaws.{GoToEach, GroupGoesToReceivers, GroupIsFlooded, ReceiversAscend, group_of, sends_for_group}
use Rattle.mesh_laws.proofs.ListedInOrder.{sorted_in_order}
use Rattle.mesh_laws.proofs.MacLemmas.{mac_exact, mac_total}
use Rattle.mesh_laws.proofs.Schedule.Members.{filter_has}

-- a route leads to each of some originators
abbrev HaveRoutes : Queries → Knowledge → ℕ → List Mac → Type 0
HaveRoutes q known now macs = (orig : Mac) → Has macs orig → has_route q known now orig ≡ true

both_first : (a b : Bool) → (a && b) ≡ true → a ≡ true
both_first true b is = refl
both_first false b is = cc

receivers_routed : (q : Queries) (known : Knowledge) (at : Place) (frame : ClientFrame) → HaveRoutes q known at.now (receivers q known at.now (group_of frame))
receivers_routed q known at frame orig has =
    both_first (has_route q known at.now orig) _ (filter_has (is_receiver q known at.now (group_of frame)) (live_offering q known at.now) orig has).0

goes_to_each : (q : Queries) (known : Knowledge) (at : Place) (frame : ClientFrame) (macs : List Mac) → HaveRoutes q known at.now macs → GoToEach q known at frame (filter sends_for_group (each_acts q known at frame macs)) macs
goes_to_each q known at frame [] routed = tt
goes_to_each q known at frame (orig ∷ rest) routed = go (q.route known.routes at.now orig) refl (routed orig (inl refl)) (goes_to_each q known at frame rest (λ other has. routed other (inr has)))
  where
    go : (o : Option Mac) → q.route known.routes at.now orig ≡ o → is_some o ≡ true → GoToEach q known at frame (filter sends_for_group (each_acts q known at frame rest)) rest
        → GoToEach q known at frame (filter sends_for_group (map (sent_on q known at frame) (cons_option (option_map (λ next. record { orig = orig; next = next; reason = Mc }) o) (filter_map (way_to q known at.now Mc) rest)))) (orig ∷ rest)
    go None is some more = cc
    go (Some next) is some more = (
      record { next = next; ttvn = unwrap_or (told_at q known at.now orig) 0; route = is; act_is = refl },
      more,
    )

-- by how it is sent to so many
none_left : (macs : List Mac) → length macs ≡ 0 → macs ≡ []
none_left [] none = refl
none_left (mac ∷ rest) none = cc

fan_goes : (q : Queries) (known : Knowledge) (at : Place) (frame : ClientFrame) (macs : List Mac) → HaveRoutes q known at.now macs → length macs ≤ 16 → GoToEach q known at frame (filter sends_for_group (receivers_acts q known at frame macs)) macs
fan_goes q known at frame macs routed few = go (length macs == 0) (nat_le (length macs) 16) refl refl
  where
    go : (none each : Bool) → (length macs == 0) ≡ none → nat_le (length macs) 16 ≡ each → GoToEach q known at frame (filter sends_for_group (fan_acts q known at frame macs (cond none Nobody (cond each Each Flood)))) macs
    go true each empty is = subst (GoToEach q known at frame []) (sym (none_left macs (eqb-true (length macs) 0 empty))) tt
    go false true empty is = goes_to_each q known at frame macs routed
    go false false empty is = let more = leb-false (length macs) 16 is in absurd (omega (arith, more, few))

fan_floods : (q : Queries) (known : Knowledge) (at : Place) (frame : ClientFrame) (macs : List Mac) → 16 < length macs → filter sends_for_group (receivers_acts q known at frame macs) ≡ []
fan_floods q known at frame macs many = go (length macs == 0) (nat_le (length macs) 16) refl
  where
    go : (none each : Bool) → nat_le (length macs) 16 ≡ each → filter sends_for_group (fan_acts q known at frame macs (cond none Nobody (cond each Each Flood))) ≡ []
    go true each is = refl
    go false true is = let few = leb-true (length macs) 16 is in absurd (omega (arith, few, many))
    go false false is = refl

-- ---- the laws
pub group_goes_to_receivers : GroupGoesToReceivers
unfolding group_acts
group_goes_to_receivers q known at frame joined few = go joined (fan_goes q known at frame (receivers q known at.now (group_of frame)) (receivers_routed q known at frame) few)
  where
    macs : List Mac
    macs = receivers q known at.now (group_of frame)

    go : (b : Bool) → GoToEach q known at frame (filter sends_for_group (receivers_acts q known at frame macs)) macs
        → GoToEach q known at frame (filter sends_for_group (cond b (handed_out at frame ∷ []) [] ++ receivers_acts q known at frame macs)) macs
    go true each = each
    go false each = each

pub group_is_flooded : GroupIsFlooded
unfolding group_acts
group_is_flooded q known at frame joined many = go joined (fan_floods q known at frame (receivers q known at.now (group_of frame)) many)
  where
    macs : List Mac
    macs = receivers q known at.now (group_of frame)

    go : (b : Bool) → filter sends_for_group (receivers_acts q known at frame macs) ≡ [] → filter sends_for_group (cond b (handed_out at frame ∷ []) [] ++ receivers_acts q known at frame macs) ≡ []
    go true none = none
    go false none = none

pub receivers_ascend : ReceiversAscend
receivers_ascend q known now key =
    IsStrictlySortedBy-filter mac_order (is_receiver q known now key) (live_offering q known now)
    (IsStrictlySortedBy-filter mac_order (q.live known.routes now) (offering known.services.offers)
    (sorted_in_order mac_total mac_exact (map (λ (one : Offered). one.orig) known.services.offers)))
