-- The addresses that are kept for services are whole, and so are those that they lead to.
use Rattle.std.proofs.Common.{◌≡◌, inl, inr, ℕ, Bool, true, false, List, [], ◌∷◌, filter_map, Option, Some, None, option_and_then, option_map, sym, subst, Ordering, Less, Equal, Greater}
use Rattle.std.specs.List.{AllByRecursion, cons_option}
use Rattle.std.specs.Ordering.{match_ordering}
use Rattle.mesh_base.specs.Ordered.{placed}
use Rattle.mesh_base.specs.declared.address.Mac.{Mac}
use Rattle.mesh_base.specs.declared.client.Key.{Key}
use Rattle.mesh_model.specs.declared.service.GwRow.{GwRow}
use Rattle.mesh_model.specs.Clients.Settings.{GatewayPart, NoPart, Serves, Chooses, Setting, Wifi, Gateway, Multicast, ArpTable, FactStore, Pictures, LongestWhole}
use Rattle.mesh_model.specs.Knowledge.Known.{Knowledge}
use Rattle.mesh_model.specs.Knowledge.Offers.{choice_by, choosable_rows, gateway_row, gateway_rows, has_route, is_receiver, live_offering, offering, receivers, row_of_gateway}
use Rattle.mesh_model.specs.Knowledge.Served.{Offer, Offered, Services, after_set, offer_of, with_offer}
use Rattle.mesh_model.specs.Net.Next.{Has}
use Rattle.mesh_model.specs.Packets.Bodies.{Bandwidth}
use Rattle.mesh_model.specs.Packets.Containers.{Container}
use Rattle.mesh_model.specs.Routes.Addresses.{mac_order}
use Rattle.mesh_model.specs.Routes.Queries.{Queries}
use Rattle.mesh_laws.proofs.ChoiceLemmas.{chosen_is_among}
use Rattle.mesh_tie.specs.Sources.{IsWhole}
use Rattle.mesh_tie.specs.Tie.{ServesWhole}
use Rattle.mesh_tie.proofs.EntryLemmas.{each_filtered}

-- what holds of each holds of one among them
among_all : {X : Type 0} (P : X → Type 0) (xs : List X) (x : X) → AllByRecursion P xs → Has xs x → P x
among_all P [] x all has = absurd has
among_all P (first ∷ rest) x all (inl is) = subst P (sym is) all.0
among_all P (first ∷ rest) x all (inr has) = among_all P rest x all.1 has

-- ---- originators that offered something
pub each_placed : (P : Mac → Type 0) (mac : Mac) (macs : List Mac) → P mac → AllByRecursion P macs → AllByRecursion P (placed mac_order mac macs)
each_placed P mac [] one all = (one, tt)
each_placed P mac (first ∷ rest) one all = go (mac_order mac first) (each_placed P mac rest one all.1)
  where
    go : (r : Ordering) → AllByRecursion P (placed mac_order mac rest) → AllByRecursion P (match_ordering r (mac ∷ first ∷ rest) (first ∷ rest) (first ∷ placed mac_order mac rest))
    go Less more = (one, all)
    go Equal more = all
    go Greater more = (all.0, more)

offering_whole : (offers : List Offered) → AllByRecursion (λ (one : Offered). IsWhole one.orig) offers → AllByRecursion IsWhole (offering offers)
offering_whole [] all = tt
offering_whole (one ∷ offers) all = each_placed IsWhole one.orig (offering offers) all.0 (offering_whole offers all.1)

live_whole : (q : Queries) (known : Knowledge) (now : ℕ) → ServesWhole known.services → AllByRecursion IsWhole (live_offering q known now)
live_whole q known now s = each_filtered IsWhole (q.live known.routes now) (offering known.services.offers) (offering_whole known.services.offers s.offers)

pub receiver_whole : (q : Queries) (known : Knowledge) (now : ℕ) (key : Key) → ServesWhole known.services → (orig : Mac) → Has (receivers q known now key) orig → IsWhole orig
receiver_whole q known now key s orig has =
    among_all IsWhole (receivers q known now key) orig (each_filtered IsWhole (is_receiver q known now key) (live_offering q known now) (live_whole q known now s)) has

-- ---- the choice
abbrev HasWholeOrig : GwRow → Type 0
HasWholeOrig row = IsWhole row.orig

rows_whole : (q : Queries) (known : Knowledge) (now : ℕ) (macs : List Mac) → AllByRecursion IsWhole macs → AllByRecursion HasWholeOrig (filter_map (row_of_gateway q known now) macs)
rows_whole q known now [] all = tt
rows_whole q known now (mac ∷ rest) all = go (option_and_then (λ (offer : Offer). offer.gateway) (offer_of known.services.offers mac)) (rows_whole q known now rest all.1)
  where
    go : (o : Option Bandwidth) → AllByRecursion HasWholeOrig (filter_map (row_of_gateway q known now) rest)
        → AllByRecursion HasWholeOrig (cons_option (option_map (gateway_row q known now mac) o) (filter_map (row_of_gateway q known now) rest))
    go None more = more
    go (Some offered) more = (all.0, more)

choosable_whole : (q : Queries) (known : Knowledge) (now : ℕ) → ServesWhole known.services → AllByRecursion HasWholeOrig (choosable_rows q known now)
choosable_whole q known now s =
    each_filtered HasWholeOrig (λ (row : GwRow). has_route q known now row.orig) (gateway_rows q known now) (rows_whole q known now (live_offering q known now) (live_whole q known now s))

pub choice_whole : (part : GatewayPart) (q : Queries) (known : Knowledge) (now : ℕ) → ServesWhole known.services → (gateway : Mac) → choice_by part q known now ≡ Some gateway → IsWhole gateway
choice_whole NoPart q known now s gateway is = cc
choice_whole (Serves offered) q known now s gateway is = cc
choice_whole (Chooses policy) q known now s gateway is =
    let rows = choosable_rows q known now in
    let of = chosen_is_among policy known.services.choice rows gateway is in
    subst IsWhole of.orig_is (among_all HasWholeOrig rows of.row (choosable_whole q known now s) of.among)

-- ---- what is noted, and what is set
pub set_whole : (setting : Setting) (services : Services) → ServesWhole services → ServesWhole (after_set setting services)
set_whole (Wifi on) services s = record { offers = s.offers; choice = s.choice }
set_whole (Gateway part) services s = record { offers = s.offers; choice = λ gateway is. cc }
set_whole (Multicast flags) services s = record { offers = s.offers; choice = s.choice }
set_whole (ArpTable on) services s = record { offers = s.offers; choice = s.choice }
set_whole (FactStore mode) services s = record { offers = s.offers; choice = s.choice }
set_whole (LongestWhole size) services s = record { offers = s.offers; choice = s.choice }
set_whole (Pictures on) services s = record { offers = s.offers; choice = s.choice }

pub offer_whole : (accepted : Bool) (orig : Mac) (containers : List Container) (services : Services) → IsWhole orig → ServesWhole services → ServesWhole (with_offer accepted orig containers services)
offer_whole true orig containers services whole s = record { offers = (whole, s.offers); choice = s.choice }
offer_whole false orig containers services whole s = s
