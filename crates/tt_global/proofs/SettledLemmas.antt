-- An originator whose held table has the byte and the sums that were told last: that they are
-- announced again changes nothing and asks for nothing.
use Rattle.std.proofs.Common.{◌≡◌, ℕ, cond, List, [], ◌∷◌, ◌++◌, map, fold, Option, Some, None, Ordering, Less, refl, sym, ap, ap₂, ◌∙◌, subst, arith, nat_cmp, append_assoc, append-nil}
use Rattle.std.specs.Cmp.{IsTotalOrder}
use Rattle.std.specs.List.{AllByRecursion}
use Rattle.std.specs.List.Sorted.{IsStrictlySortedBy}
use Rattle.std.specs.Ordering.{match_ordering, ordering_reverse}
use Rattle.std.proofs.lemmas.Cmp.{nat_cmp_total, on_total}
use Rattle.std.proofs.lemmas.Map.Lookups.{CmpEqualImpliesEq, exact_unsigned}
use Rattle.std.proofs.lemmas.Map.Steps.{set_value_same}
use Rattle.mesh_base.specs.Ordered.{placed}
use Rattle.mesh_base.specs.declared.address.Mac.{Mac}
use Rattle.mesh_base.specs.declared.client.Entry.{Entry}
use Rattle.mesh_base.specs.declared.client.Vid.{Vid}
use Rattle.mesh_laws.proofs.AnnouncedSums.{announces_none_of_empty}
use Rattle.mesh_laws.proofs.ListedInOrder.{sorted_placed}
use Rattle.mesh_model.specs.Knowledge.Told.{sums_told}
use Rattle.mesh_model.specs.Packets.Bodies.{VlanSum}
use Rattle.mesh_model.specs.Routes.Addresses.{same_mac}
use Rattle.mesh_model.specs.declared.table_change.Change.{Change}
use Rattle.mesh_model.specs.Tables.Gathered.{none_gathered}
use Rattle.mesh_model.specs.Tables.Judging.{announcement_row, wanted_request}
use Rattle.mesh_model.specs.Tables.Known.{Announced, TableCalls, held_after, known_by, stamp_of}
use Rattle.mesh_model.specs.Tables.Sums.{checksums, insert_vlan, sums_of, vlans_of, with_sum}
use Rattle.mesh_model.specs.Tables.Versions.{Stamp, Version}
use Rattle.tt_global.specs.Globals.{GlobalsStand, IsSettled, Kept}
use Rattle.tt_global.specs.Kept.{IsAnnounced, held_in, stamp, told_in}
use Rattle.tt_global.specs.declared.known.KnownTable.{KnownTable}
use Rattle.tt_global.proofs.AgainLemmas.{again_matches, again_row}
use Rattle.tt_global.proofs.StandLemmas.{announced_stands, announced_written, at}

-- ---- one originator
-- what is held stays, and nothing is asked for
record Stays (held : Version) (told : Stamp) (changes : List Change) : Type 0 where
  held_is : Some held ≡ held_after told.byte (announcement_row (Some held) told changes).table (Some held)
  asks : wanted_request (announcement_row (Some held) told changes).outcome ≡ None

stays_so : (held : Version) (byte : ℕ) (sums : List VlanSum) (changes : List Change) → held.byte ≡ byte → sums_of held.table ≡ sums → Stays held (record { byte = byte; sums = sums }) changes
stays_so held byte [] changes byte_is sums_are = record {
  held_is = ap₂ (λ b t. Some (record { byte = b; table = t })) byte_is ((announces_none_of_empty held.table).0 sums_are);
  asks = refl;
}
stays_so held byte (first ∷ rest) changes byte_is sums_are =
    let told : Stamp = record { byte = byte; sums = first ∷ rest } in
    let row = again_row held told changes byte_is sums_are (omega arith) in record {
      held_is = ap (λ r. held_after byte r.table (Some held)) (sym row);
      asks = ap (λ r. wanted_request r.outcome) row;
    }

held_stays : (told : Stamp) (held : Option Version) (changes : List Change) → IsSettled (Some told) held → held ≡ held_after told.byte (announcement_row held told changes).table held
held_stays told None changes settled = absurd settled
held_stays told (Some held) changes settled = (stays_so held told.byte told.sums changes settled.0 settled.1).held_is

nothing_asked : (told : Stamp) (held : Option Version) (changes : List Change) → IsSettled (Some told) held → wanted_request (announcement_row held told changes).outcome ≡ None
nothing_asked told None changes settled = absurd settled
nothing_asked told (Some held) changes settled = (stays_so held told.byte told.sums changes settled.0 settled.1).asks

announced_again : (known : KnownTable) (changes : List Change) → IsSettled (told_in (Some known)) (held_in (Some known)) → IsAnnounced (stamp known.byte known.sums) changes (Some known) (Some known)
announced_again known changes settled =
    let told : Stamp = stamp known.byte known.sums in record {
      told_is = refl;
      held_is = held_stays told (held_in (Some known)) changes settled;
      gathered_is = ap (λ b. cond b known.gathered none_gathered) (sym (again_matches told told refl refl));
    }

-- ---- all of them
module _ (kept : Kept) (orig : Mac) (known : KnownTable) (found : at orig kept ≡ Some known) (calls : TableCalls) (stands : GlobalsStand kept calls) where
  pub settled_is : IsSettled (told_in (Some known)) (held_in (Some known)) ≡ IsSettled (stamp_of (known_by calls orig)) (known_by calls orig).held
  settled_is = ap₂ IsSettled (ap told_in (sym found) ∙ stands.told orig) (ap held_in (sym found) ∙ stands.held orig)

  pub told_is : stamp_of (known_by calls orig) ≡ Some (stamp known.byte known.sums)
  told_is = sym (stands.told orig) ∙ ap told_in found

  module _ (settled : IsSettled (told_in (Some known)) (held_in (Some known))) (changes : List Change) where
    pub stands_again : (frame : ℕ) → GlobalsStand kept (Announced orig frame (stamp known.byte known.sums) changes ∷ calls)
    stands_again frame =
        announced_stands calls orig frame (stamp known.byte known.sums) changes kept kept stands
        (announced_written orig (stamp known.byte known.sums) changes kept kept known known found (announced_again known changes settled) (sym (set_value_same (same_mac orig) kept known found)))

    pub asks_nothing : wanted_request (announcement_row (known_by calls orig).held (stamp known.byte known.sums) changes).outcome ≡ None
    asks_nothing =
        ap (λ held. wanted_request (announcement_row held (stamp known.byte known.sums) changes).outcome) (sym (stands.held orig) ∙ ap held_in found)
        ∙ nothing_asked (stamp known.byte known.sums) (held_in (Some known)) changes settled

-- nothing is settled where nothing is kept
pub nothing_settled : (kept : Kept) (orig : Mac) → at orig kept ≡ None → (calls : TableCalls) → GlobalsStand kept calls → IsSettled (stamp_of (known_by calls orig)) (known_by calls orig).held → ⊥
nothing_settled kept orig none calls stands settled =
    subst (λ told. IsSettled told (known_by calls orig).held) (sym (stands.told orig) ∙ ap told_in none) settled

-- ---- sums that are told as they are
abbrev vlan_order : Vid → Vid → Ordering
vlan_order v w = nat_cmp v.0 w.0

vlan_total : IsTotalOrder vlan_order
vlan_total = on_total (λ (v : Vid). v.0) nat_cmp_total

vlan_exact : CmpEqualImpliesEq vlan_order
vlan_exact v w e = λ i. record { 0 = exact_unsigned v.0 w.0 e i }

vlan_placed : (v : Vid) (vs : List Vid) → placed vlan_order v vs ≡ insert_vlan v vs
vlan_placed v [] = refl
vlan_placed v (w ∷ vs) = ap (λ later. match_ordering (vlan_order v w) (v ∷ w ∷ vs) (w ∷ vs) (w ∷ later)) (vlan_placed v vs)

vlans_rise : (table : List Entry) → IsStrictlySortedBy vlan_order (vlans_of table)
unfolding IsStrictlySortedBy
vlans_rise [] = tt
vlans_rise (entry ∷ table) = subst (IsStrictlySortedBy vlan_order) (vlan_placed entry.key.vid (vlans_of table)) (sorted_placed vlan_total vlan_exact entry.key.vid (vlans_of table) (vlans_rise table))

-- each of these VLANs is before one
abbrev AreBefore : List VlanSum → Vid → Type 0
AreBefore sums v = AllByRecursion (λ (s : VlanSum). vlan_order s.vid v ≡ Less) sums

with_last : (given : VlanSum) (sums : List VlanSum) → AreBefore sums given.vid → with_sum given sums ≡ sums ++ given ∷ []
with_last given [] before = refl
with_last given (first ∷ rest) before =
    ap (λ r. match_ordering r (given ∷ first ∷ rest) (given ∷ rest) (first ∷ with_sum given rest)) (vlan_total.antisymm given.vid first.vid ∙ ap ordering_reverse before.0)
    ∙ ap (λ more. first ∷ more) (with_last given rest before.1)

one_more : (v : Vid) (sums : List VlanSum) (last : VlanSum) → AreBefore sums v → vlan_order last.vid v ≡ Less → AreBefore (sums ++ last ∷ []) v
one_more v [] last before one = (one, tt)
one_more v (first ∷ rest) last before one = (before.0, one_more v rest last before.1 one)

-- each of these is before each of those
abbrev AreUnder : List VlanSum → List Vid → Type 0
AreUnder sums vs = AllByRecursion (AreBefore sums) vs

all_under : (sums : List VlanSum) (last : VlanSum) (vs : List Vid) → AreUnder sums vs → AllByRecursion (λ v. vlan_order last.vid v ≡ Less) vs → AreUnder (sums ++ last ∷ []) vs
all_under sums last [] under above = tt
all_under sums last (v ∷ vs) under above = (one_more v sums last under.0 above.0, all_under sums last vs under.1 above.1)

told_more : (f : Vid → ℕ) (sums : List VlanSum) (vs : List Vid) → AreUnder sums vs → IsStrictlySortedBy vlan_order vs
    → fold (λ sums vlan. with_sum vlan sums) sums (map (λ v. record { vid = v; sum = f v }) vs) ≡ sums ++ map (λ v. record { vid = v; sum = f v }) vs
unfolding IsStrictlySortedBy
told_more f sums [] under rise = sym (append-nil sums)
told_more f sums (v ∷ vs) under rise =
    let one : VlanSum = record { vid = v; sum = f v } in
    let rest : List VlanSum = map (λ (w : Vid). record { vid = w; sum = f w }) vs in
    ap (λ s. fold (λ (sums : List VlanSum) (vlan : VlanSum). with_sum vlan sums) s rest) (with_last one sums under.0)
    ∙ told_more f (sums ++ one ∷ []) vs (all_under sums one vs under.1 rise.0) rise.1
    ∙ append_assoc sums (one ∷ []) rest

none_under : (vs : List Vid) → AreUnder [] vs
none_under [] = tt
none_under (v ∷ vs) = (tt, none_under vs)

-- the sums of a table are
sums_as_told : (table : List Entry) → sums_told (sums_of table) ≡ sums_of table
sums_as_told table = told_more (checksums table) [] (vlans_of table) (none_under (vlans_of table)) (vlans_rise table)

-- so are those of a held table
pub settled_as_told : (told : Stamp) (held : Option Version) → IsSettled (Some told) held → sums_told told.sums ≡ told.sums
settled_as_told told None settled = absurd settled
settled_as_told told (Some held) settled = subst (λ sums. sums_told sums ≡ sums) settled.1 (sums_as_told held.table)
