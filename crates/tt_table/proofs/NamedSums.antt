-- Rows that are a table's checksums, each of a VLAN with entries, name the sums of the table.
use Rattle.std.proofs.Common.{◌≡◌, ℕ, ◌+◌, ◌<◌, ◌≤◌, ◌^◌, Bool, true, false, cond, nat_eq, List, [], ◌∷◌, map, length, IfSome, Option, Some, None, option_map, is_eq, nat_cmp, refl, sym, ap, ap₂, ◌∙◌, subst, arith, Less, Equal, Greater}
use Rattle.std.specs.List.{AllByRecursion}
use Rattle.std.specs.List.Sorted.{IsStrictlySortedBy}
use Rattle.std.specs.Ordering.{match_ordering, ordering_reverse}
use Rattle.std.proofs.lemmas.Bool.{eq-eqb, eqb-true, ne_eqb}
use Rattle.std.proofs.lemmas.Cmp.{nat_cmp_total}
use Rattle.std.proofs.lemmas.Map.Lookups.{exact_unsigned}
use Rattle.mesh_base.specs.declared.client.Entry.{Entry}
use Rattle.mesh_base.specs.declared.client.Vid.{Vid}
use Rattle.mesh_laws.proofs.KeyLists.{found_passes, item_at, same_items, tied}
use Rattle.mesh_model.specs.Packets.Bodies.{VlanSum}
use Rattle.mesh_model.specs.Tables.Sums.{checksums, entries_in, insert_vlan, sums_of, vlans_of}
use Rattle.tt_table.specs.Sums.{AreByVlan, AreFew, AreTotalsOf, HaveEntries, entries_of, row_at, row_key, row_sum, sum_of}
use Rattle.tt_table.specs.declared.vlan_total.VlanTotal.{VlanTotal}
use Rattle.tt_table.proofs.OrderedLists.{one_of_two, other, turned_greater}
use Rattle.tt_table.proofs.TableSums.{count, count_cons}
use Rattle.tt_table.proofs.TotalsLemmas.{tied_test}

abbrev vid_key : Vid → ℕ
vid_key vid = vid.0

abbrev vid_at : ℕ → List Vid → Option Vid
vid_at q vids = item_at nat_cmp vid_key q vids

-- ---- the VLANs of a table
at_inserted : (q : ℕ) (vid : Vid) (vids : List Vid) → vid_at q (insert_vlan vid vids) ≡ cond (is_eq (nat_cmp q vid.0)) (Some vid) (vid_at q vids)
at_inserted q vid [] = refl
at_inserted q vid (first ∷ rest) =
    elim (nat_cmp vid.0 first.0) as (λ r. nat_cmp vid.0 first.0 ≡ r → vid_at q (match_ordering r (vid ∷ first ∷ rest) (first ∷ rest) (first ∷ insert_vlan vid rest)) ≡ cond (is_eq (nat_cmp q vid.0)) (Some vid) (vid_at q (first ∷ rest))) [
      | Less ↦ λ p. refl
      | Equal ↦ λ p.
          let n = exact_unsigned vid.0 first.0 p in
          let same : vid ≡ first = λ i. record { 0 = n i } in
          subst (λ v. vid_at q (first ∷ rest) ≡ cond (is_eq (nat_cmp q v.0)) (Some v) (vid_at q (first ∷ rest))) (sym same) (twice (is_eq (nat_cmp q first.0)))
      | Greater ↦ λ p.
          ap (cond (is_eq (nat_cmp q first.0)) (Some first)) (at_inserted q vid rest)
          ∙ one_of_two nat_cmp_total exact_unsigned vid_key (is_eq (nat_cmp q first.0)) (is_eq (nat_cmp q vid.0)) (Some first) (Some vid) (vid_at q rest)
          (other nat_cmp_total exact_unsigned vid_key first.0 vid.0 (turned_greater nat_cmp_total exact_unsigned vid_key vid.0 first.0 p) q)
    ] refl
  where
    twice : (b : Bool) → cond b (Some first) (vid_at q rest) ≡ cond b (Some first) (cond b (Some first) (vid_at q rest))
    twice true = refl
    twice false = refl

all_inserted : (P : ℕ → Type 0) (vid : Vid) (vids : List Vid) → P vid.0 → AllByRecursion P (map vid_key vids) → AllByRecursion P (map vid_key (insert_vlan vid vids))
all_inserted P vid [] p all = (p, tt)
all_inserted P vid (first ∷ rest) p all =
    elim (nat_cmp vid.0 first.0) as (λ r. AllByRecursion P (map vid_key (match_ordering r (vid ∷ first ∷ rest) (first ∷ rest) (first ∷ insert_vlan vid rest)))) [
      | Less ↦ (p, all)
      | Equal ↦ all
      | Greater ↦ (all.0, all_inserted P vid rest p all.1)
    ]

all_further : (a b : ℕ) (ks : List ℕ) → nat_cmp a b ≡ Less → AllByRecursion (λ y. nat_cmp b y ≡ Less) ks → AllByRecursion (λ y. nat_cmp a y ≡ Less) ks
all_further a b [] e all = tt
all_further a b (k ∷ ks) e all = (nat_cmp_total.trans a b k e all.0, all_further a b ks e all.1)

inserted_sorted : (vid : Vid) (vids : List Vid) → IsStrictlySortedBy nat_cmp (map vid_key vids) → IsStrictlySortedBy nat_cmp (map vid_key (insert_vlan vid vids))
unfolding IsStrictlySortedBy
inserted_sorted vid [] sorted = (tt, tt)
inserted_sorted vid (first ∷ rest) sorted =
    elim (nat_cmp vid.0 first.0) as (λ r. nat_cmp vid.0 first.0 ≡ r → IsStrictlySortedBy nat_cmp (map vid_key (match_ordering r (vid ∷ first ∷ rest) (first ∷ rest) (first ∷ insert_vlan vid rest)))) [
      | Less ↦ λ p. ((p, all_further vid.0 first.0 (map vid_key rest) p sorted.0), sorted)
      | Equal ↦ λ p. sorted
      | Greater ↦ λ p. (all_inserted (λ y. nat_cmp first.0 y ≡ Less) vid rest (nat_cmp_total.antisymm first.0 vid.0 ∙ ap ordering_reverse p) sorted.0, inserted_sorted vid rest sorted.1)
    ] refl

vlans_sorted : (table : List Entry) → IsStrictlySortedBy nat_cmp (map vid_key (vlans_of table))
unfolding IsStrictlySortedBy
vlans_sorted [] = tt
vlans_sorted (entry ∷ table) = inserted_sorted entry.key.vid (vlans_of table) (vlans_sorted table)

abbrev vid_of : ℕ → Vid
vid_of q = record { 0 = q }

-- a VLAN of a table is one that has entries
vlan_found : (q : ℕ) (table : List Entry) → vid_at q (vlans_of table) ≡ cond (nat_eq (count table (vid_of q)) 0) None (Some (vid_of q))
vlan_found q [] = refl
vlan_found q (entry ∷ table) =
    at_inserted q entry.key.vid (vlans_of table)
    ∙ ap₂ (λ b o. cond b (Some entry.key.vid) o) (tied_test q entry.key.vid.0) (vlan_found q table)
    ∙ here (nat_eq q entry.key.vid.0) refl (count_cons (vid_of q) entry table)
  where
    here : (b : Bool) → nat_eq q entry.key.vid.0 ≡ b → count (entry ∷ table) (vid_of q) ≡ cond b 1 0 + count table (vid_of q)
        → cond b (Some entry.key.vid) (cond (nat_eq (count table (vid_of q)) 0) None (Some (vid_of q))) ≡ cond (nat_eq (count (entry ∷ table) (vid_of q)) 0) None (Some (vid_of q))
    here true e n =
        let k = eqb-true q entry.key.vid.0 e in
        let same : entry.key.vid ≡ vid_of q = λ i. record { 0 = sym k i } in
        ap (λ v. Some v) same ∙ ap (λ b. cond b None (Some (vid_of q))) (sym (ne_eqb (count (entry ∷ table) (vid_of q)) 0 (λ z. omega (arith, n, z))))
    here false e n = ap (λ m. cond (nat_eq m 0) None (Some (vid_of q))) (omega (arith, n))

-- ---- what is found in a list that was mapped
at_mapped : {X Y : Type 0} (f : X → Y) (key : Y → ℕ) (q : ℕ) (xs : List X) → item_at nat_cmp key q (map f xs) ≡ option_map f (item_at nat_cmp (λ x. key (f x)) q xs)
at_mapped f key q [] = refl
at_mapped f key q (x ∷ xs) =
    elim (is_eq (nat_cmp q (key (f x)))) as (λ b. cond b (Some (f x)) (item_at nat_cmp key q (map f xs)) ≡ option_map f (cond b (Some x) (item_at nat_cmp (λ y. key (f y)) q xs))) [
      | true ↦ refl
      | false ↦ at_mapped f key q xs
    ]

keys_mapped : {X Y : Type 0} (f : X → Y) (key : Y → ℕ) (xs : List X) → map key (map f xs) ≡ map (λ x. key (f x)) xs
keys_mapped f key [] = refl
keys_mapped f key (x ∷ xs) = ap (λ l. key (f x) ∷ l) (keys_mapped f key xs)

abbrev sum_key : VlanSum → ℕ
sum_key s = s.vid.0

-- ---- named sums
pub are_sums_of : (rows : List VlanTotal) (table : List Entry) → AreByVlan rows → AreTotalsOf rows table → HaveEntries rows → map row_sum rows ≡ sums_of table
are_sums_of rows table sorted totals some =
    let of : Vid → VlanSum = λ vid. record { vid = vid; sum = checksums table vid } in
    same_items nat_cmp sum_key nat_cmp_total exact_unsigned (map row_sum rows) (sums_of table)
    (subst (IsStrictlySortedBy nat_cmp) (sym (keys_mapped row_sum sum_key rows)) sorted)
    (subst (IsStrictlySortedBy nat_cmp) (sym (keys_mapped of sum_key (vlans_of table))) (vlans_sorted table))
    (λ q.
    at_mapped row_sum sum_key q rows
    ∙ same q (row_at rows (vid_of q)) (found_passes (λ (row : VlanTotal). is_eq (nat_cmp q (row_key row))) rows) (totals (vid_of q)).0 (totals (vid_of q)).1 (some (vid_of q))
    ∙ sym (at_mapped of sum_key q (vlans_of table) ∙ ap (option_map of) (vlan_found q table)))
  where
    same : (q : ℕ) (o : Option VlanTotal) → IfSome o (λ row. is_eq (nat_cmp q (row_key row)) ≡ true) → sum_of o ≡ checksums table (vid_of q) → entries_of o ≡ count table (vid_of q)
        → ((row : VlanTotal) → o ≡ Some row → 0 < row.entries)
        → option_map row_sum o ≡ option_map (λ (vid : Vid). record { vid = vid; sum = checksums table vid }) (cond (nat_eq (count table (vid_of q)) 0) None (Some (vid_of q)))
    same q None passes s n few = ap (λ b. option_map (λ (vid : Vid). record { vid = vid; sum = checksums table vid }) (cond b None (Some (vid_of q)))) (sym (eq-eqb (count table (vid_of q)) 0 (sym n)))
    same q (Some row) passes s n few =
        let k = tied nat_cmp exact_unsigned q row.vid.0 _ refl passes in
        let vids : row.vid ≡ vid_of q = λ i. record { 0 = sym k i } in
        let more = few row refl in
        ap₂ (λ v x. Some (record { vid = v; sum = x })) vids s
        ∙ ap (λ b. option_map (λ (vid : Vid). record { vid = vid; sum = checksums table vid }) (cond b None (Some (vid_of q)))) (sym (ne_eqb (count table (vid_of q)) 0 (λ z. omega (arith, n, z, more))))

-- ---- few entries
at_most_all : (table : List Entry) (vid : Vid) → count table vid ≤ length table
at_most_all [] vid = omega arith
at_most_all (entry ∷ table) vid =
    elim (nat_eq vid.0 entry.key.vid.0) as (λ b. length (cond b (entry ∷ entries_in vid table) (entries_in vid table)) ≤ length (entry ∷ table)) [
      | true ↦ let n = at_most_all table vid in omega (arith, n)
      | false ↦ let n = at_most_all table vid in omega (arith, n)
    ]

pub few_from : (more : ℕ) (rows : List VlanTotal) (table : List Entry) → AreTotalsOf rows table → length table + more < 2 ^ 64 → AreFew more rows
few_from more rows table totals small vid = let n = (totals vid).1 in let all = at_most_all table vid in omega (arith, n, all, small)
