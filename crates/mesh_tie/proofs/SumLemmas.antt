-- A table's announced sums fit their bytes, and what is told of them are the same sums.
use Rattle.std.proofs.Common.{◌≡◌, ◌≤◌, ◌<◌, ◌^◌, ℕ, suc, Bool, true, false, cond, List, [], ◌∷◌, ◌++◌, length, map, refl, sym, ap, ◌∙◌, arith, Ordering, Less, Equal, Greater, nat_lt, nat_eq, fold, append_assoc, append-nil}
use Rattle.std.specs.List.{AllByRecursion}
use Rattle.std.specs.Ordering.{match_ordering, nat_cmp}
use Rattle.std.proofs.lemmas.Nat.{xor_of_32}
use Rattle.std.proofs.lemmas.Bool.{eqb-true, ltb-true}
use Rattle.std.proofs.lemmas.Bool.Decides.{nat_tests}
use Rattle.mesh_base.specs.declared.client.Entry.{Entry}
use Rattle.mesh_base.specs.declared.client.Vid.{Vid}
use Rattle.mesh_model.specs.Knowledge.Told.{sums_told}
use Rattle.mesh_model.specs.Packets.Bodies.{VlanSum}
use Rattle.mesh_model.specs.Tables.Sums.{checksums, entries_in, entry_sum, insert_vlan, is_in_vlan, sums_of, vlans_of, with_sum, xor_of}
use Rattle.mesh_tvlv.specs.Laws.{FitsVlan}
use Rattle.mesh_tie.specs.Tie.{FitsEntry}

-- ---- the order of numbers
less_is : (a b : ℕ) → nat_cmp a b ≡ Less → a < b
less_is a b e = go (nat_lt a b) (nat_eq a b) refl e
  where
    go : (p q : Bool) → nat_lt a b ≡ p → cond p Less (cond q Equal Greater) ≡ Less → a < b
    go true q t is = ltb-true a b t
    go false true t is = absurd cc
    go false false t is = absurd cc

greater_is : (a b : ℕ) → nat_cmp a b ≡ Greater → b < a
greater_is a b e = go (nat_lt a b) (nat_eq a b) refl refl e
  where
    go : (p q : Bool) → nat_lt a b ≡ p → nat_eq a b ≡ q → cond p Less (cond q Equal Greater) ≡ Greater → b < a
    go true q t u is = absurd cc
    go false true t u is = absurd cc
    go false false t u is = grind (arith, nat_tests)

is_greater : (a b : ℕ) → b < a → nat_cmp a b ≡ Greater
is_greater a b low = go (nat_lt a b) (nat_eq a b) refl refl
  where
    go : (p q : Bool) → nat_lt a b ≡ p → nat_eq a b ≡ q → cond p Less (cond q Equal Greater) ≡ Greater
    go true q t u = absurd (let l = ltb-true a b t in omega (arith, l, low))
    go false true t u = absurd (let e = eqb-true a b u in omega (arith, e, low))
    go false false t u = refl

-- ---- each checksum fits four bytes
xor_step : (e : Entry) (table : List Entry) (v : Vid) (b : Bool) → entry_sum e < 2 ^ 32 → checksums table v < 2 ^ 32
    → xor_of (map entry_sum (cond b (e ∷ entries_in v table) (entries_in v table))) < 2 ^ 32
xor_step e table v true one rest = xor_of_32 (entry_sum e) (checksums table v) one rest
xor_step e table v false one rest = rest

xor_small : (v : Vid) (table : List Entry) → AllByRecursion FitsEntry table → checksums table v < 2 ^ 32
xor_small v [] fits = omega arith
xor_small v (e ∷ table) fits = xor_step e table v (is_in_vlan v e) fits.0.sum (xor_small v table fits.1)

-- ---- each VLAN's wire number fits two
abbrev IsSmallVid : Vid → Type 0
IsSmallVid v = v.0 < 2 ^ 16

-- what holds of each VLAN of some with one more
each_inserted : (P : Vid → Type 0) (v : Vid) (vs : List Vid) → P v → AllByRecursion P vs → AllByRecursion P (insert_vlan v vs)
each_inserted P v [] one all = (one, tt)
each_inserted P v (w ∷ vs) one all = go (nat_cmp v.0 w.0) (each_inserted P v vs one all.1)
  where
    go : (r : Ordering) → AllByRecursion P (insert_vlan v vs) → AllByRecursion P (match_ordering r (v ∷ w ∷ vs) (w ∷ vs) (w ∷ insert_vlan v vs))
    go Less more = (one, all)
    go Equal more = all
    go Greater more = (all.0, more)

vlans_small : (table : List Entry) → AllByRecursion FitsEntry table → AllByRecursion IsSmallVid (vlans_of table)
vlans_small [] fits = tt
vlans_small (e ∷ table) fits = each_inserted IsSmallVid e.key.vid (vlans_of table) fits.0.key.vid (vlans_small table fits.1)

each_sum_fits : (f : Vid → ℕ) (vs : List Vid) → ((v : Vid) → f v < 2 ^ 32) → AllByRecursion IsSmallVid vs → AllByRecursion FitsVlan (map (λ v. record { vid = v; sum = f v }) vs)
each_sum_fits f [] small all = tt
each_sum_fits f (v ∷ vs) small all = (record { vid = all.0; sum = small v }, each_sum_fits f vs small all.1)

pub sums_fit : (table : List Entry) → AllByRecursion FitsEntry table → AllByRecursion FitsVlan (sums_of table)
sums_fit table fits = each_sum_fits (checksums table) (vlans_of table) (λ v. xor_small v table fits) (vlans_small table fits)

-- ---- there are no more VLANs than entries
insert_few : (v : Vid) (vs : List Vid) → length (insert_vlan v vs) ≤ suc (length vs)
insert_few v [] = omega arith
insert_few v (w ∷ vs) = go (nat_cmp v.0 w.0) (insert_few v vs)
  where
    go : (r : Ordering) → length (insert_vlan v vs) ≤ suc (length vs) → length (match_ordering r (v ∷ w ∷ vs) (w ∷ vs) (w ∷ insert_vlan v vs)) ≤ suc (suc (length vs))
    go Less few = omega arith
    go Equal few = omega arith
    go Greater few = omega (arith, few)

vlans_few : (table : List Entry) → length (vlans_of table) ≤ length table
vlans_few [] = omega arith
vlans_few (e ∷ table) =
    let few = vlans_few table in
    let one = insert_few e.key.vid (vlans_of table) in
    omega (arith, few, one)

length_mapped : {X Y : Type 0} (f : X → Y) (xs : List X) → length (map f xs) ≡ length xs
length_mapped f [] = refl
length_mapped f (x ∷ xs) = ap suc (length_mapped f xs)

pub sums_few_of : (table : List Entry) → length (sums_of table) ≤ length table
sums_few_of table =
    let few = vlans_few table in
    let same : length (sums_of table) ≡ length (vlans_of table) = length_mapped (λ (v : Vid). record { vid = v; sum = checksums table v }) (vlans_of table) in
    omega (arith, few, same)

-- ---- VLANs that rise
abbrev IsAbove : Vid → Vid → Type 0
IsAbove v w = v.0 < w.0

abbrev VidsRise : List Vid → Type 0
VidsRise [] = Unit {0}
VidsRise (v ∷ vs) = AllByRecursion (IsAbove v) vs × VidsRise vs

above_all : (v w : Vid) (vs : List Vid) → v.0 < w.0 → AllByRecursion (IsAbove w) vs → AllByRecursion (IsAbove v) vs
above_all v w [] low all = tt
above_all v w (x ∷ vs) low all = (let l = all.0 in omega (arith, low, l), above_all v w vs low all.1)

insert_rises : (u : Vid) (vs : List Vid) → VidsRise vs → VidsRise (insert_vlan u vs)
insert_rises u [] rise = (tt, tt)
insert_rises u (w ∷ vs) rise = go (nat_cmp u.0 w.0) refl (insert_rises u vs rise.1)
  where
    go : (r : Ordering) → nat_cmp u.0 w.0 ≡ r → VidsRise (insert_vlan u vs) → VidsRise (match_ordering r (u ∷ w ∷ vs) (w ∷ vs) (w ∷ insert_vlan u vs))
    go Less e more = ((less_is u.0 w.0 e, above_all u w vs (less_is u.0 w.0 e) rise.0), rise)
    go Equal e more = rise
    go Greater e more = (each_inserted (IsAbove w) u vs (greater_is u.0 w.0 e) rise.0, more)

vlans_rise : (table : List Entry) → VidsRise (vlans_of table)
vlans_rise [] = tt
vlans_rise (e ∷ table) = insert_rises e.key.vid (vlans_of table) (vlans_rise table)

-- ---- what is told of sums whose VLANs rise
abbrev IsBelow : VlanSum → VlanSum → Type 0
IsBelow s t = t.vid.0 < s.vid.0

with_last : (given : VlanSum) (sums : List VlanSum) → AllByRecursion (IsBelow given) sums → with_sum given sums ≡ sums ++ given ∷ []
with_last given [] all = refl
with_last given (first ∷ rest) all =
    ap (λ r. match_ordering r (given ∷ first ∷ rest) (given ∷ rest) (first ∷ with_sum given rest)) (is_greater given.vid.0 first.vid.0 all.0)
    ∙ ap (λ more. first ∷ more) (with_last given rest all.1)

all_pushed : (P : VlanSum → Type 0) (xs : List VlanSum) (y : VlanSum) → AllByRecursion P xs → P y → AllByRecursion P (xs ++ y ∷ [])
all_pushed P [] y all one = (one, tt)
all_pushed P (x ∷ xs) y all one = (all.0, all_pushed P xs y all.1 one)

-- each of these is above each of those
abbrev AreOver : (Vid → ℕ) → List VlanSum → List Vid → Type 0
AreOver f sums [] = Unit {0}
AreOver f sums (v ∷ vs) = AllByRecursion (IsBelow (record { vid = v; sum = f v })) sums × AreOver f sums vs

still_over : (f : Vid → ℕ) (sums : List VlanSum) (v : Vid) (vs : List Vid) → AreOver f sums vs → AllByRecursion (IsAbove v) vs → AreOver f (sums ++ record { vid = v; sum = f v } ∷ []) vs
still_over f sums v [] over above = tt
still_over f sums v (w ∷ vs) over above = (all_pushed (IsBelow (record { vid = w; sum = f w })) sums (record { vid = v; sum = f v }) over.0 above.0, still_over f sums v vs over.1 above.1)

told_more : (f : Vid → ℕ) (sums : List VlanSum) (vs : List Vid) → AreOver f sums vs → VidsRise vs
    → fold (λ sums vlan. with_sum vlan sums) sums (map (λ v. record { vid = v; sum = f v }) vs) ≡ sums ++ map (λ v. record { vid = v; sum = f v }) vs
told_more f sums [] over rise = sym (append-nil sums)
told_more f sums (v ∷ vs) over rise =
    let one : VlanSum = record { vid = v; sum = f v } in
    let rest : List VlanSum = map (λ (w : Vid). record { vid = w; sum = f w }) vs in
    ap (λ s. fold (λ (sums : List VlanSum) (vlan : VlanSum). with_sum vlan sums) s rest) (with_last one sums over.0)
    ∙ told_more f (sums ++ one ∷ []) vs (still_over f sums v vs over.1 rise.0) rise.1
    ∙ append_assoc sums (one ∷ []) rest

over_none : (f : Vid → ℕ) (vs : List Vid) → AreOver f [] vs
over_none f [] = tt
over_none f (v ∷ vs) = (tt, over_none f vs)

-- the announced sums of a table are told as they are
pub sums_told_same : (table : List Entry) → sums_told (sums_of table) ≡ sums_of table
sums_told_same table = told_more (checksums table) [] (vlans_of table) (over_none (checksums table) (vlans_of table)) (vlans_rise table)
