-- The VLANs that containers tell find room in a request.
use Rattle.std.proofs.Common.{◌≡◌, ◌≤◌, ◌+◌, ◌-◌, ◌*◌, ◌/◌, ◌⊎◌, inl, inr, ℕ, zero, suc, Bool, true, false, List, [], ◌∷◌, length, take, drop, refl, sym, ap, subst, ◌∙◌, arith, Ordering, Less, Equal, Greater}
use Rattle.std.specs.Prelude.{Some, None, Option, fold, nat_lt, if◌then◌else◌, filter, filter_map, option_map, unwrap_or}
use Rattle.std.specs.Ordering.{match_ordering, nat_cmp}
use Rattle.std.specs.List.{cons_option}
use Rattle.std.proofs.lemmas.Bool.{ltb-false}
use Rattle.std.proofs.lemmas.List.{length-drop, length-map, length-take-le}
use Rattle.mesh_model.specs.Knowledge.Told.{sums_told}
use Rattle.mesh_model.specs.Packets.Bodies.{TtData, VlanSum, pieces, tt_data, vlan_of_bytes, vlans_size, whole_pieces}
use Rattle.mesh_model.specs.Packets.Containers.{Container, container_size, containers_of, first_containers, front_container, told_length as body_length}
use Rattle.mesh_model.specs.Packets.Contents.{first_of, first_table, is_of, table_of_body}
use Rattle.mesh_model.specs.Packets.Numbers.{tt_tvlv, tvlv_version}
use Rattle.mesh_model.specs.Tables.Sums.{with_sum}

-- a VLAN more makes at most one sum more
one_more : (order : Ordering) (given first : VlanSum) (rest more : List VlanSum) → length more ≤ suc (length rest)
    → length (match_ordering order (given ∷ first ∷ rest) (given ∷ rest) (first ∷ more)) ≤ suc (suc (length rest))
one_more Less given first rest more few = omega arith
one_more Equal given first rest more few = omega arith
one_more Greater given first rest more few = omega (arith, few)

with_sum_few : (given : VlanSum) (sums : List VlanSum) → length (with_sum given sums) ≤ suc (length sums)
with_sum_few given [] = omega arith
with_sum_few given (first ∷ rest) = one_more (nat_cmp given.vid.0 first.vid.0) given first rest (with_sum given rest) (with_sum_few given rest)

told_few : (vlans sums : List VlanSum) → length (fold (λ sums vlan. with_sum vlan sums) sums vlans) ≤ length sums + length vlans
told_few [] sums = omega arith
told_few (vlan ∷ vlans) sums =
    let rest = told_few vlans (with_sum vlan sums) in
    omega (arith, rest, with_sum_few vlan sums)

-- there are no more sums than VLANs
pub sums_few : (vlans : List VlanSum) → length (sums_told vlans) ≤ length vlans
sums_few vlans = let few : length (sums_told vlans) ≤ 0 + length vlans = told_few vlans [] in omega (arith, few)

-- there are as many pieces as are told
pieces_told : (n size : ℕ) (bytes : List ℕ) → length (pieces n size bytes) ≡ n
unfolding pieces
pieces_told zero size bytes = refl
pieces_told (suc n) size bytes = ap suc (pieces_told n size (drop size bytes))

chosen : {X : Type 0} (b : Bool) (x y : X) → (if b then None else Some x) ≡ Some y → (b ≡ false) × (x ≡ y)
chosen true x y is = absurd cc
chosen false x y is = (refl, cc)

-- the VLANs of a table stand in its body
vlans_fit : (body : List ℕ) (table : TtData) → table_of_body body ≡ Some table → 4 + 8 * length table.vlans ≤ length body
vlans_fit body table is =
    let parts = chosen (nat_lt (length body) (4 + vlans_size body)) (tt_data 4 body) table is in
    let whole : 4 + vlans_size body ≤ length body = ltb-false (length body) (4 + vlans_size body) parts.0 in
    let bytes : List ℕ = take (vlans_size body) (drop 4 body) in
    let long : length (drop 4 body) ≡ length body - 4 = length-drop 4 body in
    let size : length bytes ≡ vlans_size body = length-take-le (vlans_size body) (drop 4 body) (omega (arith, long, whole)) in
    let count : length (tt_data 4 body).vlans ≡ length bytes / 8 = length-map (whole_pieces 8 bytes) vlan_of_bytes ∙ pieces_told (length bytes / 8) 8 bytes in
    let few : 4 + 8 * length (tt_data 4 body).vlans ≤ length body = omega (arith, count, size, whole) in
    subst (λ (t : TtData). 4 + 8 * length t.vlans ≤ length body) parts.1 few

-- the table of a container, or of those behind it
told_by : (first : Container) (rest : List Container) (table : TtData) (is : Bool) (o : Option TtData)
    → first_of (filter_map (λ c. table_of_body c.body) (if is then first ∷ rest else rest)) ≡ Some table → o ≡ table_of_body first.body
    → (table_of_body first.body ≡ Some table) ⊎ (first_of (filter_map (λ c. table_of_body c.body) rest) ≡ Some table)
told_by first rest table false o is read = inr is
told_by first rest table true None is read =
    inr (subst (λ o. first_of (cons_option o (filter_map (λ c. table_of_body c.body) rest)) ≡ Some table) (sym read) is)
told_by first rest table true (Some found) is read =
    inl (sym read ∙ subst (λ o. first_of (cons_option o (filter_map (λ c. table_of_body c.body) rest)) ≡ Some table) (sym read) is)

fits_first : (n : ℕ) (bytes : List ℕ) (table : TtData)
    → ((more : List ℕ) → first_table (first_containers n more) ≡ Some table → 8 + 8 * length table.vlans ≤ length more)
    → (short : Bool) → nat_lt (length bytes) (4 + body_length bytes) ≡ short
    → first_table (unwrap_or (option_map (λ c. c ∷ first_containers n (drop (container_size c) bytes)) (if short then None else Some (front_container bytes))) []) ≡ Some table
    → 8 + 8 * length table.vlans ≤ length bytes
fits_first n bytes table again true short is = absurd cc
fits_first n bytes table again false short is =
    let front : Container = front_container bytes in
    let whole : 4 + body_length bytes ≤ length bytes = ltb-false (length bytes) (4 + body_length bytes) short in
    let behind : length (drop 4 bytes) ≡ length bytes - 4 = length-drop 4 bytes in
    let size : length front.body ≡ body_length bytes = length-take-le (body_length bytes) (drop 4 bytes) (omega (arith, behind, whole)) in
    let rest : List Container = first_containers n (drop (container_size front) bytes) in
    elim (told_by front (filter (is_of tt_tvlv tvlv_version) rest) table (is_of tt_tvlv tvlv_version front) (table_of_body front.body) is refl) [
      | inl here ↦ let fit = vlans_fit front.body table here in omega (arith, fit, size, whole)
      | inr later ↦ let fit = again (drop (container_size front) bytes) later in omega (arith, fit, length-drop (container_size front) bytes)
    ]

fits_among : (n : ℕ) (bytes : List ℕ) (table : TtData) → first_table (first_containers n bytes) ≡ Some table → 8 + 8 * length table.vlans ≤ length bytes
unfolding first_containers
fits_among zero bytes table is = absurd cc
fits_among (suc n) bytes table is = fits_first n bytes table (λ more. fits_among n more table) (nat_lt (length bytes) (4 + body_length bytes)) refl is

-- the VLANs of the first table stand in the containers
pub table_fits : (bytes : List ℕ) (table : TtData) → first_table (containers_of bytes) ≡ Some table → 8 + 8 * length table.vlans ≤ length bytes
unfolding containers_of
table_fits bytes table is = fits_among (length bytes) bytes table is
