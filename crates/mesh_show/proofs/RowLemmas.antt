-- Lists that grow row by row.
use Rattle.std.proofs.Common.{◌≡◌, ℕ, zero, suc, ◌+◌, ◌≤◌, List, [], ◌∷◌, ◌++◌, length, map, take, slice_get, Option, Some, None, option_map, refl, sym, ap, ◌∙◌, append_assoc, append-nil, length-append, arith}
use Rattle.std.specs.Prelude.{flat_map, Result, OnOk}
use Rattle.std.proofs.lemmas.List.Concat.{flat_map-append}
use Rattle.std.proofs.lemmas.Option.{none-some}
use Rattle.mesh_base.specs.declared.address.Mac.{Mac}
use Rattle.mesh_base.specs.declared.client.Vid.{Vid}
use Rattle.mesh_model.specs.declared.service.GroupRow.{GroupRow}
use Rattle.mesh_model.specs.Packets.Bodies.{VlanSum}
use Rattle.mesh_node.specs.NodeStands.{flags_of}

pub take-next : {X : Type 0} (xs : List X) (i : ℕ) (x : X) → slice_get xs i ≡ Some x → take (suc i) xs ≡ take i xs ++ x ∷ []
take-next [] i x found = cc
take-next (y ∷ ys) zero x found = let same : y ≡ x = cc in ap (λ z. z ∷ []) same
take-next (y ∷ ys) (suc i) x found = ap (λ zs. y ∷ zs) (take-next ys i x found)

-- rows that are the first ones, with the next
pub rows-next : {X : Type 0} (rows new all : List X) (row : X) → rows ≡ take (length rows) all → new ≡ rows ++ row ∷ [] → Some row ≡ slice_get all (length rows)
    → new ≡ take (length new) all
rows-next rows new all row are is next =
    let longer : length new ≡ suc (length rows) = omega (arith, ap length is, length-append rows (row ∷ [])) in
    is ∙ ap (λ front. front ++ row ∷ []) are ∙ sym (take-next all (length rows) row (sym next)) ∙ ap (λ n. take n all) (sym longer)

-- a place without a row is past the last
pub past-end : {X : Type 0} (xs : List X) (place : ℕ) → slice_get xs place ≡ None → length xs ≤ place
past-end [] place none = omega arith
past-end (x ∷ xs) zero none = absurd (none-some x (sym none))
past-end (x ∷ xs) (suc place) none = omega (arith, past-end xs place none)

-- texts of the first rows, with that of the next
pub texts-next : {X : Type 0} (line : X → List ℕ) (old mid new : List ℕ) (xs : List X) (i : ℕ) (x : X) → slice_get xs i ≡ Some x → mid ≡ old ++ flat_map line (take i xs) → new ≡ mid ++ line x
    → new ≡ old ++ flat_map line (take (i + 1) xs)
texts-next line old mid new xs i x found is more =
    let next : i + 1 ≡ suc i = omega arith in
    more ∙ ap (λ front. front ++ line x) is ∙ append_assoc old (flat_map line (take i xs)) (line x)
    ∙ ap (λ rest. old ++ rest) (ap (λ last. flat_map line (take i xs) ++ last) (sym (append-nil (line x))) ∙ sym (flat_map-append line (take i xs) (x ∷ [])) ∙ ap (flat_map line) (sym (take-next xs i x found)) ∙ ap (λ n. flat_map line (take n xs)) (sym next))

-- a text, with what follows its first lines
pub then_more : (header more old mid new : List ℕ) → mid ≡ old ++ header → new ≡ mid ++ more → new ≡ old ++ (header ++ more)
then_more header more old mid new is next = next ∙ ap (λ front. front ++ more) is ∙ append_assoc old header more

-- first lines, and then a line for each row, unless memory ran out
pub then_rows : {T E R : Type 0} (result : Result T E) (line : R → List ℕ) (header old mid new : List ℕ) (lent rows : List R) → lent ≡ rows → mid ≡ old ++ header
    → OnOk result (new ≡ mid ++ flat_map line lent) → OnOk result (new ≡ old ++ (header ++ flat_map line rows))
then_rows result line header old mid new lent rows lends is next = rw (← lends, ← append_assoc old header (flat_map line lent), ← is) next

-- a VLAN and its sum
abbrev pub vlan_pair : VlanSum → Vid × ℕ
vlan_pair named = (named.vid, named.sum)

-- a VLAN and its sum are those that are named there
pub sum_named : (pair : Vid × ℕ) (named : Option VlanSum) → Some pair ≡ option_map vlan_pair named → named ≡ Some (record { vid = pair.0; sum = pair.1 })
sum_named pair None e = cc
sum_named pair (Some n) e = ap (λ (p : Vid × ℕ). Some (record { vid = p.0; sum = p.1 })) (sym (both e))
  where
    both : Some pair ≡ Some (vlan_pair n) → pair ≡ vlan_pair n
    both p = cc

-- the flags of an originator are those of the row there
pub flags_named : (pair : Mac × ℕ) (row : Option GroupRow) → Some pair ≡ option_map flags_of row → row ≡ Some (record { orig = pair.0; flags = pair.1 })
flags_named pair None e = cc
flags_named pair (Some r) e = ap (λ (p : Mac × ℕ). Some (record { orig = p.0; flags = p.1 })) (sym (both e))
  where
    both : Some pair ≡ Some (flags_of r) → pair ≡ flags_of r
    both p = cc

-- a line of a first word, a name, a space, a text and an end
pub header_then_text : (old a b c d e one two three four five : List ℕ) → one ≡ old ++ a → two ≡ one ++ b → three ≡ two ++ c → four ≡ three ++ d → five ≡ four ++ e → five ≡ old ++ (a ++ b ++ c ++ (d ++ []) ++ e)
header_then_text old a b c d e one two three four five p q r s t =
    t ∙ ap (λ x. x ++ e) (s ∙ ap (λ x. x ++ d) (r ∙ ap (λ x. x ++ c) (q ∙ ap (λ x. x ++ b) p ∙ append_assoc old a b) ∙ append_assoc old (a ++ b) c) ∙ append_assoc old (a ++ b ++ c) d)
    ∙ append_assoc old (a ++ b ++ c ++ d) e ∙ ap (λ x. old ++ (a ++ b ++ c ++ x ++ e)) (sym (append-nil d))

pub map_twice : {X Y Z : Type 0} (f : Y → Z) (g : X → Y) (xs : List X) → map (λ x. f (g x)) xs ≡ map f (map g xs)
map_twice f g [] = refl
map_twice f g (x ∷ xs) = ap (λ ys. f (g x) ∷ ys) (map_twice f g xs)
