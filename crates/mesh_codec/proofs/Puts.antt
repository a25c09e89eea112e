-- Parts that are put one after the other are put as they are spelled.
use Rattle.std.proofs.Common.{◌≡◌, ℕ, ◌≤◌, ◌<◌, length, List, [], ◌∷◌, ◌++◌, refl, sym, ap, subst, ◌∙◌, append_assoc, arith}
use Rattle.std.specs.Global.{Vec}
use Rattle.std.specs.Vec.{vec_capacity}
use Rattle.std.specs.List.{flat_map, AllByRecursion}
use Rattle.std.proofs.lemmas.List.{append-nil}
use Rattle.mesh_model.specs.declared.packet.Head.{Head}
use Rattle.mesh_model.specs.Packets.Layout.{Part, Fits, IsTail, HasSpelling, header_of, part_spelling, spelling}
use Rattle.mesh_model.specs.Packets.Shapes.{TailKind, shape_of}
use Rattle.mesh_model.specs.Packets.Shapes.TailKind.{containers, all_the_rest, nothing}
use Rattle.mesh_codec.specs.Encoding.{HasStrayTail}
use Rattle.mesh_codec.specs.Inner.Writing.{PutsHeader, PutsParts}

puts_items : (old : Vec ℕ) (parts : List Part) (new : Vec ℕ) → PutsParts old parts new → new.items ≡ old.items ++ flat_map part_spelling parts
puts_items old [] new puts = ap (λ (v : Vec ℕ). v.items) puts ∙ sym (append-nil old.items)
puts_items old (part ∷ parts) new puts =
    let mid = puts.0 in
    puts_items mid parts new puts.2
    ∙ ap (λ (l : List ℕ). l ++ flat_map part_spelling parts) puts.1.items
    ∙ append_assoc old.items (part_spelling part) (flat_map part_spelling parts)

puts_room : (old : Vec ℕ) (parts : List Part) (new : Vec ℕ) → PutsParts old parts new → vec_capacity old ≤ vec_capacity new
puts_room old [] new puts = omega (arith, ap (λ (v : Vec ℕ). vec_capacity v) puts)
puts_room old (part ∷ parts) new puts =
    omega (arith, puts.1.room, puts_room puts.0 parts new puts.2)

puts_fit : (old : Vec ℕ) (parts : List Part) (new : Vec ℕ) → PutsParts old parts new → AllByRecursion Fits parts
puts_fit old [] new puts = tt
puts_fit old (part ∷ parts) new puts = (puts.1.fits, puts_fit puts.0 parts new puts.2)

-- parts that were put one after another are a header
pub header_put : (old : Vec ℕ) (parts : List Part) (new : Vec ℕ) → PutsParts old parts new → PutsHeader old parts new
header_put old parts new puts = record {
  fits = puts_fit old parts new puts;
  items = puts_items old parts new puts;
  room = puts_room old parts new puts;
}

-- a tail that isn't a stray one may follow
fitting_tail : (kind : TailKind) (tail : List ℕ) → ((kind ≡ nothing) × (0 < length tail) → ⊥) → IsTail kind tail []
fitting_tail containers tail allowed = tt
fitting_tail all_the_rest tail allowed = refl
fitting_tail nothing [] allowed = refl
fitting_tail nothing (first ∷ more) allowed = absurd (allowed (refl, omega arith))

-- what was put is the header of a packet that has a spelling
pub put_has_spelling : (old new : Vec ℕ) (head : Head) (tail : List ℕ) (len : ℕ) → length tail ≡ len → PutsHeader old (header_of head len) new → (HasStrayTail head tail → ⊥)
    → HasSpelling head tail
put_has_spelling old new head tail len is puts allowed = record {
  parts =
      subst (λ (n : ℕ). AllByRecursion Fits (header_of head n)) (sym is) puts.fits;
  tail_is = fitting_tail (shape_of head).tail tail allowed;
}

-- the header, with the tail behind it, is the spelling
pub put_spelling : (old new : Vec ℕ) (head : Head) (tail : List ℕ) (len : ℕ) → length tail ≡ len → PutsHeader old (header_of head len) new
    → new.items ++ tail ≡ old.items ++ spelling head tail
put_spelling old new head tail len is puts =
    ap (λ (l : List ℕ). l ++ tail) puts.items
    ∙ append_assoc old.items (flat_map part_spelling (header_of head len)) tail
    ∙ ap (λ (n : ℕ). old.items ++ (flat_map part_spelling (header_of head n) ++ tail)) (sym is)
