-- Facts that go into parts, one part after the other.
use Rattle.std.proofs.Common.{◌≡◌, ℕ, zero, suc, ◌+◌, ◌-◌, ◌≤◌, ◌<◌, List, [], ◌∷◌, length, take, drop, refl, sym, ap, ap₂, ◌∙◌, subst, arith, Bool, true, false, if◌then◌else◌, length-append}
use Rattle.std.specs.Prelude.{nat_le, ◌==◌, flat_map}
use Rattle.std.specs.Borrow.{Bor}
use Rattle.std.proofs.lemmas.Bool.Decides.{nat_tests}
use Rattle.std.proofs.lemmas.List.{take-map, drop-map}
use Rattle.mesh_model.specs.declared.service.Fact.{Fact}
use Rattle.mesh_model.specs.Packets.FactMessages.{fact_spelling}
use Rattle.mesh_messages.specs.LentFacts.{FitPart, lent_facts}
use Rattle.mesh_model.specs.Services.Parts.{fact_size, fitting, most_parts, numbered, part_room, parts_of, fact_pieces}

-- ---- how many facts there is room for

-- how many more facts fit behind one
abbrev counted : ℕ → Fact → List Fact → Bool → ℕ
counted room fact facts fits = if fits then suc (fitting (room - fact_size fact) facts) else 0

-- no more facts fit than there are
pub fitting-within : (room : ℕ) (facts : List Fact) → fitting room facts ≤ length facts
fitting-within room [] = omega arith
fitting-within room (fact ∷ facts) =
    let rest = fitting-within (room - fact_size fact) facts in
    elim (nat_le (fact_size fact) room) as (λ (b : Bool). counted room fact facts b ≤ length (fact ∷ facts)) [ true ↦ omega (arith, rest) | false ↦ omega arith ]

-- the bytes of the facts that fit, by whether the first does
abbrev fitting_bytes : ℕ → Fact → List Fact → Bool → ℕ
fitting_bytes room fact facts fits = length (flat_map fact_spelling (take (counted room fact facts fits) (fact ∷ facts)))

-- the same, where those behind the first are within what it leaves
first_fits : (room : ℕ) (fact : Fact) (facts : List Fact) (fits : Bool) → nat_le (fact_size fact) room ≡ fits
    → length (flat_map fact_spelling (take (fitting (room - fact_size fact) facts) facts)) ≤ room - fact_size fact → fitting_bytes room fact facts fits ≤ room
first_fits room fact facts true is rest =
    let some : fact_size fact ≤ room = grind (arith, nat_tests, is) in
    omega (arith, some, rest, length-append (fact_spelling fact) (flat_map fact_spelling (take (fitting (room - fact_size fact) facts) facts)))
first_fits room fact facts false is rest = omega arith

-- what fits is within the room
pub fitting-fits : (room : ℕ) (facts : List Fact) → length (flat_map fact_spelling (take (fitting room facts) facts)) ≤ room
fitting-fits room [] = omega arith
fitting-fits room (fact ∷ facts) =
    first_fits room fact facts (nat_le (fact_size fact) room) refl (fitting-fits (room - fact_size fact) facts)

-- ---- lent facts

-- the first of lent facts
pub lent-take : (n : ℕ) (facts : List (Bor Fact)) → lent_facts (take n facts) ≡ take n (lent_facts facts)
lent-take n facts = sym (take-map (λ (fact : Bor Fact). fact.now) n facts)

-- what is behind them
pub lent-drop : (n : ℕ) (facts : List (Bor Fact)) → lent_facts (drop n facts) ≡ drop n (lent_facts facts)
lent-drop n facts = sym (drop-map (λ (fact : Bor Fact). fact.now) n facts)

-- as many of them as fit a part
pub lent_fit : (n : ℕ) (facts : List (Bor Fact)) → n ≡ fitting part_room (lent_facts facts) → FitPart (lent_facts (take n facts))
lent_fit n facts is =
    let all = lent_facts facts in
    let fits : FitPart (take n all) = subst (λ (k : ℕ). FitPart (take k all)) (sym is) (fitting-fits part_room all) in
    subst FitPart (sym (lent-take n facts)) fits

-- ---- the next part

-- the fact_pieces of facts, of which so many fit the first
abbrev pub pieces_by : ℕ → List Fact → ℕ → Bool → List (List Fact)
pieces_by more facts n none = if none then [] else take n facts ∷ fact_pieces more (drop n facts)

-- facts of which some fit a part are a piece and those of the rest
pub first_piece : (more : ℕ) (facts : List Fact) (n : ℕ) → fitting part_room facts ≡ n → 0 < n → fact_pieces (suc more) facts ≡ take n facts ∷ fact_pieces more (drop n facts)
unfolding fact_pieces
first_piece more facts n is some =
    let test : (n == 0) ≡ false = grind (arith, nat_tests, some) in
    ap (λ (k : ℕ). pieces_by more facts k (k == 0)) is ∙ ap (pieces_by more facts n) test

-- facts of which none fits a part are no fact_pieces
no_piece : (more : ℕ) (facts : List Fact) → fitting part_room facts ≡ 0 → fact_pieces more facts ≡ []
unfolding fact_pieces
no_piece zero facts none = refl
no_piece (suc more) facts none = ap (λ (k : ℕ). pieces_by more facts k (k == 0)) none

-- the parts to come, where some facts fit the next
pub parts-next : (number : ℕ) (facts : List Fact) (n : ℕ) → fitting part_room facts ≡ n → 0 < n → number < most_parts
    → numbered number (fact_pieces (most_parts - number) facts) ≡ record { number = number; facts = take n facts } ∷ numbered (number + 1) (fact_pieces (most_parts - (number + 1)) (drop n facts))
parts-next number facts n is some less =
    let more = most_parts - (number + 1) in
    let left : most_parts - number ≡ suc more = omega (arith, less) in
    ap (λ (k : ℕ). numbered number (fact_pieces k facts)) left
    ∙ ap (numbered number) (first_piece more facts n is some)
    ∙ ap (λ (k : ℕ). record { number = number; facts = take n facts } ∷ numbered k (fact_pieces more (drop n facts))) (omega arith)

-- the same of lent facts, whose first are a part and behind which these come
pub lent-next : (number : ℕ) (facts first rest : List (Bor Fact)) (n : ℕ) → first ≡ take n facts → rest ≡ drop n facts
    → n ≡ fitting part_room (lent_facts facts) → 0 < n → number < most_parts
    → numbered number (fact_pieces (most_parts - number) (lent_facts facts)) ≡ record { number = number; facts = lent_facts first } ∷ numbered (number + 1) (fact_pieces (most_parts - (number + 1)) (lent_facts rest))
lent-next number facts first rest n first_is rest_is is some less =
    let firsts : take n (lent_facts facts) ≡ lent_facts first = sym (lent-take n facts) ∙ ap lent_facts (sym first_is) in
    let rests : drop n (lent_facts facts) ≡ lent_facts rest = sym (lent-drop n facts) ∙ ap lent_facts (sym rest_is) in
    parts-next number (lent_facts facts) n (sym is) some less
    ∙ ap₂ (λ (f r : List Fact). record { number = number; facts = f } ∷ numbered (number + 1) (fact_pieces (most_parts - (number + 1)) r)) firsts rests

-- none come where none fits the next
pub parts-none : (number : ℕ) (facts : List Fact) → fitting part_room facts ≡ 0 → numbered number (fact_pieces (most_parts - number) facts) ≡ []
parts-none number facts none = ap (numbered number) (no_piece (most_parts - number) facts none)

-- none come where the most have come
pub parts-all : (number : ℕ) (facts : List Fact) → number ≡ most_parts → numbered number (fact_pieces (most_parts - number) facts) ≡ []
unfolding fact_pieces
parts-all number facts all =
    let none : most_parts - number ≡ 0 = omega (arith, all) in
    ap (λ (k : ℕ). numbered number (fact_pieces k facts)) none

-- there are no more fact_pieces than are wanted
pub fact_pieces-most : (more : ℕ) (facts : List Fact) → length (fact_pieces more facts) ≤ more
unfolding fact_pieces
fact_pieces-most zero facts = omega arith
fact_pieces-most (suc more) facts =
    let n = fitting part_room facts in
    let rest = fact_pieces-most more (drop n facts) in
    elim (n == 0) as (λ (none : Bool). length (pieces_by more facts n none) ≤ suc more) [ true ↦ omega arith | false ↦ omega (arith, rest) ]

-- a part is numbered for each piece
pub numbered-length : (number : ℕ) (facts : List (List Fact)) → length (numbered number facts) ≡ length facts
numbered-length number [] = refl
numbered-length number (first ∷ rest) = omega (arith, numbered-length (suc number) rest)

-- there are no more parts than a transaction has
pub parts_most : (facts : List Fact) → length (parts_of facts) ≤ most_parts
parts_most facts = omega (arith, numbered-length 0 (fact_pieces most_parts facts), fact_pieces-most most_parts facts)
