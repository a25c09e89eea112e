-- The messages of a transaction bring its facts.
use Rattle.std.proofs.Common.{◌≡◌, ◌↔◌, ℕ, zero, suc, ◌+◌, ◌-◌, ◌≤◌, ◌<◌, List, [], ◌∷◌, ◌++◌, length, take, drop, map, get_or, refl, sym, ap, ◌∙◌, subst, arith, Bool, true, false, if◌then◌else◌, Option, Some, length-append}
use Rattle.std.specs.Prelude.{nat_le, ◌==◌, flat_map, option_and_then, option_map}
use Rattle.std.specs.List.{All}
use Rattle.std.proofs.lemmas.Bool.Decides.{nat_tests}
use Rattle.std.proofs.lemmas.List.{append-nil, length-drop, take-append-drop, take_all}
use Rattle.std.proofs.lemmas.Grind.{flat_map-append}
use Rattle.std.proofs.lemmas.List.Elements.{All-append, All-cons, All-drop, All-head, All-map, All-nil, All-tail, All-take, All-weaker}
use Rattle.std.proofs.Math.Seq.{take-suc}
use Rattle.mesh_base.specs.declared.address.Mac.{Mac}
use Rattle.mesh_model.specs.declared.service.Fact.{Fact}
use Rattle.mesh_model.specs.Packets.FactMessages.{FactMessage, HasEnd, fact_message_of, fact_message_spelling, fact_spelling}
use Rattle.mesh_model.specs.Services.Parts.{fact_size, fitting, most_parts, numbered, part_message, part_room, parts_of, fact_pieces, transaction_messages}
use Rattle.mesh_model.specs.Services.Transactions.{Part, facts_below, part_at, whole_facts}
use Rattle.mesh_messages.specs.Laws.{FitsTwo, IsWhole, came_whole}
use Rattle.mesh_messages.specs.LentFacts.{FitPart}
use Rattle.mesh_messages.proofs.PartLemmas.{first_piece, fitting-fits, numbered-length, parts_most, fact_pieces-most, pieces_by}
use Rattle.mesh_messages.proofs.Rewritten.{fact_message_back}

-- ---- a part takes as many facts as fit

-- how many bytes the first facts take, so many
abbrev bytes_of : ℕ → List Fact → ℕ
bytes_of count facts = length (flat_map fact_spelling (take count facts))

-- those that fit behind one, by whether it fits
abbrev fitting_behind : ℕ → Fact → List Fact → Bool → ℕ
fitting_behind room fact facts fits = if fits then suc (fitting (room - fact_size fact) facts) else 0

-- one more fact fits where it fits and the others fit behind it
one_more : (room : ℕ) (fact : Fact) (facts : List Fact) (count : ℕ) (fits : Bool) → nat_le (fact_size fact) room ≡ fits
    → ((bytes_of count facts ≤ room - fact_size fact) ↔ (count ≤ fitting (room - fact_size fact) facts))
    → (fact_size fact + bytes_of count facts ≤ room) ↔ (suc count ≤ fitting_behind room fact facts fits)
one_more room fact facts count true is rest =
    let some : fact_size fact ≤ room = grind (arith, nat_tests, is) in
    (λ within. omega (arith, rest.0 (omega (arith, within))), λ less. omega (arith, some, rest.1 (omega (arith, less))))
one_more room fact facts count false is rest =
    let none : room < fact_size fact = grind (arith, nat_tests, is) in
    (λ within. absurd (omega (arith, within, none)), λ less. absurd (omega (arith, less)))

-- of no facts there is room for all
none_fit : (room count : ℕ) → count ≡ 0 → bytes_of count [] ≤ room
none_fit room zero none = omega arith
none_fit room (suc count) none = omega arith

-- so many facts fit exactly where they aren't more than those that do
fitting-most : (room : ℕ) (facts : List Fact) (count : ℕ) → count ≤ length facts → (bytes_of count facts ≤ room) ↔ (count ≤ fitting room facts)
fitting-most room [] count few = (λ within. omega (arith, few), λ less. none_fit room count (omega (arith, less)))
fitting-most room (fact ∷ facts) zero few = (λ within. omega arith, λ less. omega arith)
fitting-most room (fact ∷ facts) (suc count) few =
    let both = one_more room fact facts count (nat_le (fact_size fact) room) refl (fitting-most (room - fact_size fact) facts count (omega (arith, few))) in
    let size = length-append (fact_spelling fact) (flat_map fact_spelling (take count facts)) in
    (λ within. both.0 (omega (arith, within, size)), λ less. omega (arith, both.1 less, size))

pub takes_most : (facts : List Fact) (count : ℕ) → count ≤ length facts → FitPart (take count facts) ↔ (count ≤ fitting part_room facts)
takes_most facts count few = fitting-most part_room facts count few

-- ---- a transaction is whole

-- the part of a number, by whether it is the first
abbrev part_by : ℕ → List Fact → List (List Fact) → ℕ → Bool → Option Part
part_by number first rest place is = if is then Some (record { number = number; facts = first }) else part_at (numbered (suc number) rest) place

-- the part of a number among parts that are numbered
numbered-at : (number : ℕ) (facts : List (List Fact)) (i place : ℕ) → place ≡ number + i → i < length facts → part_at (numbered number facts) place ≡ Some (record { number = place; facts = get_or facts i [] })
numbered-at number [] i place is less = absurd (omega (arith, less))
numbered-at number (first ∷ rest) zero place is less =
    let same : number ≡ place = omega (arith, is) in
    let test : (number == place) ≡ true = grind (arith, nat_tests, same) in
    ap (part_by number first rest place) test ∙ ap (λ (n : ℕ). Some (record { number = n; facts = first })) same
numbered-at number (first ∷ rest) (suc i) place is less =
    let test : (number == place) ≡ false = grind (arith, nat_tests, is) in
    ap (part_by number first rest place) test ∙ numbered-at (suc number) rest i place (omega (arith, is)) (omega (arith, less))

-- fact_pieces, one behind the other
abbrev joined : List (List Fact) → List Fact
joined fact_pieces = flat_map (λ (own : List Fact). own) fact_pieces

-- the facts of the first parts, so many
below : (facts : List (List Fact)) (count : ℕ) → count ≤ length facts → facts_below (numbered 0 facts) count ≡ Some (joined (take count facts))
below facts zero few = refl
below facts (suc count) few =
    let next = get_or facts count [] in
    let less : count < length facts = omega (arith, few) in
    let more : joined (take (suc count) facts) ≡ joined (take count facts) ++ next =
    ap joined (take-suc facts count [] less)
    ∙ flat_map-append (λ (own : List Fact). own) (take count facts) (next ∷ [])
    ∙ ap (λ (l : List Fact). joined (take count facts) ++ l) (append-nil next) in
    ap (option_and_then (λ (own : List Fact). option_map (λ (part : Part). own ++ part.facts) (part_at (numbered 0 facts) count))) (below facts count (omega (arith, few)))
    ∙ ap (option_map (λ (part : Part). joined (take count facts) ++ part.facts)) (numbered-at 0 facts count count (omega arith) less)
    ∙ ap (λ (l : List Fact). Some l) (sym more)

-- some facts fit where the first does
some_fit : (fact : Fact) (facts : List Fact) → fact_size fact ≤ part_room → 0 < fitting part_room (fact ∷ facts)
some_fit fact facts fits =
    let test : nat_le (fact_size fact) part_room ≡ true = grind (arith, nat_tests, fits) in
    subst (λ (b : Bool). 0 < fitting_behind part_room fact facts b) (sym test) (omega arith)

-- the fact_pieces of facts that each have room are all of them
fact_pieces-all : (more : ℕ) (facts : List Fact) → All (λ (fact : Fact). fact_size fact ≤ part_room) facts → length facts ≤ more → joined (fact_pieces more facts) ≡ facts
unfolding fact_pieces
fact_pieces-all zero [] fit few = refl
fact_pieces-all zero (fact ∷ facts) fit few = absurd (omega (arith, few))
fact_pieces-all (suc more) [] fit few = refl
fact_pieces-all (suc more) (fact ∷ facts) fit few =
    let all = fact ∷ facts in
    let n = fitting part_room all in
    let some = some_fit fact facts (All-head (λ (fact : Fact). fact_size fact ≤ part_room) fact facts fit) in
    let rest = fact_pieces-all more (drop n all) (All-drop (λ (fact : Fact). fact_size fact ≤ part_room) n all fit) (omega (arith, few, some, length-drop n all)) in
    ap joined (first_piece more all n refl some)
    ∙ ap (λ (l : List Fact). take n all ++ l) rest
    ∙ take-append-drop n all

pub transaction_whole : (moment : ℕ) (facts : List Fact) → All (λ (fact : Fact). fact_size fact ≤ part_room) facts → length facts ≤ most_parts → whole_facts (came_whole moment facts) ≡ Some facts
transaction_whole moment facts fit few =
    let all = fact_pieces most_parts facts in
    ap (facts_below (parts_of facts)) (numbered-length 0 all)
    ∙ below all (length all) (omega arith)
    ∙ ap (λ (l : List (List Fact)). Some (joined l)) (take_all (length all) all (omega arith))
    ∙ ap (λ (l : List Fact). Some l) (fact_pieces-all most_parts facts fit few)

-- ---- its messages are read again

-- a piece of facts with whole sources, for which a part has room
abbrev IsSoundPiece : List Fact → Type 0
IsSoundPiece facts = All (λ (fact : Fact). IsWhole fact.source) facts × FitPart facts

-- such a part, whose number has room
abbrev IsSoundPart : Part → Type 0
IsSoundPart part = FitsTwo part.number × IsSoundPiece part.facts

fact_pieces-sound : (more : ℕ) (facts : List Fact) → All (λ (fact : Fact). IsWhole fact.source) facts → All IsSoundPiece (fact_pieces more facts)
unfolding fact_pieces
fact_pieces-sound zero facts whole = All-nil IsSoundPiece
fact_pieces-sound (suc more) facts whole =
    let n = fitting part_room facts in
    let first : IsSoundPiece (take n facts) = (All-take (λ (fact : Fact). IsWhole fact.source) n facts whole, fitting-fits part_room facts) in
    let rest = fact_pieces-sound more (drop n facts) (All-drop (λ (fact : Fact). IsWhole fact.source) n facts whole) in
    elim (n == 0) as (λ (none : Bool). All IsSoundPiece (pieces_by more facts n none)) [
      | true ↦ All-nil IsSoundPiece
      | false ↦ All-cons IsSoundPiece (take n facts) (fact_pieces more (drop n facts)) first rest
    ]

numbered-sound : (number : ℕ) (facts : List (List Fact)) → number + length facts ≤ most_parts → All IsSoundPiece facts → All IsSoundPart (numbered number facts)
numbered-sound number [] few sound = All-nil IsSoundPart
numbered-sound number (first ∷ rest) few sound =
    All-cons IsSoundPart (record { number = number; facts = first }) (numbered (suc number) rest) (omega (arith, few), All-head IsSoundPiece first rest sound)
    (numbered-sound (suc number) rest (omega (arith, few)) (All-tail IsSoundPiece first rest sound))

pub transaction_back : (dst src : Mac) (push : Bool) (id : ℕ) (facts : List Fact) → IsWhole dst → IsWhole src → FitsTwo id → All (λ (fact : Fact). IsWhole fact.source) facts
    → All (λ (message : FactMessage). fact_message_of (fact_message_spelling dst src message) ≡ Some (record { sender = src; message = message })) (transaction_messages push id facts)
transaction_back dst src push id facts to from fits whole =
    let IsBack : FactMessage → Type 0 = λ message. fact_message_of (fact_message_spelling dst src message) ≡ Some (record { sender = src; message = message }) in
    let parts = parts_of facts in
    let all = fact_pieces most_parts facts in
    let end = HasEnd push id (length parts) in
    let sound = numbered-sound 0 all (omega (arith, fact_pieces-most most_parts facts)) (fact_pieces-sound most_parts facts whole) in
    let one : (part : Part) → IsSoundPart part → IsBack (part_message push id part) = λ part is. fact_message_back dst src (part_message push id part) to from (fits, is.0, is.1.0) (omega (arith, is.1.1)) in
    All-append IsBack (map (part_message push id) parts) (end ∷ [])
    (All-map IsBack (part_message push id) parts (All-weaker IsSoundPart (λ (part : Part). IsBack (part_message push id part)) one parts sound))
    (All-cons IsBack end [] (fact_message_back dst src end to from (fits, omega (arith, parts_most facts)) (omega arith)) (All-nil IsBack))
