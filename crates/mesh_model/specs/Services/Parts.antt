-- How the facts of a transaction go into its messages. They go in their order into parts numbered
-- from 0, each with as many facts as keep its rest within 1,400 bytes, and at most 65,535 parts;
-- then comes the end, with how many parts there are. Facts behind the last of these parts are left
-- out, and so is a fact that no part has room for, with all behind it. The main words are
-- `parts_of` and `transaction_messages`.
use Rattle.std.specs.Prelude.{ℕ, zero, suc, ◌-◌, ◌==◌, nat_le, Bool, List, [], ◌∷◌, ◌++◌, length, take, drop, map, if◌then◌else◌}
use Rattle.mesh_model.specs.declared.service.Fact.{Fact}
use Rattle.mesh_model.specs.Packets.FactMessages.{FactMessage, HasEnd, HasPart, fact_spelling, longest_rest}
use Rattle.mesh_model.specs.Services.Transactions.{Part}

-- the most bytes of the facts of a part, in whose rest an id and a number stand before them
abbrev pub part_room : ℕ
part_room = longest_rest - 4

-- the most parts of a transaction
abbrev pub most_parts : ℕ
most_parts = 65535

-- how many bytes a fact takes
abbrev pub fact_size : Fact → ℕ
fact_size fact = length (fact_spelling fact)

-- how many facts, from the first on, so many bytes have room for
abbrev pub fitting : ℕ → List Fact → ℕ
fitting room [] = 0
fitting room (fact ∷ facts) = if nat_le (fact_size fact) room
    then suc (fitting (room - fact_size fact) facts) else 0

-- what facts are cut into, so many pieces at most, each with as many facts as a part has room for
unfoldable pub fact_pieces : ℕ → List Fact → List (List Fact)
fact_pieces zero facts = []
fact_pieces (suc more) facts = if fitting part_room facts == 0 then []
    else take (fitting part_room facts) facts
    ∷ fact_pieces more (drop (fitting part_room facts) facts)

-- pieces as parts, numbered from this number on
abbrev pub numbered : ℕ → List (List Fact) → List Part
numbered number [] = []
numbered number (facts ∷ rest) =
    record { number = number; facts = facts } ∷ numbered (suc number) rest

-- the parts into which facts go
abbrev pub parts_of : List Fact → List Part
parts_of facts = numbered 0 (fact_pieces most_parts facts)

-- the message that brings a part
abbrev pub part_message : Bool → ℕ → Part → FactMessage
part_message push id part = HasPart push id part.number part.facts

-- the messages of a transaction
abbrev pub transaction_messages : Bool → ℕ → List Fact → List FactMessage
transaction_messages push id facts = map (part_message push id) (parts_of facts)
    ++ HasEnd push id (length (parts_of facts)) ∷ []
