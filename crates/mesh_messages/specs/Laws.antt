-- Laws of messages: what is written is read again; the messages of a transaction bring its facts,
-- and each part as many as it has room for.
use Rattle.std.specs.Prelude.{◌≡◌, ◌≤◌, ◌<◌, ◌↔◌, ℕ, Bool, List, length, take, Some, ⊤}
use Rattle.std.specs.List.{All}
use Rattle.mesh_base.specs.Address.{mac_size}
use Rattle.mesh_base.specs.declared.address.Mac.{Mac}
use Rattle.mesh_codec.specs.Payloads.{IsWireNumber}
use Rattle.mesh_model.specs.declared.service.Fact.{Fact}
use Rattle.mesh_model.specs.Packets.ArpMessages.{ArpMessage, arp_message_of, arp_spelling}
use Rattle.mesh_model.specs.Packets.FactMessages.{FactMessage, HasPart, Primary, Requests, HasEnd, fact_message_of, fact_message_spelling, longest_rest, rest_spelling}
use Rattle.mesh_model.specs.Services.Parts.{fact_size, fitting, most_parts, part_room, parts_of, transaction_messages}
use Rattle.mesh_model.specs.Services.Transactions.{Transaction, whole_facts}
use Rattle.mesh_messages.specs.LentFacts.{FitPart}

-- an address is whole
abbrev pub IsWhole : Mac → Type 0
IsWhole mac = length mac.0 ≡ mac_size

-- a number has room in two bytes
abbrev pub FitsTwo : ℕ → Type 0
FitsTwo number = number < 65536

-- a number has room in four bytes
abbrev pub FitsFour : ℕ → Type 0
FitsFour number = number < 4294967296

-- ARP whose addresses are whole, whose VLAN has a number, and whose numbers have room
pub record CanBeAsked (message : ArpMessage) : Type 0 where
  pub vid : IsWireNumber message.vid
  pub operation : FitsTwo message.operation
  pub sender : IsWhole message.sender
  pub sender_ip : FitsFour message.sender_ip
  pub target : IsWhole message.target
  pub target_ip : FitsFour message.target_ip

-- ARP that was written is read again
abbrev pub IsArpReadAgain : Type 0
IsArpReadAgain = (dst src : Mac) (message : ArpMessage) → IsWhole dst → IsWhole src
    → CanBeAsked message → arp_message_of (arp_spelling dst src message) ≡ Some message

-- the numbers of a message have room, and the sources of its facts are whole
abbrev pub CanBeTold : FactMessage → Type 0
CanBeTold (HasPart push id number facts) =
    FitsTwo id × FitsTwo number × All (λ (fact : Fact). IsWhole fact.source) facts
CanBeTold Primary = ⊤
CanBeTold (Requests id type_no) = FitsTwo id
CanBeTold (HasEnd push id count) = FitsTwo id × FitsTwo count

-- a message that was written is read again, where its rest isn't too long
abbrev pub IsFactMessageReadAgain : Type 0
IsFactMessageReadAgain = (dst src : Mac) (message : FactMessage) → IsWhole dst → IsWhole src
    → CanBeTold message → length (rest_spelling message) ≤ longest_rest
    → fact_message_of (fact_message_spelling dst src message)
    ≡ Some (record { sender = src; message = message })

-- the messages of a transaction are each read again
abbrev pub IsTransactionReadAgain : Type 0
IsTransactionReadAgain = (dst src : Mac) (push : Bool) (id : ℕ) (facts : List Fact)
    → IsWhole dst → IsWhole src → FitsTwo id → All (λ (fact : Fact). IsWhole fact.source) facts
    → All (λ (message : FactMessage). fact_message_of (fact_message_spelling dst src message)
    ≡ Some (record { sender = src; message = message }))
    (transaction_messages push id facts)

-- a transaction whose parts and end came
abbrev pub came_whole : ℕ → List Fact → Transaction
came_whole moment facts = record {
  opened = moment;
  parts = parts_of facts;
  count = Some (length (parts_of facts));
}

-- it is whole with its facts, where each has room in a part and they are no more than there may be
-- parts
abbrev pub IsWholeTransaction : Type 0
IsWholeTransaction = (moment : ℕ) (facts : List Fact)
    → All (λ (fact : Fact). fact_size fact ≤ part_room) facts → length facts ≤ most_parts
    → whole_facts (came_whole moment facts) ≡ Some facts

-- so many of some facts, from the first on, fit a part exactly where they aren't more than a part
-- takes of them
abbrev pub TakesAsManyAsFit : Type 0
TakesAsManyAsFit = (facts : List Fact) (count : ℕ) → count ≤ length facts
    → FitPart (take count facts) ↔ (count ≤ fitting part_room facts)

-- a fact with a whole source, for which a part has room
pub record GoesInPart (fact : Fact) : Type 0 where
  pub whole : IsWhole fact.source
  pub fits : fact_size fact ≤ part_room

-- the facts of a part that was read can go in parts again
abbrev pub CanBeSentOn : Type 0
CanBeSentOn = (bytes : List ℕ) (sender : Mac) (push : Bool) (id number : ℕ) (facts : List Fact)
    → fact_message_of bytes
    ≡ Some (record { sender = sender; message = HasPart push id number facts })
    → All GoesInPart facts
