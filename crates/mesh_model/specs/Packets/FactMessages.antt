-- The messages of the fact store between nodes. A message is its kind, a version byte 0, the length
-- of what follows in two bytes, at most 1,400, and that. A part has the id of its transaction, its
-- number and facts; an end its id and how many parts there are; a request its id and a type. The
-- main words are `fact_message_spelling` and `fact_message_of`.
use Rattle.std.specs.Prelude.{ℕ, zero, suc, ◌+◌, ◌==◌, ◌&&◌, nat_lt, nat_le, Bool, true, false, List, [], ◌∷◌, ◌++◌, length, take, drop, flat_map, slice_index, Option, Some, None, option_map, option_and_then, if◌then◌else◌}
use Rattle.byteorder.specs.Endian.{big_bytes, big_number}
use Rattle.mesh_base.specs.declared.address.Mac.{Mac}
use Rattle.mesh_base.specs.Vlan.{untagged}
use Rattle.mesh_model.specs.declared.service.Fact.{Fact}
use Rattle.mesh_model.specs.Packets.Ethernet.{EtherFrame, address_in, ether_frame_of, ether_spelling}
use Rattle.mesh_model.specs.Packets.Numbers.{alfred_ethertype}

-- a message; `push` tells a transaction that is pushed from one that answers a request
pub data FactMessage : Type 0 where
  HasPart : (push : Bool) → (id number : ℕ) → (facts : List Fact) → FactMessage
  Primary : FactMessage
  Requests : (id type_no : ℕ) → FactMessage
  HasEnd : (push : Bool) → (id count : ℕ) → FactMessage

-- the kinds
abbrev pub part_kind : Bool → ℕ
part_kind push = if push then 0 else 4

abbrev pub primary_kind : ℕ
primary_kind = 1

abbrev pub request_kind : ℕ
request_kind = 2

abbrev pub end_kind : Bool → ℕ
end_kind push = if push then 3 else 5

-- how a fact is spelled
abbrev pub fact_spelling : Fact → List ℕ
fact_spelling fact = fact.source.0 ++ fact.type_no ∷ fact.version
    ∷ big_bytes 2 (length fact.bytes) ++ fact.bytes

-- the kind of a message
abbrev pub kind_of : FactMessage → ℕ
kind_of (HasPart push id number facts) = part_kind push
kind_of Primary = primary_kind
kind_of (Requests id type_no) = request_kind
kind_of (HasEnd push id count) = end_kind push

-- what follows the length
abbrev pub rest_spelling : FactMessage → List ℕ
rest_spelling (HasPart push id number facts) =
    big_bytes 2 id ++ big_bytes 2 number ++ flat_map fact_spelling facts
rest_spelling Primary = []
rest_spelling (Requests id type_no) = big_bytes 2 id ++ type_no ∷ []
rest_spelling (HasEnd push id count) = big_bytes 2 id ++ big_bytes 2 count

-- how a message from one address to another is spelled
abbrev pub fact_message_spelling : Mac → Mac → FactMessage → List ℕ
fact_message_spelling dst src message = ether_spelling alfred_ethertype (record {
  dst = dst;
  src = src;
  vid = record { 0 = untagged };
  rest = kind_of message ∷ 0 ∷ big_bytes 2 (length (rest_spelling message))
      ++ rest_spelling message;
})

-- ---- reading

-- the most bytes behind the length
abbrev pub longest_rest : ℕ
longest_rest = 1400

-- the bytes of a fact before its own
abbrev pub fact_head : ℕ
fact_head = 10

-- the length that the first fact of bytes tells
abbrev pub told_bytes : List ℕ → ℕ
told_bytes bytes = big_number 2 (drop 8 bytes)

-- the first fact of bytes
abbrev pub front_fact : List ℕ → Fact
front_fact bytes = record {
  source = address_in 0 bytes;
  type_no = slice_index bytes 6;
  version = slice_index bytes 7;
  bytes = take (told_bytes bytes) (drop fact_head bytes);
}

-- facts with one more in front, where they are read to their end
abbrev pub fact_before : Fact → Option (List Fact) → Option (List Fact)
fact_before fact rest = option_map (λ facts. fact ∷ facts) rest

-- the facts that bytes are, of which at most so many are read; none where a byte is left
unfoldable pub facts_within : ℕ → List ℕ → Option (List Fact)
facts_within zero bytes = if length bytes == 0 then Some [] else None
facts_within (suc more) bytes =
    if length bytes == 0 then Some []
    else if nat_lt (length bytes) (fact_head + told_bytes bytes) then None
    else fact_before (front_fact bytes)
    (facts_within more (drop (fact_head + told_bytes bytes) bytes))

-- the facts that bytes are, which are fewer than bytes
abbrev pub facts_of : List ℕ → Option (List Fact)
facts_of bytes = facts_within (length bytes) bytes

-- the part that a rest is
abbrev pub part_of : Bool → List ℕ → Option FactMessage
part_of push rest = if nat_lt (length rest) 4 then None
    else option_map (HasPart push (big_number 2 rest) (big_number 2 (drop 2 rest)))
    (facts_of (drop 4 rest))

-- the end that a rest is
abbrev pub end_of : Bool → List ℕ → Option FactMessage
end_of push rest = if length rest == 4
    then Some (HasEnd push (big_number 2 rest) (big_number 2 (drop 2 rest))) else None

-- the request that a rest is
abbrev pub request_of : List ℕ → Option FactMessage
request_of rest = if length rest == 3
    then Some (Requests (big_number 2 rest) (slice_index rest 2)) else None

-- the message of a kind whose rest this is
abbrev pub message_of_kind : ℕ → List ℕ → Option FactMessage
message_of_kind kind rest =
    if kind == 0 then part_of true rest
    else if kind == primary_kind then (if length rest == 0 then Some Primary else None)
    else if kind == request_kind then request_of rest
    else if kind == 3 then end_of true rest
    else if kind == 4 then part_of false rest
    else if kind == 5 then end_of false rest else None

-- whether bytes are a message whose length fits
abbrev pub has_fitting_length : List ℕ → Bool
has_fitting_length bytes = nat_le 4 (length bytes) && (slice_index bytes 1 == 0)
    && nat_le (big_number 2 (drop 2 bytes)) longest_rest
    && (length bytes == (4 + big_number 2 (drop 2 bytes)))

-- a message with its sender
pub record CameFact : Type 0 where
  pub sender : Mac
  pub message : FactMessage

-- the message of an untagged frame
abbrev pub message_in_frame : EtherFrame → Option CameFact
message_in_frame frame =
    if (frame.vid.0 == untagged) && has_fitting_length frame.rest
    then option_map (λ message. record { sender = frame.src; message = message })
    (message_of_kind (slice_index frame.rest 0) (drop 4 frame.rest))
    else None

-- the message that bytes are, where they are one
abbrev pub fact_message_of : List ℕ → Option CameFact
fact_message_of bytes = option_and_then message_in_frame (ether_frame_of alfred_ethertype bytes)
