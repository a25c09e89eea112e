-- The facts that were read can be sent on.
use Rattle.std.proofs.Common.{◌≡◌, ℕ, zero, suc, ◌+◌, ◌≤◌, List, [], ◌∷◌, ◌++◌, length, drop, refl, subst, arith, Bool, true, false, if◌then◌else◌, Option, Some, None, length-append, length-drop}
use Rattle.std.specs.Prelude.{nat_lt, ◌==◌, ◌&&◌, option_and_then, option_map, slice_index, ⊤}
use Rattle.std.specs.List.{All}
use Rattle.std.proofs.lemmas.Bool.Decides.{nat_tests}
use Rattle.std.proofs.lemmas.List.{length-take-le}
use Rattle.std.proofs.lemmas.List.Elements.{All-cons, All-nil}
use Rattle.byteorder.specs.Endian.{big_bytes, big_number}
use Rattle.mesh_base.specs.Vlan.{untagged}
use Rattle.mesh_base.specs.declared.address.Mac.{Mac}
use Rattle.mesh_model.specs.declared.service.Fact.{Fact}
use Rattle.mesh_model.specs.Packets.Ethernet.{EtherFrame, ether_frame_of}
use Rattle.mesh_model.specs.Packets.Numbers.{alfred_ethertype}
use Rattle.mesh_model.specs.Packets.FactMessages.{CameFact, FactMessage, HasPart, Primary, Requests, HasEnd, end_of, fact_before, fact_head, fact_message_of, facts_of, facts_within, front_fact, has_fitting_length, longest_rest, message_in_frame, message_of_kind, part_of, request_of, told_bytes}
use Rattle.mesh_model.specs.Services.Parts.{part_room}
use Rattle.mesh_messages.specs.Laws.{GoesInPart}

-- ---- facts in bytes

-- the facts that were read, if any, have room in a part
abbrev HaveRoom : Option (List Fact) → Type 0
HaveRoom None = ⊤
HaveRoom (Some facts) = All GoesInPart facts

-- a whole fact in front of bytes has room where they have
front_room : (bytes : List ℕ) → fact_head + told_bytes bytes ≤ length bytes → length bytes ≤ part_room → GoesInPart (front_fact bytes)
front_room bytes whole few =
    let fact = front_fact bytes in
    let own = fact.bytes in
    let source : length fact.source.0 ≡ 6 = length-take-le 6 bytes (omega (arith, whole)) in
    let told : length own ≡ told_bytes bytes = length-take-le (told_bytes bytes) (drop fact_head bytes) (omega (arith, whole, length-drop fact_head bytes)) in
    let head = fact.source.0 ++ fact.type_no ∷ fact.version ∷ big_bytes 2 (length own) in
    record {
      whole = source;
      fits = omega (arith, whole, few, source, told, length-append head own, length-append fact.source.0 (fact.type_no ∷ fact.version ∷ big_bytes 2 (length own)));
    }

room_before : (fact : Fact) (rest : Option (List Fact)) → GoesInPart fact → HaveRoom rest → HaveRoom (fact_before fact rest)
room_before fact None one others = tt
room_before fact (Some facts) one others = All-cons GoesInPart fact facts one others

-- the facts in front of which one is read, by whether it is cut
room_by : (bytes : List ℕ) (rest : Option (List Fact)) (cut : Bool) → nat_lt (length bytes) (fact_head + told_bytes bytes) ≡ cut → length bytes ≤ part_room → HaveRoom rest
    → HaveRoom (if cut then None else fact_before (front_fact bytes) rest)
room_by bytes rest true is few others = tt
room_by bytes rest false is few others =
    room_before (front_fact bytes) rest (front_room bytes (grind (arith, nat_tests, is)) few) others

within_room : (more : ℕ) (bytes : List ℕ) → length bytes ≤ part_room → HaveRoom (facts_within more bytes)
unfolding facts_within
within_room zero bytes few =
    elim (length bytes == 0) as (λ (none : Bool). HaveRoom (if none then Some [] else None)) [ true ↦ All-nil GoesInPart | false ↦ tt ]
within_room (suc more) bytes few =
    let size = fact_head + told_bytes bytes in
    let cut = nat_lt (length bytes) size in
    let rest = facts_within more (drop size bytes) in
    let others = within_room more (drop size bytes) (omega (arith, few, length-drop size bytes)) in
    let all = room_by bytes rest cut refl few others in
    elim (length bytes == 0) as (λ (none : Bool). HaveRoom (if none then Some [] else if cut then None else fact_before (front_fact bytes) rest)) [ true ↦ All-nil GoesInPart | false ↦ all ]

-- ---- messages

-- the facts of a message have room in a part
abbrev BringsRoom : FactMessage → Type 0
BringsRoom (HasPart push id number facts) = All GoesInPart facts
BringsRoom Primary = ⊤
BringsRoom (Requests id type_no) = ⊤
BringsRoom (HasEnd push id count) = ⊤

-- so do those of one that was read, if any
abbrev IfBringsRoom : Option FactMessage → Type 0
IfBringsRoom None = ⊤
IfBringsRoom (Some message) = BringsRoom message

abbrev IfCameRoom : Option CameFact → Type 0
IfCameRoom None = ⊤
IfCameRoom (Some came) = BringsRoom came.message

part_with : (push : Bool) (id number : ℕ) (facts : Option (List Fact)) → HaveRoom facts → IfBringsRoom (option_map (HasPart push id number) facts)
part_with push id number None room = tt
part_with push id number (Some facts) room = room

part_room-of : (push : Bool) (rest : List ℕ) → length rest ≤ longest_rest → IfBringsRoom (part_of push rest)
part_room-of push rest few =
    let id = big_number 2 rest in
    let number = big_number 2 (drop 2 rest) in
    let facts = facts_of (drop 4 rest) in
    let brings = part_with push id number facts (within_room (length (drop 4 rest)) (drop 4 rest) (omega (arith, few, length-drop 4 rest))) in
    elim (nat_lt (length rest) 4) as (λ (short : Bool). IfBringsRoom (if short then None else option_map (HasPart push id number) facts)) [ true ↦ tt | false ↦ brings ]

end_room : (push : Bool) (rest : List ℕ) → IfBringsRoom (end_of push rest)
end_room push rest =
    elim (length rest == 4) as (λ (four : Bool). IfBringsRoom (if four then Some (HasEnd push (big_number 2 rest) (big_number 2 (drop 2 rest))) else None)) [ true ↦ tt | false ↦ tt ]

request_room : (rest : List ℕ) → IfBringsRoom (request_of rest)
request_room rest =
    elim (length rest == 3) as (λ (three : Bool). IfBringsRoom (if three then Some (Requests (big_number 2 rest) (slice_index rest 2)) else None)) [ true ↦ tt | false ↦ tt ]

primary_room : (rest : List ℕ) → IfBringsRoom (if length rest == 0 then Some Primary else None)
primary_room rest = elim (length rest == 0) as (λ (none : Bool). IfBringsRoom (if none then Some Primary else None)) [ true ↦ tt | false ↦ tt ]

-- one of two messages
either : (test : Bool) (one other : Option FactMessage) → IfBringsRoom one → IfBringsRoom other → IfBringsRoom (if test then one else other)
either true one other first second = first
either false one other first second = second

kind_room : (kind : ℕ) (rest : List ℕ) → length rest ≤ longest_rest → IfBringsRoom (message_of_kind kind rest)
kind_room kind rest few =
    either (kind == 0) _ _ (part_room-of true rest few)
    (either (kind == 1) _ _ (primary_room rest)
    (either (kind == 2) _ _ (request_room rest)
    (either (kind == 3) _ _ (end_room true rest)
    (either (kind == 4) _ _ (part_room-of false rest few)
    (either (kind == 5) _ _ (end_room false rest) tt)))))

came_from : (sender : Mac) (message : Option FactMessage) → IfBringsRoom message → IfCameRoom (option_map (λ (m : FactMessage). record { sender = sender; message = m }) message)
came_from sender None brings = tt
came_from sender (Some message) brings = brings

-- the message of a frame, by whether it is one
frame_by : (frame : EtherFrame) (fits : Bool) → ((frame.vid.0 == untagged) && has_fitting_length frame.rest) ≡ fits
    → IfCameRoom (if fits then option_map (λ (m : FactMessage). record { sender = frame.src; message = m }) (message_of_kind (slice_index frame.rest 0) (drop 4 frame.rest)) else None)
frame_by frame true is =
    let few : length frame.rest ≤ 4 + longest_rest = grind (arith, nat_tests, is) in
    came_from frame.src (message_of_kind (slice_index frame.rest 0) (drop 4 frame.rest)) (kind_room (slice_index frame.rest 0) (drop 4 frame.rest) (omega (arith, few, length-drop 4 frame.rest)))
frame_by frame false is = tt

frame_room : (frame : Option EtherFrame) → IfCameRoom (option_and_then message_in_frame frame)
frame_room None = tt
frame_room (Some frame) = frame_by frame ((frame.vid.0 == untagged) && has_fitting_length frame.rest) refl

pub sent_on : (bytes : List ℕ) (sender : Mac) (push : Bool) (id number : ℕ) (facts : List Fact) → fact_message_of bytes ≡ Some (record { sender = sender; message = HasPart push id number facts }) → All GoesInPart facts
sent_on bytes sender push id number facts is = subst IfCameRoom is (frame_room (ether_frame_of alfred_ethertype bytes))
