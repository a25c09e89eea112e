-- What was written is read again.
use Rattle.std.proofs.Common.{◌≡◌, ℕ, ◌+◌, ◌≤◌, List, [], ◌∷◌, ◌++◌, length, take, drop, refl, sym, ap, ap₂, ◌∙◌, arith, Bool, true, false, if◌then◌else◌, Some, None, inl}
use Rattle.std.specs.Prelude.{nat_lt, nat_le, ◌==◌, ◌&&◌, flat_map, option_and_then, option_map, slice_index}
use Rattle.std.specs.List.{All}
use Rattle.std.proofs.lemmas.Bool.Decides.{nat_tests}
use Rattle.std.proofs.lemmas.List.{drop-drop, length-append}
use Rattle.std.proofs.lemmas.List.Elements.{All-head, All-tail}
use Rattle.std.proofs.Math.Seq.{drop-append_seam, take-append_seam}
use Rattle.byteorder.specs.Endian.{big_bytes, big_number}
use Rattle.byteorder.specs.Numbers.{big_number-reads_back}
use Rattle.mesh_base.specs.Address.{mac_size}
use Rattle.mesh_base.specs.Vlan.{untagged}
use Rattle.mesh_base.specs.declared.address.Mac.{Mac}
use Rattle.mesh_model.specs.declared.service.Fact.{Fact}
use Rattle.mesh_model.specs.Packets.Numbers.{alfred_ethertype, arp_ethertype}
use Rattle.mesh_model.specs.Packets.Ethernet.{EtherFrame}
use Rattle.mesh_model.specs.Packets.ArpMessages.{ArpMessage, arp_body, arp_in, arp_message_of, arp_spelling}
use Rattle.mesh_model.specs.Packets.FactMessages.{CameFact, FactMessage, HasPart, Primary, Requests, HasEnd, end_of, fact_before, fact_head, fact_message_of, fact_message_spelling, fact_spelling, facts_of, facts_within, front_fact, has_fitting_length, kind_of, longest_rest, message_in_frame, message_of_kind, part_of, rest_spelling, told_bytes}
use Rattle.mesh_codec.specs.Payloads.{IsOwnType}
use Rattle.mesh_codec.proofs.EtherLemmas.{ether_back}
use Rattle.mesh_messages.specs.Laws.{CanBeAsked, CanBeTold, FitsTwo, IsWhole}
use Rattle.mesh_messages.proofs.FactLemmas.{front_whole}

-- what holds of any six bytes holds of a whole address's
six_bytes : (P : List ℕ → Type 0) (bytes : List ℕ) → length bytes ≡ mac_size → ((a b c d e f : ℕ) → P (a ∷ b ∷ c ∷ d ∷ e ∷ f ∷ [])) → P bytes
six_bytes P [] six holds = absurd (omega (arith, six))
six_bytes P (a ∷ []) six holds = absurd (omega (arith, six))
six_bytes P (a ∷ b ∷ []) six holds = absurd (omega (arith, six))
six_bytes P (a ∷ b ∷ c ∷ []) six holds = absurd (omega (arith, six))
six_bytes P (a ∷ b ∷ c ∷ d ∷ []) six holds = absurd (omega (arith, six))
six_bytes P (a ∷ b ∷ c ∷ d ∷ e ∷ []) six holds = absurd (omega (arith, six))
six_bytes P (a ∷ b ∷ c ∷ d ∷ e ∷ f ∷ []) six holds = holds a b c d e f
six_bytes P (a ∷ b ∷ c ∷ d ∷ e ∷ f ∷ g ∷ more) six holds = absurd (omega (arith, six))

-- ---- ARP

-- the frame that carries a message
abbrev arp_frame : Mac → Mac → ArpMessage → EtherFrame
arp_frame dst src m = record { dst = dst; src = src; vid = m.vid; rest = arp_body m }

-- a message of a sender and a target with these bytes
abbrev between : ArpMessage → List ℕ → List ℕ → ArpMessage
between m sender target = record m { sender = record { 0 = sender }; target = record { 0 = target } }

-- a message is read of its body
abbrev IsBodyBack : Mac → Mac → ArpMessage → Type 0
IsBodyBack dst src m = arp_in (arp_frame dst src m) ≡ Some m

-- where the bytes of its addresses are at hand
six_back : (dst src : Mac) (m : ArpMessage) (a b c d e f g h i j k l : ℕ) → CanBeAsked m → IsBodyBack dst src (between m (a ∷ b ∷ c ∷ d ∷ e ∷ f ∷ []) (g ∷ h ∷ i ∷ j ∷ k ∷ l ∷ []))
six_back dst src m a b c d e f g h i j k l can =
    let one = between m (a ∷ b ∷ c ∷ d ∷ e ∷ f ∷ []) (g ∷ h ∷ i ∷ j ∷ k ∷ l ∷ []) in
    let body = arp_body one in
    let operation = big_number-reads_back 2 m.operation (drop 8 body) can.operation in
    let sender_ip = big_number-reads_back 4 m.sender_ip (drop 18 body) can.sender_ip in
    let target_ip = big_number-reads_back 4 m.target_ip [] can.target_ip in
    ap (λ (n : ℕ). Some (record one { operation = n; sender_ip = big_number 4 (drop 14 body); target_ip = big_number 4 (drop 24 body) })) operation
    ∙ ap₂ (λ (n o : ℕ). Some (record one { sender_ip = n; target_ip = o })) sender_ip target_ip

body_back : (dst src : Mac) (m : ArpMessage) → CanBeAsked m → IsBodyBack dst src m
body_back dst src m can =
    six_bytes (λ (sender : List ℕ). IsBodyBack dst src (between m sender m.target.0)) m.sender.0 can.sender (λ a b c d e f.
    six_bytes (λ (target : List ℕ). IsBodyBack dst src (between m (a ∷ b ∷ c ∷ d ∷ e ∷ f ∷ []) target)) m.target.0 can.target (λ g h i j k l.
    six_back dst src m a b c d e f g h i j k l can))

arp_type : IsOwnType arp_ethertype
arp_type = record { fits = omega arith; no_tag = refl }

pub arp_back : (dst src : Mac) (m : ArpMessage) → IsWhole dst → IsWhole src → CanBeAsked m → arp_message_of (arp_spelling dst src m) ≡ Some m
arp_back dst src m to from can =
    ap (option_and_then arp_in) (ether_back arp_ethertype arp_type (arp_frame dst src m) (record { dst = to; src = from; vid = can.vid }))
    ∙ body_back dst src m can

-- ---- the fact store

-- a fact of a source with these bytes
abbrev from_source : Fact → List ℕ → Fact
from_source fact source = record fact { source = record { 0 = source } }

-- a fact is read before more bytes
abbrev IsFactBack : List ℕ → Fact → Type 0
IsFactBack more fact = facts_of (fact_spelling fact ++ more) ≡ fact_before fact (facts_of more)

-- where the bytes of its source are at hand
six_before : (fact : Fact) (more : List ℕ) (a b c d e f : ℕ) → FitsTwo (length fact.bytes) → IsFactBack more (from_source fact (a ∷ b ∷ c ∷ d ∷ e ∷ f ∷ []))
six_before fact more a b c d e f fits =
    let one = from_source fact (a ∷ b ∷ c ∷ d ∷ e ∷ f ∷ []) in
    let bytes = fact_spelling one ++ more in
    let told : told_bytes bytes ≡ length fact.bytes = big_number-reads_back 2 (length fact.bytes) (fact.bytes ++ more) fits in
    let front : front_fact bytes ≡ one =
    ap (λ (n : ℕ). record one { bytes = take n (fact.bytes ++ more) }) told ∙ ap (λ (own : List ℕ). record one { bytes = own }) (take-append_seam fact.bytes more) in
    let rest : drop (fact_head + told_bytes bytes) bytes ≡ more =
    ap (λ (n : ℕ). drop (fact_head + n) bytes) told ∙ sym (drop-drop (length fact.bytes) fact_head bytes) ∙ drop-append_seam fact.bytes more in
    let whole : fact_head + told_bytes bytes ≤ length bytes = omega (arith, told, length-append fact.bytes more) in
    (front_whole bytes whole).facts ∙ ap₂ (λ (fact : Fact) (rest : List ℕ). fact_before fact (facts_of rest)) front rest

fact_back : (fact : Fact) (more : List ℕ) → IsWhole fact.source → FitsTwo (length fact.bytes) → IsFactBack more fact
fact_back fact more whole fits =
    six_bytes (λ (source : List ℕ). IsFactBack more (from_source fact source)) fact.source.0 whole (λ a b c d e f. six_before fact more a b c d e f fits)

facts_back : (facts : List Fact) → All (λ (fact : Fact). IsWhole fact.source) facts → length (flat_map fact_spelling facts) ≤ longest_rest → facts_of (flat_map fact_spelling facts) ≡ Some facts
unfolding facts_within
facts_back [] whole few = refl
facts_back (fact ∷ facts) whole few =
    let first = fact_spelling fact in
    let more = flat_map fact_spelling facts in
    let sizes = length-append first more in
    let own = length-append (fact.source.0 ++ fact.type_no ∷ fact.version ∷ big_bytes 2 (length fact.bytes)) fact.bytes in
    fact_back fact more (All-head (λ (fact : Fact). IsWhole fact.source) fact facts whole) (omega (arith, few, sizes, own))
    ∙ ap (fact_before fact) (facts_back facts (All-tail (λ (fact : Fact). IsWhole fact.source) fact facts whole) (omega (arith, few, sizes)))

-- the part that a rest is
part_back : (push : Bool) (id number : ℕ) (facts : List Fact) → CanBeTold (HasPart push id number facts) → length (rest_spelling (HasPart push id number facts)) ≤ longest_rest
    → part_of push (rest_spelling (HasPart push id number facts)) ≡ Some (HasPart push id number facts)
part_back push id number facts can few =
    let bytes = flat_map fact_spelling facts in
    let rest = rest_spelling (HasPart push id number facts) in
    let enough : nat_lt (length rest) 4 ≡ false = grind (arith, nat_tests) in
    ap (λ (b : Bool). if b then None else option_map (HasPart push (big_number 2 rest) (big_number 2 (drop 2 rest))) (facts_of bytes)) enough
    ∙ ap (option_map (HasPart push (big_number 2 rest) (big_number 2 (drop 2 rest)))) (facts_back facts can.2 (omega (arith, few)))
    ∙ ap₂ (λ (i n : ℕ). Some (HasPart push i n facts)) (big_number-reads_back 2 id (drop 2 rest) can.0) (big_number-reads_back 2 number bytes can.1)

-- the end that a rest is
end_back : (push : Bool) (id count : ℕ) → CanBeTold (HasEnd push id count) → end_of push (rest_spelling (HasEnd push id count)) ≡ Some (HasEnd push id count)
end_back push id count can =
    ap₂ (λ (i n : ℕ). Some (HasEnd push i n)) (big_number-reads_back 2 id (big_bytes 2 count) can.0) (big_number-reads_back 2 count [] can.1)

-- the message of a kind whose rest this is
kind_back : (message : FactMessage) → CanBeTold message → length (rest_spelling message) ≤ longest_rest → message_of_kind (kind_of message) (rest_spelling message) ≡ Some message
kind_back (HasPart true id number facts) can few = part_back true id number facts can few
kind_back (HasPart false id number facts) can few = part_back false id number facts can few
kind_back Primary can few = refl
kind_back (Requests id type_no) can few = ap (λ (i : ℕ). Some (Requests i type_no)) (big_number-reads_back 2 id (type_no ∷ []) can)
kind_back (HasEnd true id count) can few = end_back true id count can
kind_back (HasEnd false id count) can few = end_back false id count can

-- the frame that carries a message
abbrev alfred_frame : Mac → Mac → FactMessage → EtherFrame
alfred_frame dst src message = record {
  dst = dst;
  src = src;
  vid = record { 0 = untagged };
  rest = kind_of message ∷ 0 ∷ big_bytes 2 (length (rest_spelling message)) ++ rest_spelling message;
}

-- a message whose rest isn't too long tells a length that fits
length_back : (kind : ℕ) (rest : List ℕ) → length rest ≤ longest_rest → has_fitting_length (kind ∷ 0 ∷ big_bytes 2 (length rest) ++ rest) ≡ true
length_back kind rest few =
    let bytes = kind ∷ 0 ∷ big_bytes 2 (length rest) ++ rest in
    let told : big_number 2 (drop 2 bytes) ≡ length rest = big_number-reads_back 2 (length rest) rest (omega (arith, few)) in
    ap (λ (n : ℕ). nat_le 4 (length bytes) && (slice_index bytes 1 == 0) && nat_le n longest_rest && (length bytes == (4 + n))) told
    ∙ grind (arith, nat_tests, few)

alfred_type : IsOwnType alfred_ethertype
alfred_type = record { fits = omega arith; no_tag = refl }

pub fact_message_back : (dst src : Mac) (message : FactMessage) → IsWhole dst → IsWhole src → CanBeTold message → length (rest_spelling message) ≤ longest_rest
    → fact_message_of (fact_message_spelling dst src message) ≡ Some (record { sender = src; message = message })
fact_message_back dst src message to from can few =
    let frame = alfred_frame dst src message in
    let came : FactMessage → CameFact = λ m. record { sender = src; message = m } in
    let found = option_map came (message_of_kind (kind_of message) (rest_spelling message)) in
    ap (option_and_then message_in_frame) (ether_back alfred_ethertype alfred_type frame (record { dst = to; src = from; vid = inl refl }))
    ∙ ap (λ (b : Bool). if b then found else None) (length_back (kind_of message) (rest_spelling message) few)
    ∙ ap (option_map came) (kind_back message can few)
