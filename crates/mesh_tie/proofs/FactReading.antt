-- How messages of the fact store are read: they are no client frames, their sender is a whole address,
-- and the facts in them are those with which they were spelled.
use Rattle.std.proofs.Common.{◌≡◌, ◌<◌, ◌≤◌, ◌+◌, ◌==◌, ◌&&◌, ℕ, zero, suc, Bool, true, false, cond, nat_lt, List, [], ◌∷◌, ◌++◌, length, take, drop, flat_map, Option, Some, None, option_map, refl, sym, ap, subst, ◌∙◌, arith}
use Rattle.std.specs.List.{AllByRecursion}
use Rattle.std.proofs.lemmas.Grind.{common_steps}
use Rattle.std.proofs.Math.Seq.{drop-append_seam, take-append_seam}
use Rattle.byteorder.specs.Endian.{big_bytes, big_number}
use Rattle.byteorder.specs.Numbers.{big_number-reads_back}
use Rattle.mesh_base.specs.declared.address.Mac.{Mac}
use Rattle.mesh_model.specs.declared.service.Fact.{Fact}
use Rattle.mesh_model.specs.Packets.Ethernet.{EtherFrame, address_in, ether_frame_of, frame_behind, frame_by_type, tagged_frame}
use Rattle.mesh_model.specs.Packets.FactMessages.{CameFact, FactMessage, HasPart, Primary, Requests, HasEnd, fact_before, fact_message_of, fact_message_spelling, fact_spelling, facts_of, facts_within, front_fact, has_fitting_length, kind_of, message_in_frame, message_of_kind, rest_spelling, told_bytes}
use Rattle.mesh_model.specs.Packets.Numbers.{alfred_ethertype, client_ethertype, vlan_ethertype}
use Rattle.mesh_model.specs.Packets.Payload.{ClientFrame, client_frame, client_frame_of, payload_spelling}
use Rattle.mesh_tie.specs.Sources.{IsWhole}
use Rattle.mesh_tie.proofs.EtherReading.{IfFrom, addresses_dropped, frame_from, from_whole, other_type, type_begins}
use Rattle.mesh_tie.proofs.FactLemmas.{Fits, Holds, MessageHas, fitting_facts, holds_of}
use Rattle.mesh_tie.proofs.HeadLemmas.{mac6, six}

-- ---- other payloads
-- a message is no client frame
pub message_no_frame : (dst src : Mac) (message : FactMessage) (frame : ClientFrame) → IsWhole dst → IsWhole src → client_frame_of (fact_message_spelling dst src message) ≡ Some frame → ⊥
message_no_frame dst src message frame whole also is =
    let rest = kind_of message ∷ 0 ∷ big_bytes 2 (length (rest_spelling message)) ++ rest_spelling message in
    let none = ap (option_map client_frame) (other_type client_ethertype alfred_ethertype dst src (record { 0 = 0 }) rest (record { fits = omega arith; other = refl; own = refl }) whole also) in
    let both : ◌≡◌ {A = Option ClientFrame} None (Some frame) = sym none ∙ is in
    cc

-- a client frame is no message
pub frame_no_message : (frame : ClientFrame) (came : CameFact) → IsWhole frame.dst → IsWhole frame.src → fact_message_of (payload_spelling frame) ≡ Some came → ⊥
frame_no_message frame came whole also is = go (ether_frame_of alfred_ethertype (payload_spelling frame)) (other_type alfred_ethertype client_ethertype frame.dst frame.src frame.vid frame.text (record { fits = omega arith; other = refl; own = refl }) whole also) is
  where
    go : (o : Option EtherFrame) → o ≡ None → Rattle.std.specs.Prelude.option_and_then message_in_frame o ≡ Some came → ⊥
    go None none e = cc
    go (Some one) none e = cc

-- ---- the sender
in_frame_sender : (one : EtherFrame) (came : CameFact) → message_in_frame one ≡ Some came → one.src ≡ came.sender
in_frame_sender one came is = go ((one.vid.0 == 0) && has_fitting_length one.rest) (message_of_kind (Rattle.std.specs.Prelude.slice_index one.rest 0) (drop 4 one.rest)) is
  where
    go : (b : Bool) (o : Option FactMessage) → cond b (option_map (λ message. record { sender = one.src; message = message }) o) None ≡ Some came → one.src ≡ came.sender
    go true None e = cc
    go true (Some message) e = let same : record { sender = one.src; message = message } ≡ came = cc in ap (λ (c : CameFact). c.sender) same
    go false o e = cc

pub sender_whole : (bytes : List ℕ) (came : CameFact) → fact_message_of bytes ≡ Some came → IsWhole came.sender
sender_whole bytes came is = go (ether_frame_of alfred_ethertype bytes) (frame_from alfred_ethertype bytes) is
  where
    go : (o : Option EtherFrame) → IfFrom bytes o → Rattle.std.specs.Prelude.option_and_then message_in_frame o ≡ Some came → IsWhole came.sender
    go None from e = cc
    go (Some one) from e = subst IsWhole (in_frame_sender one came e) (from_whole bytes one (from one refl)).1

-- ---- facts
drop_more : (n m : ℕ) (xs : List ℕ) → drop (n + m) xs ≡ drop m (drop n xs)
drop_more n m xs = grind (arith, common_steps)

-- the first of the facts that bytes spell
pub record HasFront (fact : Fact) (more : List ℕ) : Type 0 where
  pub fact_is : front_fact (fact_spelling fact ++ more) ≡ fact
  pub more_is : drop (10 + told_bytes (fact_spelling fact ++ more)) (fact_spelling fact ++ more) ≡ more

front_by : (a b c d e f type_no version : ℕ) (bytes more : List ℕ) → length bytes < 65536 → HasFront (record { source = mac6 a b c d e f; type_no = type_no; version = version; bytes = bytes }) more
front_by a b c d e f type_no version bytes more short = record {
  fact_is = ap (λ (n : ℕ). record { source = mac6 a b c d e f; type_no = type_no; version = version; bytes = take n (bytes ++ more) }) told
      ∙ ap (λ (xs : List ℕ). record { source = mac6 a b c d e f; type_no = type_no; version = version; bytes = xs }) (take-append_seam bytes more);
  more_is = ap (λ (n : ℕ). drop (10 + n) all) told ∙ drop_more 10 (length bytes) all ∙ drop-append_seam bytes more;
}
  where
    all : List ℕ
    all = fact_spelling (record { source = mac6 a b c d e f; type_no = type_no; version = version; bytes = bytes }) ++ more

    told : told_bytes (fact_spelling (record { source = mac6 a b c d e f; type_no = type_no; version = version; bytes = bytes }) ++ more) ≡ length bytes
    told = big_number-reads_back 2 (length bytes) (bytes ++ more) short

front_has : (fact : Fact) (more : List ℕ) → IsWhole fact.source → length fact.bytes < 65536 → HasFront fact more
front_has fact more whole short =
    let s = six fact.source whole in
    subst (λ (m : Mac). HasFront (record { source = m; type_no = fact.type_no; version = fact.version; bytes = fact.bytes }) more) (sym s.is)
    (front_by s.a s.b s.c s.d s.e s.f fact.type_no fact.version fact.bytes more short)

short_bytes : (fact : Fact) → length (fact_spelling fact) ≤ 1396 → length fact.bytes < 65536
short_bytes fact fits = grind (arith, common_steps, fits)

-- facts that are read are those that were spelled
facts_back : (F : Fact → Type 0) → ((fact : Fact) → F fact → IsWhole fact.source) → (n : ℕ) (facts found : List Fact) → AllByRecursion (Fits F) facts → facts_within n (flat_map fact_spelling facts) ≡ Some found → AllByRecursion F found
unfolding facts_within
facts_back F whole zero facts found all is = go (length (flat_map fact_spelling facts) == 0) is
  where
    go : (b : Bool) → cond b (Some []) None ≡ Some found → AllByRecursion F found
    go true e = let same : [] ≡ found = cc in subst (AllByRecursion F) same tt
    go false e = cc
facts_back F whole (suc n) [] found all is = let same : [] ≡ found = cc in subst (AllByRecursion F) same tt
facts_back F whole (suc n) (fact ∷ rest) found all is = go (λ more q. facts_back F whole n rest more all.1 q) (length bytes == 0) (nat_lt (length bytes) (10 + told_bytes bytes)) is
  where
    bytes : List ℕ
    bytes = fact_spelling fact ++ flat_map fact_spelling rest

    front : HasFront fact (flat_map fact_spelling rest)
    front = front_has fact (flat_map fact_spelling rest) (whole fact all.0.0) (short_bytes fact all.0.1)

    by : (o : Option (List Fact)) → fact_before fact o ≡ Some found → ((more : List Fact) → o ≡ Some more → AllByRecursion F more) → AllByRecursion F found
    by None e more = cc
    by (Some facts) e more = let same : fact ∷ facts ≡ found = cc in subst (AllByRecursion F) same (all.0.0, more facts refl)

    read : fact_before (front_fact bytes) (facts_within n (drop (10 + told_bytes bytes) bytes)) ≡ fact_before fact (facts_within n (flat_map fact_spelling rest))
    read = ap (λ (f : Fact). fact_before f (facts_within n (drop (10 + told_bytes bytes) bytes))) front.fact_is
        ∙ ap (λ (xs : List ℕ). fact_before fact (facts_within n xs)) front.more_is

    go : ((more : List Fact) → facts_within n (flat_map fact_spelling rest) ≡ Some more → AllByRecursion F more) → (b c : Bool) → cond b (Some []) (cond c None (fact_before (front_fact bytes) (facts_within n (drop (10 + told_bytes bytes) bytes)))) ≡ Some found → AllByRecursion F found
    go others true c e = let same : [] ≡ found = cc in subst (AllByRecursion F) same tt
    go others false true e = cc
    go others false false e = by (facts_within n (flat_map fact_spelling rest)) (sym read ∙ e) others

-- what holds of facts holds of those from whole addresses alone
abbrev pub AreFromWhole : Holds → Type 0
AreFromWhole F = (push : Bool) (fact : Fact) → holds_of F push fact → IsWhole fact.source

-- ---- messages
part_back : (F : Holds) → AreFromWhole F → (push : Bool) (id number : ℕ) (facts : List Fact) (found : FactMessage) → AllByRecursion (Fits (holds_of F push)) facts
    → Rattle.mesh_model.specs.Packets.FactMessages.part_of push (rest_spelling (HasPart push id number facts)) ≡ Some found → MessageHas F found
part_back F whole push id number facts found all is = go (nat_lt (length rest) 4) (facts_of body) refl is
  where
    body : List ℕ
    body = flat_map fact_spelling facts

    rest : List ℕ
    rest = rest_spelling (HasPart push id number facts)

    go : (b : Bool) (o : Option (List Fact)) → facts_of body ≡ o → cond b None (option_map (HasPart push (big_number 2 rest) (big_number 2 (drop 2 rest))) o) ≡ Some found → MessageHas F found
    go true o read e = cc
    go false None read e = cc
    go false (Some some) read e =
        let same : HasPart push (big_number 2 rest) (big_number 2 (drop 2 rest)) some ≡ found = cc in
        subst (MessageHas F) same (facts_back (holds_of F push) (whole push) (length body) facts some all read)

end_none : (F : Holds) (push : Bool) (rest : List ℕ) (found : FactMessage) → Rattle.mesh_model.specs.Packets.FactMessages.end_of push rest ≡ Some found → MessageHas F found
end_none F push rest found is = go (length rest == 4) is
  where
    go : (b : Bool) → cond b (Some (HasEnd push (big_number 2 rest) (big_number 2 (drop 2 rest)))) None ≡ Some found → MessageHas F found
    go true e = let same : HasEnd push (big_number 2 rest) (big_number 2 (drop 2 rest)) ≡ found = cc in subst (MessageHas F) same tt
    go false e = cc

request_back : (F : Holds) (id type_no : ℕ) (found : FactMessage) → F.asked type_no → Rattle.mesh_model.specs.Packets.FactMessages.request_of (rest_spelling (Requests id type_no)) ≡ Some found → MessageHas F found
request_back F id type_no found asked is = go (length rest == 3) is
  where
    rest : List ℕ
    rest = rest_spelling (Requests id type_no)

    one : FactMessage
    one = Requests (big_number 2 rest) (Rattle.std.specs.Prelude.slice_index rest 2)

    go : (b : Bool) → cond b (Some one) None ≡ Some found → MessageHas F found
    go true e = let same : one ≡ found = cc in subst (MessageHas F) same asked
    go false e = cc

kind_back : (F : Holds) → AreFromWhole F → (message found : FactMessage) → MessageHas (fitting_facts F) message → message_of_kind (kind_of message) (rest_spelling message) ≡ Some found → MessageHas F found
kind_back F whole (HasPart true id number facts) found all is = part_back F whole true id number facts found all is
kind_back F whole (HasPart false id number facts) found all is = part_back F whole false id number facts found all is
kind_back F whole Primary found all is = let same : Primary ≡ found = cc in subst (MessageHas F) same tt
kind_back F whole (Requests id type_no) found all is = request_back F id type_no found all is
kind_back F whole (HasEnd true id count) found all is = end_none F true (rest_spelling (HasEnd true id count)) found is
kind_back F whole (HasEnd false id count) found all is = end_none F false (rest_spelling (HasEnd false id count)) found is

in_frame_back : (F : Holds) → AreFromWhole F → (one : EtherFrame) (message : FactMessage) (came : CameFact) → MessageHas (fitting_facts F) message
    → one.rest ≡ kind_of message ∷ 0 ∷ big_bytes 2 (length (rest_spelling message)) ++ rest_spelling message → message_in_frame one ≡ Some came → MessageHas F came.message
in_frame_back F whole one message came all rest_is is =
    go ((one.vid.0 == 0) && has_fitting_length one.rest) (message_of_kind (Rattle.std.specs.Prelude.slice_index one.rest 0) (drop 4 one.rest))
    (ap (λ (xs : List ℕ). message_of_kind (Rattle.std.specs.Prelude.slice_index xs 0) (drop 4 xs)) rest_is) is
  where
    go : (b : Bool) (o : Option FactMessage) → o ≡ message_of_kind (kind_of message) (rest_spelling message) → cond b (option_map (λ m. record { sender = one.src; message = m }) o) None ≡ Some came → MessageHas F came.message
    go true None read e = cc
    go true (Some found) read e =
        let same : record { sender = one.src; message = found } ≡ came = cc in
        subst (λ (c : CameFact). MessageHas F c.message) same (kind_back F whole message found all (sym read))
    go false o read e = cc

-- what is read of a message that was spelled
pub message_back : (F : Holds) → AreFromWhole F → (dst src : Mac) (message : FactMessage) (came : CameFact) → IsWhole dst → IsWhole src → MessageHas (fitting_facts F) message
    → fact_message_of (fact_message_spelling dst src message) ≡ Some came → MessageHas F came.message
message_back F fact_whole dst src message came whole also all is = go (nat_lt (length bytes) 12) (sym at ∙ is)
  where
    rest : List ℕ
    rest = kind_of message ∷ 0 ∷ big_bytes 2 (length (rest_spelling message)) ++ rest_spelling message

    bytes : List ℕ
    bytes = fact_message_spelling dst src message

    after : List ℕ
    after = big_bytes 2 alfred_ethertype ++ rest

    one : EtherFrame
    one = record { dst = address_in 0 bytes; src = address_in 6 bytes; vid = record { 0 = 0 }; rest = rest }

    not_tagged : frame_by_type alfred_ethertype bytes after ≡ frame_behind alfred_ethertype bytes (record { 0 = 0 }) after
    not_tagged = ap (λ (b : Bool). cond b (tagged_frame alfred_ethertype bytes (drop 2 after)) (frame_behind alfred_ethertype bytes (record { 0 = 0 }) after)) (type_begins vlan_ethertype alfred_ethertype rest (omega arith))

    found : frame_behind alfred_ethertype bytes (record { 0 = 0 }) after ≡ Some one
    found = ap (λ (b : Bool). cond b (Some one) None) (type_begins alfred_ethertype alfred_ethertype rest (omega arith))

    typed : frame_by_type alfred_ethertype bytes (drop 12 bytes) ≡ Some one
    typed = ap (frame_by_type alfred_ethertype bytes) (addresses_dropped alfred_ethertype dst src (record { 0 = 0 }) rest whole also) ∙ not_tagged ∙ found

    at : fact_message_of bytes ≡ Rattle.std.specs.Prelude.option_and_then message_in_frame (cond (nat_lt (length bytes) 12) None (Some one))
    at = ap (λ (o : Option EtherFrame). Rattle.std.specs.Prelude.option_and_then message_in_frame (cond (nat_lt (length bytes) 12) None o)) typed

    go : (b : Bool) → Rattle.std.specs.Prelude.option_and_then message_in_frame (cond b None (Some one)) ≡ Some came → MessageHas F came.message
    go true e = cc
    go false e = in_frame_back F fact_whole one message came all refl e
