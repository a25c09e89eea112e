-- What a node keeps of the fact store goes on to be kept so, with each input: what is taken came, or a
-- line put it.
use Rattle.std.proofs.Common.{◌≡◌, ℕ, Bool, true, false, cond, List, [], ◌∷◌, Option, Some, None, refl, sym, subst}
use Rattle.std.specs.List.{AllByRecursion}
use Rattle.mesh_base.specs.declared.address.Mac.{Mac}
use Rattle.mesh_model.specs.declared.line_form.AlfredMode.{AlfredMode}
use Rattle.mesh_model.specs.declared.line_form.AlfredMode.TheVariants.{Off, Primary as IsPrimary, Secondary}
use Rattle.mesh_model.specs.declared.packet.Head.{Head}
use Rattle.mesh_model.specs.declared.service.Fact.{Fact}
use Rattle.mesh_model.specs.Clients.Log.{LineGiven, Attach, Frame, Gone, Join, Leave, Arp, Dhcp, Sets, Put, Get, Ping, Trace, Reboot, Log}
use Rattle.mesh_model.specs.Clients.Mentions.{key_of}
use Rattle.mesh_model.specs.Clients.Settings.{Setting, Wifi, Gateway, Multicast, ArpTable, FactStore, Pictures, LongestWhole}
use Rattle.mesh_model.specs.Knowledge.FactStore.{after_answering, after_brought, after_closing, after_fact_message, after_push, after_store_message, after_whole_push, closed_by, txn_call, with_fact, with_facts}
use Rattle.mesh_model.specs.Knowledge.Known.{Knowledge}
use Rattle.mesh_model.specs.Knowledge.Pairs.{after_asking, after_came, after_question, is_asked, with_ask, with_learned}
use Rattle.mesh_model.specs.Fragments.Assembly.{PartCall}
use Rattle.mesh_model.specs.Knowledge.PutTogether.{fact_carried, put_together, with_part}
use Rattle.mesh_model.specs.Knowledge.Served.{FactRequest}
use Rattle.mesh_model.specs.Knowledge.Steps.{after_call, after_frame, after_sighting, line_knowledge, with_set}
use Rattle.mesh_model.specs.Packets.ArpMessages.{ArpCame, Asks, Puts, Tells}
use Rattle.mesh_model.specs.Packets.FactMessages.{CameFact, FactMessage, HasPart, Primary, Requests, HasEnd, fact_message_of}
use Rattle.mesh_model.specs.Routes.Queries.{Queries}
use Rattle.mesh_model.specs.Services.ArpTable.{AskedFor}
use Rattle.mesh_model.specs.Services.Facts.{CameFrom}
use Rattle.mesh_model.specs.Services.Transactions.{APart, AnEnd, TxnCall, made_whole}
use Rattle.mesh_laws.proofs.KeptLemmas.{HasCome, brings, call_kept, frame_kept, get_kept, has_payload, head_part, joins, kept_of, leaves, stores}
use Rattle.mesh_tie.proofs.FactActs.{Came}
use Rattle.mesh_tie.proofs.FactLemmas.{CallBrings, Holds, MessageHas, Stores, holds_of, whole_has}

-- what a node keeps stays as it was
pub same_stores : (D : Mac → Type 0) (F : Holds) (before after : Knowledge) → kept_of after ≡ kept_of before → Stores D F (kept_of before) → Stores D F (kept_of after)
same_stores D F before after same s = subst (Stores D F) (sym same) s

stores_if : (D : Mac → Type 0) (F : Holds) (b : Bool) (one other : Knowledge) → Stores D F (kept_of one) → Stores D F (kept_of other) → Stores D F (kept_of (cond b one other))
stores_if D F true one other s t = s
stores_if D F false one other s t = t

-- ---- messages
facts_stored : (D : Mac → Type 0) (F : Holds) (now : ℕ) (sender : Mac) (facts : List Fact) (known : Knowledge) → AllByRecursion F.pushed facts → Stores D F (kept_of known) → Stores D F (kept_of (with_facts now sender facts known))
facts_stored D F now sender [] known all s = s
facts_stored D F now sender (fact ∷ facts) known all s =
    facts_stored D F now sender facts (with_fact (CameFrom now sender fact) known) all.1 (record { primaries = s.primaries; facts = (all.0, s.facts); pushes = s.pushes; answers = s.answers })

push_stored : (D : Mac → Type 0) (F : Holds) (call : TxnCall) (known : Knowledge) → CallBrings F.pushed call → Stores D F (kept_of known) → Stores D F (kept_of (after_push call known))
push_stored D F call known has s = go (made_whole call known.services.pushes) (λ facts is. whole_has F.pushed call known.services.pushes facts has s.pushes is)
  where
    more : Knowledge
    more = record known { services = record known.services { pushes = call ∷ known.services.pushes } }

    kept : Stores D F (kept_of more)
    kept = record { primaries = s.primaries; facts = s.facts; pushes = (has, s.pushes); answers = s.answers }

    go : (o : Option (List Fact)) → ((facts : List Fact) → o ≡ Some facts → AllByRecursion F.pushed facts) → Stores D F (kept_of (after_whole_push call.moment call.sender o more))
    go None all = kept
    go (Some facts) all = facts_stored D F call.moment call.sender facts more (all facts refl) kept

answering_stored : (D : Mac → Type 0) (F : Holds) (call : TxnCall) (known : Knowledge) → CallBrings F.answered call → Stores D F (kept_of known) → Stores D F (kept_of (after_answering call known))
answering_stored D F call known has s = go (closed_by call known.services)
  where
    more : Knowledge
    more = record known { services = record known.services { answers = call ∷ known.services.answers } }

    go : (o : Option FactRequest) → Stores D F (kept_of (after_closing o more))
    go None = record { primaries = s.primaries; facts = s.facts; pushes = s.pushes; answers = (has, s.answers) }
    go (Some request) = record { primaries = s.primaries; facts = s.facts; pushes = s.pushes; answers = (has, s.answers) }

brought_stored : (D : Mac → Type 0) (F : Holds) (mode : AlfredMode) (push : Bool) (call : TxnCall) (known : Knowledge) → CallBrings (holds_of F push) call → Stores D F (kept_of known) → Stores D F (kept_of (after_brought mode push call known))
brought_stored D F Off push call known has s = s
brought_stored D F IsPrimary true call known has s = push_stored D F call known has s
brought_stored D F IsPrimary false call known has s = answering_stored D F call known has s
brought_stored D F Secondary true call known has s = s
brought_stored D F Secondary false call known has s = answering_stored D F call known has s

store_stored : (D : Mac → Type 0) (F : Holds) (mode : AlfredMode) (now : ℕ) (sender : Mac) (message : FactMessage) (known : Knowledge) → D sender → MessageHas F message → Stores D F (kept_of known)
    → Stores D F (kept_of (after_store_message mode now sender message known))
store_stored D F mode now sender (HasPart push id number facts) known whole has s = brought_stored D F mode push (txn_call now sender id (APart number facts)) known has s
store_stored D F Off now sender Primary known whole has s = s
store_stored D F IsPrimary now sender Primary known whole has s = record { primaries = (whole, s.primaries); facts = s.facts; pushes = s.pushes; answers = s.answers }
store_stored D F Secondary now sender Primary known whole has s = record { primaries = (whole, s.primaries); facts = s.facts; pushes = s.pushes; answers = s.answers }
store_stored D F mode now sender (Requests id type_no) known whole has s = s
store_stored D F mode now sender (HasEnd push id count) known whole has s = brought_stored D F mode push (txn_call now sender id (AnEnd count)) known tt s

message_stored : (D : Mac → Type 0) (F : Holds) (now : ℕ) (o : Option CameFact) (known : Knowledge) → ((came : CameFact) → o ≡ Some came → Came D F came) → Stores D F (kept_of known) → Stores D F (kept_of (after_fact_message now o known))
message_stored D F now None known c s = s
message_stored D F now (Some came) known c s =
    let one = c came refl in
    store_stored D F known.services.settings.fact_store now came.sender came.message known one.sender one.message s

-- ---- packets
arp_stored : (D : Mac → Type 0) (F : Holds) (now : ℕ) (came : Option ArpCame) (known : Knowledge) → Stores D F (kept_of known) → Stores D F (kept_of (after_came now came known))
arp_stored D F now None known s = s
arp_stored D F now (Some (Puts m)) known s = record { primaries = s.primaries; facts = s.facts; pushes = s.pushes; answers = s.answers }
arp_stored D F now (Some (Asks m)) known s = s
arp_stored D F now (Some (Tells m)) known s = record { primaries = s.primaries; facts = s.facts; pushes = s.pushes; answers = s.answers }

pub packet_stored : (D : Mac → Type 0) (F : Holds) (now : ℕ) (head : Head) (tail : List ℕ) (known after : Knowledge) → HasCome now head tail known after
    → (has_payload head ≡ true → head_part now head tail ≡ None → (came : CameFact) → fact_message_of tail ≡ Some came → Came D F came)
    → ((call : PartCall) → head_part now head tail ≡ Some call → (came : CameFact) → fact_carried (put_together call known.parts) ≡ Some came → Came D F came)
    → Stores D F (kept_of known) → Stores D F (kept_of after)
packet_stored D F now head tail known _ (leaves after same) c j s = same_stores D F known after same s
packet_stored D F now head tail known _ (joins call payload is) c j s =
    message_stored D F call.moment (fact_carried (put_together call known.parts)) (with_part call known) (j call is) (record { primaries = s.primaries; facts = s.facts; pushes = s.pushes; answers = s.answers })
packet_stored D F now head tail known _ (brings came) c j s = stores_if D F known.services.settings.arp_table (after_came now came known) known (arp_stored D F now came known s) s
packet_stored D F now head tail known _ (stores told before payload uncut of same) c j s =
    message_stored D F now told before (λ came is. c payload uncut came (of came is)) (same_stores D F known before same s)

-- ---- lines
question_stored : (D : Mac → Type 0) (F : Holds) (q : Queries) (me : Mac) (now : ℕ) (mac : Mac) (own_ip asked_ip : ℕ) (vid : Rattle.mesh_base.specs.declared.client.Vid.Vid) (known : Knowledge) → Stores D F (kept_of known)
    → Stores D F (kept_of (after_question q me now mac own_ip asked_ip vid known))
question_stored D F q me now mac own_ip asked_ip vid known s =
    let learned = with_learned now own_ip vid mac known in
    let kept : Stores D F (kept_of learned) = record { primaries = s.primaries; facts = s.facts; pushes = s.pushes; answers = s.answers } in
    stores_if D F known.services.settings.arp_table (after_asking q me now asked_ip vid learned) known
    (stores_if D F (is_asked q me learned now asked_ip vid) (with_ask (AskedFor asked_ip vid) learned) learned (record { primaries = s.primaries; facts = s.facts; pushes = s.pushes; answers = s.answers }) kept) s

set_stored : (D : Mac → Type 0) (F : Holds) (setting : Setting) (known : Knowledge) → Stores D F (kept_of known) → Stores D F (kept_of (with_set setting known))
set_stored D F (Wifi on) known s = record { primaries = s.primaries; facts = s.facts; pushes = s.pushes; answers = s.answers }
set_stored D F (Gateway part) known s = record { primaries = s.primaries; facts = s.facts; pushes = s.pushes; answers = s.answers }
set_stored D F (Multicast flags) known s = record { primaries = s.primaries; facts = s.facts; pushes = s.pushes; answers = s.answers }
set_stored D F (ArpTable on) known s = record { primaries = s.primaries; facts = s.facts; pushes = s.pushes; answers = s.answers }
set_stored D F (FactStore mode) known s = record { primaries = s.primaries; facts = s.facts; pushes = s.pushes; answers = s.answers }
set_stored D F (LongestWhole size) known s = record { primaries = s.primaries; facts = s.facts; pushes = s.pushes; answers = s.answers }
set_stored D F (Pictures on) known s = record { primaries = s.primaries; facts = s.facts; pushes = s.pushes; answers = s.answers }

-- it holds of the fact that a line puts
abbrev pub PutHas : Holds → Mac → LineGiven → Type 0
PutHas F me line = (type_no version : ℕ) (bytes : List ℕ) → line ≡ Put type_no version bytes → F.pushed (record { source = me; type_no = type_no; version = version; bytes = bytes })

pub line_stored : (D : Mac → Type 0) (F : Holds) (q : Queries) (me : Mac) (older : Log) (known : Knowledge) (now : ℕ) (line : LineGiven) → PutHas F me line → Stores D F (kept_of known) → Stores D F (kept_of (line_knowledge q me older known now line))
line_stored D F q me older known now (Attach lan gateways) put s = s
line_stored D F q me older known now (Frame src dst vid text) put s =
    let seen = after_sighting q me older now (key_of src vid) known in
    same_stores D F seen (after_frame q now (key_of dst vid) seen) (frame_kept q now (key_of dst vid) seen) (same_stores D F known seen refl s)
line_stored D F q me older known now (Gone key) put s = s
line_stored D F q me older known now (Join key) put s = s
line_stored D F q me older known now (Leave key) put s = s
line_stored D F q me older known now (Arp mac own_ip asked_ip vid) put s =
    let seen = after_sighting q me older now (key_of mac vid) known in
    question_stored D F q me now mac own_ip asked_ip vid seen (same_stores D F known seen refl s)
line_stored D F q me older known now (Dhcp key text) put s =
    let seen = after_sighting q me older now key known in
    same_stores D F seen (after_call q now seen) (call_kept q now seen) (same_stores D F known seen refl s)
line_stored D F q me older known now (Sets setting) put s = set_stored D F setting known s
line_stored D F q me older known now (Put type_no version text) put s = record { primaries = s.primaries; facts = (put type_no version text refl, s.facts); pushes = s.pushes; answers = s.answers }
line_stored D F q me older known now (Get type_no) put s =
    same_stores D F known (Rattle.mesh_model.specs.Knowledge.FactStore.after_get q now type_no known.services.settings.fact_store known) (get_kept q now type_no known.services.settings.fact_store known) s
line_stored D F q me older known now (Ping target) put s = s
line_stored D F q me older known now (Trace target) put s = s
line_stored D F q me older known now Reboot put s = record { primaries = tt; facts = tt; pushes = tt; answers = tt }
