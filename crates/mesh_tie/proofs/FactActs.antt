-- What the rows of the fact store put: its messages, to all nodes or to one, and events of facts.
use Rattle.std.proofs.Common.{◌≡◌, ◌%◌, nat_lt, ℕ, suc, Bool, true, false, cond, List, [], ◌∷◌, length, map, Option, Some, None, refl}
use Rattle.std.specs.List.{AllByRecursion}
use Rattle.mesh_base.specs.declared.address.Mac.{Mac}
use Rattle.mesh_base.specs.declared.event.Event.TheVariants.{Alfred}
use Rattle.mesh_base.specs.declared.event.FactResult.{FactResult}
use Rattle.mesh_base.specs.declared.event.FactResult.TheVariants.{Off as OffTold, NoPrimary, Empty, Fact as FactTold}
use Rattle.mesh_base.specs.declared.event.Reason.TheVariants.{Alfred as ByAlfred}
use Rattle.mesh_model.specs.declared.act.Act.{Act}
use Rattle.mesh_model.specs.declared.act.Act.TheVariants.{Print}
use Rattle.mesh_model.specs.declared.line_form.AlfredMode.{AlfredMode}
use Rattle.mesh_model.specs.declared.line_form.AlfredMode.TheVariants.{Off, Primary as IsPrimary, Secondary}
use Rattle.mesh_model.specs.declared.packet.Head.TheVariants.{Bcast, Unicast}
use Rattle.mesh_model.specs.declared.service.Fact.{Fact}
use Rattle.mesh_model.specs.Acts.BridgeRows.{Place}
use Rattle.mesh_model.specs.Acts.FactRows.{alone, answer_told, brought_acts, fact_acts, fact_line, fact_round_acts, facts_told, get_acts, get_by, message_came, messages_over, messages_to, part_round, push_acts, pushed_to, request_to, requested_acts, whole_answer}
use Rattle.mesh_model.specs.Acts.Packing.{sent_to, sent_to_all}
use Rattle.mesh_model.specs.Knowledge.FactStore.{chosen_primary, facts_marked, facts_of_type, is_at_first_hand, is_own, next_id, open_request, reached_primaries, txn_call}
use Rattle.mesh_model.specs.Knowledge.Known.{Knowledge}
use Rattle.mesh_model.specs.Knowledge.Served.{FactRequest}
use Rattle.mesh_model.specs.Packets.Ethernet.{all_stations}
use Rattle.mesh_model.specs.Packets.FactMessages.{CameFact, FactMessage, HasPart, Primary, Requests, HasEnd, fact_message_spelling}
use Rattle.mesh_model.specs.Packets.Numbers.{first_ttl}
use Rattle.mesh_model.specs.Routes.Queries.{Queries}
use Rattle.mesh_model.specs.Routes.RouteLog.{is_round}
use Rattle.mesh_model.specs.Services.Parts.{transaction_messages}
use Rattle.mesh_model.specs.Services.Transactions.{APart, AnEnd, TxnCall, made_whole}
use Rattle.mesh_laws.proofs.KeptLemmas.{kept_of}
use Rattle.mesh_tie.proofs.EntryLemmas.{each_appended}
use Rattle.mesh_tie.proofs.FactLemmas.{CallBrings, Holds, MessageHas, Stores, any_facts, any_message, any_stores, chosen_whole, fitting_facts, holds_of, marked_have, messages_have, reached_whole, typed_have, whole_has}

-- what is told is no fact
abbrev pub IsNoFact : FactResult → Type 0
IsNoFact OffTold = Unit {0}
IsNoFact NoPrimary = Unit {0}
IsNoFact Empty = Unit {0}
IsNoFact (FactTold source version text) = ⊥

-- an act of the store of a node, where something holds of the facts in it
pub data IsStoring (D : Mac → Type 0) (F : Holds) (me : Mac) : Act → Type 0 where
  sends_message : (next dst : Mac) (message : FactMessage) → D dst → MessageHas (fitting_facts F) message → IsStoring D F me (sent_to next (Some ByAlfred) (Unicast first_ttl 0 dst) (fact_message_spelling dst me message))
  sends_announcement : (number : ℕ) → IsStoring D F me (sent_to_all (Bcast first_ttl number me) (fact_message_spelling all_stations me Primary))
  tells_fact : (type_no : ℕ) (fact : Fact) → F.answered fact → IsStoring D F me (Print (Alfred me type_no (FactTold fact.source fact.version fact.bytes)))
  tells_none : (type_no : ℕ) (result : FactResult) → IsNoFact result → IsStoring D F me (Print (Alfred me type_no result))

abbrev pub AreStoring : (Mac → Type 0) → Holds → Mac → List Act → Type 0
AreStoring D F me acts = AllByRecursion (IsStoring D F me) acts

-- what holds of each such act holds of all of them
pub each_storing : (D : Mac → Type 0) (F : Holds) (me : Mac) (R : Act → Type 0) → ((act : Act) → IsStoring D F me act → R act) → (acts : List Act) → AreStoring D F me acts → AllByRecursion R acts
each_storing D F me R one [] all = tt
each_storing D F me R one (act ∷ acts) all = (one act all.0, each_storing D F me R one acts all.1)

storing_if : (D : Mac → Type 0) (F : Holds) (me : Mac) (b : Bool) (xs ys : List Act) → AreStoring D F me xs → AreStoring D F me ys → AreStoring D F me (cond b xs ys)
storing_if D F me true xs ys a b = a
storing_if D F me false xs ys a b = b

-- ---- messages
over_puts : (D : Mac → Type 0) (F : Holds) (at : Place) (dst next : Mac) (messages : List FactMessage) → D dst → AllByRecursion (MessageHas (fitting_facts F)) messages → AreStoring D F at.me (messages_over (Some next) at dst messages)
over_puts D F at dst next [] whole all = tt
over_puts D F at dst next (message ∷ rest) whole all = (sends_message next dst message whole all.0, over_puts D F at dst next rest whole all.1)

to_puts : (D : Mac → Type 0) (F : Holds) (q : Queries) (known : Knowledge) (at : Place) (dst : Mac) (messages : List FactMessage) → D dst → AllByRecursion (MessageHas (fitting_facts F)) messages → AreStoring D F at.me (messages_to q known at dst messages)
to_puts D F q known at dst messages whole all = go (q.route known.routes at.now dst)
  where
    go : (o : Option Mac) → AreStoring D F at.me (messages_over o at dst messages)
    go None = tt
    go (Some next) = over_puts D F at dst next messages whole all

-- ---- the round
pushed_puts : (D : Mac → Type 0) (F : Holds) (q : Queries) (known : Knowledge) (at : Place) (facts : List Fact) (taken : ℕ) (nodes : List Mac) → AllByRecursion F.pushed facts → AllByRecursion D nodes → AreStoring D F at.me (pushed_to q known at facts taken nodes)
pushed_puts D F q known at facts taken [] all whole = tt
pushed_puts D F q known at facts taken (dst ∷ rest) all whole =
    let messages = transaction_messages true (suc taken % 65536) facts in
    each_appended (IsStoring D F at.me) (messages_to q known at dst messages) (pushed_to q known at facts (suc taken) rest)
    (to_puts D F q known at dst messages whole.0 (messages_have F true (suc taken % 65536) facts all)) (pushed_puts D F q known at facts (suc taken) rest all whole.1)

push_puts : (D : Mac → Type 0) (F : Holds) (q : Queries) (known : Knowledge) (at : Place) (facts : List Fact) (nodes : List Mac) → AllByRecursion F.pushed facts → AllByRecursion D nodes → AreStoring D F at.me (push_acts q known at facts nodes)
push_puts D F q known at facts nodes all whole =
    storing_if D F at.me (nat_lt 0 (length facts)) (pushed_to q known at facts known.services.ids nodes) [] (pushed_puts D F q known at facts known.services.ids nodes all whole) tt

alone_whole : (D : Mac → Type 0) (o : Option Mac) → ((mac : Mac) → o ≡ Some mac → D mac) → AllByRecursion D (alone o)
alone_whole D None one = tt
alone_whole D (Some mac) one = (one mac refl, tt)

part_puts : (D : Mac → Type 0) (F : Holds) (q : Queries) (known : Knowledge) (at : Place) (mode : AlfredMode) → Stores D F (kept_of known) → AreStoring D F at.me (part_round q known at mode)
part_puts D F q known at Off s = tt
part_puts D F q known at IsPrimary s = (
  sends_announcement (suc known.sent),
  push_puts D F q known at (facts_marked is_at_first_hand known.services at.now) (reached_primaries q known at.now) (marked_have D F is_at_first_hand known at.now s) (reached_whole q known at.now D F s),
)
part_puts D F q known at Secondary s =
    push_puts D F q known at (facts_marked is_own known.services at.now) (alone (chosen_primary q known at.now)) (marked_have D F is_own known at.now s)
    (alone_whole D (chosen_primary q known at.now) (chosen_whole q known at.now D F s))

pub fact_round_puts : (D : Mac → Type 0) (F : Holds) (q : Queries) (known : Knowledge) (at : Place) (index : ℕ) → Stores D F (kept_of known) → AreStoring D F at.me (fact_round_acts q known at index)
unfolding fact_round_acts
fact_round_puts D F q known at index s =
    let mode = known.services.settings.fact_store in
    storing_if D F at.me (is_round index) (part_round q known at mode) [] (part_puts D F q known at mode s) tt

-- ---- questions
lines_put : (D : Mac → Type 0) (F : Holds) (at : Place) (type_no : ℕ) (facts : List Fact) → AllByRecursion F.answered facts → AreStoring D F at.me (map (fact_line at type_no) facts)
lines_put D F at type_no [] all = tt
lines_put D F at type_no (fact ∷ rest) all = (tells_fact type_no fact all.0, lines_put D F at type_no rest all.1)

told_puts : (D : Mac → Type 0) (F : Holds) (at : Place) (type_no : ℕ) (facts : List Fact) → AllByRecursion F.answered facts → AreStoring D F at.me (facts_told at type_no facts)
told_puts D F at type_no [] all = (tells_none type_no Empty tt, tt)
told_puts D F at type_no (fact ∷ rest) all = lines_put D F at type_no (fact ∷ rest) all

request_puts : (D : Mac → Type 0) (F : Holds) (q : Queries) (known : Knowledge) (at : Place) (type_no : ℕ) (o : Option Mac) → F.asked type_no → ((mac : Mac) → o ≡ Some mac → D mac) → AreStoring D F at.me (request_to q known at type_no o)
request_puts D F q known at type_no None asked whole = (tells_none type_no NoPrimary tt, tt)
request_puts D F q known at type_no (Some primary) asked whole = to_puts D F q known at primary (Requests (next_id known.services) type_no ∷ []) (whole primary refl) (asked, tt)

get_by_puts : (D : Mac → Type 0) (F : Holds) (q : Queries) (known : Knowledge) (at : Place) (type_no : ℕ) (mode : AlfredMode) → F.asked type_no → Stores D F (kept_of known) → AreStoring D F at.me (get_by q known at type_no mode)
get_by_puts D F q known at type_no Off asked s = (tells_none type_no OffTold tt, tt)
get_by_puts D F q known at type_no IsPrimary asked s = told_puts D F at type_no (facts_of_type known.services at.now type_no) (typed_have D F known at.now type_no asked s)
get_by_puts D F q known at type_no Secondary asked s = request_puts D F q known at type_no (chosen_primary q known at.now) asked (chosen_whole q known at.now D F s)

pub get_puts : (D : Mac → Type 0) (F : Holds) (q : Queries) (known : Knowledge) (at : Place) (type_no : ℕ) → F.asked type_no → Stores D F (kept_of known) → AreStoring D F at.me (get_acts q known at type_no)
unfolding get_acts
get_puts D F q known at type_no asked s = get_by_puts D F q known at type_no known.services.settings.fact_store asked s

-- ---- messages that came
answering_puts : (D : Mac → Type 0) (F : Holds) (known : Knowledge) (at : Place) (call : TxnCall) → Stores D F (kept_of known) → CallBrings F.answered call → AreStoring D F at.me (Rattle.mesh_model.specs.Acts.FactRows.answering_acts known.services at call)
answering_puts D F known at call s brings = go (made_whole call known.services.answers) (λ facts is. whole_has F.answered call known.services.answers facts brings s.answers is)
  where
    by : (facts : List Fact) (o : Option FactRequest) → AllByRecursion F.answered facts → AreStoring D F at.me (answer_told at facts o)
    by facts None all = tt
    by facts (Some request) all = told_puts D F at request.type_no facts all

    go : (o : Option (List Fact)) → ((facts : List Fact) → o ≡ Some facts → AllByRecursion F.answered facts) → AreStoring D F at.me (whole_answer known.services at call o)
    go None all = tt
    go (Some facts) all = by facts (open_request known.services.requests call.sender call.id) (all facts refl)

brought_puts : (D : Mac → Type 0) (F : Holds) (known : Knowledge) (at : Place) (mode : AlfredMode) (push : Bool) (call : TxnCall) → Stores D F (kept_of known) → CallBrings (holds_of F push) call → AreStoring D F at.me (brought_acts mode known.services at push call)
brought_puts D F known at Off push call s brings = tt
brought_puts D F known at IsPrimary true call s brings = tt
brought_puts D F known at IsPrimary false call s brings = answering_puts D F known at call s brings
brought_puts D F known at Secondary true call s brings = tt
brought_puts D F known at Secondary false call s brings = answering_puts D F known at call s brings

requested_puts : (D : Mac → Type 0) (F : Holds) (q : Queries) (known : Knowledge) (at : Place) (mode : AlfredMode) (sender : Mac) (id type_no : ℕ) → F.asked type_no → Stores D F (kept_of known) → D sender → AreStoring D F at.me (requested_acts q known at mode sender id type_no)
requested_puts D F q known at Off sender id type_no asked s whole = tt
requested_puts D F q known at IsPrimary sender id type_no asked s whole =
    let facts = facts_of_type known.services at.now type_no in
    to_puts D F q known at sender (transaction_messages false id facts) whole (messages_have F false id facts (typed_have D F known at.now type_no asked s))
requested_puts D F q known at Secondary sender id type_no asked s whole = tt

came_puts : (D : Mac → Type 0) (F : Holds) (q : Queries) (known : Knowledge) (at : Place) (mode : AlfredMode) (sender : Mac) (message : FactMessage) → Stores D F (kept_of known) → D sender → MessageHas F message
    → AreStoring D F at.me (message_came q known at mode sender message)
came_puts D F q known at mode sender (HasPart push id number facts) s whole has = brought_puts D F known at mode push (txn_call at.now sender id (APart number facts)) s has
came_puts D F q known at mode sender Primary s whole has = tt
came_puts D F q known at mode sender (Requests id type_no) s whole has = requested_puts D F q known at mode sender id type_no has s whole
came_puts D F q known at mode sender (HasEnd push id count) s whole has = brought_puts D F known at mode push (txn_call at.now sender id (AnEnd count)) s tt

-- what came is from a whole address, and something holds of its facts
pub record Came (D : Mac → Type 0) (F : Holds) (came : CameFact) : Type 0 where
  pub sender : D came.sender
  pub message : MessageHas F came.message

pub fact_puts : (D : Mac → Type 0) (F : Holds) (q : Queries) (known : Knowledge) (at : Place) (o : Option CameFact) → Stores D F (kept_of known) → ((came : CameFact) → o ≡ Some came → Came D F came) → AreStoring D F at.me (fact_acts q known at o)
unfolding fact_acts
fact_puts D F q known at None s c = tt
fact_puts D F q known at (Some came) s c =
    let one = c came refl in
    came_puts D F q known at known.services.settings.fact_store came.sender came.message s one.sender one.message

-- ---- whatever a node keeps
-- what comes is of the store in any case
any_came : (o : Option CameFact) (came : CameFact) → o ≡ Some came → Came (λ mac. Unit {0}) any_facts came
any_came o came is = record { sender = tt; message = any_message came.message }

abbrev pub Storing : Mac → List Act → Type 0
Storing me acts = AreStoring (λ mac. Unit {0}) any_facts me acts

pub round_stores : (q : Queries) (known : Knowledge) (at : Place) (index : ℕ) → Storing at.me (fact_round_acts q known at index)
round_stores q known at index = fact_round_puts (λ mac. Unit {0}) any_facts q known at index (any_stores (kept_of known))

pub get_stores : (q : Queries) (known : Knowledge) (at : Place) (type_no : ℕ) → Storing at.me (get_acts q known at type_no)
get_stores q known at type_no = get_puts (λ mac. Unit {0}) any_facts q known at type_no tt (any_stores (kept_of known))

pub came_stores : (q : Queries) (known : Knowledge) (at : Place) (o : Option CameFact) → Storing at.me (fact_acts q known at o)
came_stores q known at o = fact_puts (λ mac. Unit {0}) any_facts q known at o (any_stores (kept_of known)) (any_came o)
