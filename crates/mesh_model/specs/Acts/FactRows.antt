-- The rows of the fact store: what a node puts at its round, for a question for facts, and for a
-- message that came to it. In a round a primary announces itself to all, and pushes the facts that
-- it has at first hand to each other primary; a secondary pushes its own to the chosen one. A
-- primary answers a question, and a request, by its live facts of the type; a secondary asks the
-- chosen primary. An answer that is whole is printed where a request is open for it. The main words
-- are `fact_round_acts`, `get_acts` and `fact_acts`.
use Rattle.std.specs.Prelude.{ℕ, suc, ◌%◌, nat_lt, Bool, true, false, List, [], ◌∷◌, ◌++◌, length, map, Option, Some, None, if◌then◌else◌}
use Rattle.mesh_base.specs.declared.address.Mac.{Mac}
use Rattle.mesh_base.specs.declared.event.Event.TheVariants.{Alfred}
use Rattle.mesh_base.specs.declared.event.FactResult.{FactResult}
use Rattle.mesh_base.specs.declared.event.FactResult.TheVariants.{Off as OffTold, NoPrimary, Empty, Fact as FactTold}
use Rattle.mesh_base.specs.declared.event.Reason.TheVariants.{Alfred as ByAlfred}
use Rattle.mesh_model.specs.declared.act.Act.{Act}
use Rattle.mesh_model.specs.declared.act.Act.TheVariants.{Print}
use Rattle.mesh_model.specs.declared.line_form.AlfredMode.{AlfredMode}
use Rattle.mesh_model.specs.declared.line_form.AlfredMode.TheVariants.{Off, Primary as IsPrimary, Secondary}
use Rattle.mesh_model.specs.declared.packet.Head.TheVariants.{Bcast, Unicast}
use Rattle.mesh_model.specs.declared.service.Fact.{Fact}
use Rattle.mesh_model.specs.Acts.BridgeRows.{Place}
use Rattle.mesh_model.specs.Acts.Packing.{sent_to, sent_to_all}
use Rattle.mesh_model.specs.Knowledge.FactStore.{chosen_primary, facts_marked, facts_of_type, ids, is_at_first_hand, is_own, next_id, open_request, reached_primaries, txn_call}
use Rattle.mesh_model.specs.Knowledge.Known.{Knowledge}
use Rattle.mesh_model.specs.Knowledge.Served.{FactRequest, Services}
use Rattle.mesh_model.specs.Packets.Ethernet.{all_stations}
use Rattle.mesh_model.specs.Packets.FactMessages.{CameFact, FactMessage, HasPart, Primary, Requests, HasEnd, fact_message_spelling}
use Rattle.mesh_model.specs.Packets.Numbers.{first_ttl}
use Rattle.mesh_model.specs.Routes.Queries.{Queries}
use Rattle.mesh_model.specs.Routes.RouteLog.{is_round}
use Rattle.mesh_model.specs.Services.Parts.{transaction_messages}
use Rattle.mesh_model.specs.Services.Transactions.{APart, AnEnd, TxnCall, made_whole}

-- ---- messages

-- messages to a node over a neighbour, where one leads there
abbrev pub messages_over : Option Mac → Place → Mac → List FactMessage → List Act
messages_over None at dst messages = []
messages_over (Some next) at dst messages = map (λ (message : FactMessage).
    sent_to next (Some ByAlfred) (Unicast first_ttl 0 dst) (fact_message_spelling dst at.me message))
    messages

-- messages to a node, where a route leads there
abbrev pub messages_to : Queries → Knowledge → Place → Mac → List FactMessage → List Act
messages_to q known at dst messages =
    messages_over (q.route known.routes at.now dst) at dst messages

-- a primary announces itself to all, by the node's next broadcast
abbrev pub announce_act : Knowledge → Place → Act
announce_act known at = sent_to_all (Bcast first_ttl (suc known.sent) at.me)
    (fact_message_spelling all_stations at.me Primary)

-- ---- the round

-- facts are pushed to some nodes, each under the next id behind so many
abbrev pub pushed_to : Queries → Knowledge → Place → List Fact → ℕ → List Mac → List Act
pushed_to q known at facts taken [] = []
pushed_to q known at facts taken (dst ∷ rest) =
    messages_to q known at dst (transaction_messages true (suc taken % ids) facts)
    ++ pushed_to q known at facts (suc taken) rest

-- a push, which isn't sent without facts
abbrev pub push_acts : Queries → Knowledge → Place → List Fact → List Mac → List Act
push_acts q known at facts nodes = if nat_lt 0 (length facts)
    then pushed_to q known at facts known.services.ids nodes else []

-- the node that is chosen, if any, alone
abbrev pub alone : Option Mac → List Mac
alone None = []
alone (Some mac) = mac ∷ []

-- what a node puts in a round, by its part in the store
abbrev pub part_round : Queries → Knowledge → Place → AlfredMode → List Act
part_round q known at Off = []
part_round q known at IsPrimary = announce_act known at
    ∷ push_acts q known at (facts_marked is_at_first_hand known.services at.now)
    (reached_primaries q known at.now)
part_round q known at Secondary = push_acts q known at
    (facts_marked is_own known.services at.now) (alone (chosen_primary q known at.now))

-- what a node puts at a tick of an index, which may begin a round
unfoldable pub fact_round_acts : Queries → Knowledge → Place → ℕ → List Act
fact_round_acts q known at index =
    if is_round index then part_round q known at known.services.settings.fact_store else []

-- ---- questions

-- what came of a question for the facts of a type is printed
abbrev pub fact_told : Place → ℕ → FactResult → Act
fact_told at type_no result = Print (Alfred at.me type_no result)

-- a fact is printed
abbrev pub fact_line : Place → ℕ → Fact → Act
fact_line at type_no fact =
    fact_told at type_no (FactTold fact.source fact.version fact.bytes)

-- the facts that answer a question are printed, or that there is none
abbrev pub facts_told : Place → ℕ → List Fact → List Act
facts_told at type_no [] = fact_told at type_no Empty ∷ []
facts_told at type_no (fact ∷ rest) = map (fact_line at type_no) (fact ∷ rest)

-- a secondary asks the chosen primary, if there is one
abbrev pub request_to : Queries → Knowledge → Place → ℕ → Option Mac → List Act
request_to q known at type_no None = fact_told at type_no NoPrimary ∷ []
request_to q known at type_no (Some primary) =
    messages_to q known at primary (Requests (next_id known.services) type_no ∷ [])

-- a question by the node's part in the store
abbrev pub get_by : Queries → Knowledge → Place → ℕ → AlfredMode → List Act
get_by q known at type_no Off = fact_told at type_no OffTold ∷ []
get_by q known at type_no IsPrimary =
    facts_told at type_no (facts_of_type known.services at.now type_no)
get_by q known at type_no Secondary =
    request_to q known at type_no (chosen_primary q known at.now)

-- a question for the facts of a type
unfoldable pub get_acts : Queries → Knowledge → Place → ℕ → List Act
get_acts q known at type_no = get_by q known at type_no known.services.settings.fact_store

-- ---- messages that came

-- the facts of an answer are printed, where a request is open for it
abbrev pub answer_told : Place → List Fact → Option FactRequest → List Act
answer_told at facts None = []
answer_told at facts (Some request) = facts_told at request.type_no facts

-- the same, where it is whole
abbrev pub whole_answer : Services → Place → TxnCall → Option (List Fact) → List Act
whole_answer services at call None = []
whole_answer services at call (Some facts) =
    answer_told at facts (open_request services.requests call.sender call.id)

-- a message of an answer, which may make it whole
abbrev pub answering_acts : Services → Place → TxnCall → List Act
answering_acts services at call =
    whole_answer services at call (made_whole call services.answers)

-- a message of a transaction: one of a push prints nothing
abbrev pub brought_acts : AlfredMode → Services → Place → Bool → TxnCall → List Act
brought_acts Off services at push call = []
brought_acts IsPrimary services at push call =
    if push then [] else answering_acts services at call
brought_acts Secondary services at push call =
    if push then [] else answering_acts services at call

-- a request, which a primary answers
abbrev pub requested_acts : Queries → Knowledge → Place → AlfredMode → Mac → ℕ → ℕ → List Act
requested_acts q known at Off sender id type_no = []
requested_acts q known at IsPrimary sender id type_no = messages_to q known at sender
    (transaction_messages false id (facts_of_type known.services at.now type_no))
requested_acts q known at Secondary sender id type_no = []

-- a message, by the node's part in the store
abbrev pub message_came : Queries → Knowledge → Place → AlfredMode → Mac → FactMessage → List Act
message_came q known at mode sender (HasPart push id number facts) = brought_acts mode
    known.services at push (txn_call at.now sender id (APart number facts))
message_came q known at mode sender Primary = []
message_came q known at mode sender (Requests id type_no) =
    requested_acts q known at mode sender id type_no
message_came q known at mode sender (HasEnd push id count) =
    brought_acts mode known.services at push (txn_call at.now sender id (AnEnd count))

-- what a packet for this node carries, where it is a message of the store
unfoldable pub fact_acts : Queries → Knowledge → Place → Option CameFact → List Act
fact_acts q known at None = []
fact_acts q known at (Some came) =
    message_came q known at known.services.settings.fact_store came.sender came.message
