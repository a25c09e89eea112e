-- What a node knows of the fact store. It ignores all messages while it has no part in it. A primary
-- that announces itself is noted. At a primary the facts of a push are taken once it is whole, all
-- at once. An answer that is whole closes the request to which it belongs: the open one of its id,
-- to its sender. Each push and each request takes the node's next id, of those that go round at
-- 65,536. The main words are `primary_rows`, `after_fact_message`, `after_get` and `after_round`.
use Rattle.std.specs.Prelude.{ℕ, suc, ◌+◌, ◌%◌, ◌-◌, ◌==◌, ◌&&◌, nat_lt, Bool, true, false, not, List, ◌∷◌, filter, filter_map, find, fold, length, map, Option, Some, None, is_some, option_and_then, option_map, if◌then◌else◌}
use Rattle.mesh_base.specs.Ordered.{in_order}
use Rattle.mesh_base.specs.declared.address.Mac.{Mac}
use Rattle.mesh_model.specs.declared.line_form.AlfredMode.{AlfredMode}
use Rattle.mesh_model.specs.declared.line_form.AlfredMode.TheVariants.{Off, Primary as IsPrimary, Secondary}
use Rattle.mesh_model.specs.declared.service.Fact.{Fact}
use Rattle.mesh_model.specs.declared.service.KeptFact.{KeptFact}
use Rattle.mesh_model.specs.declared.service.Mark.{Mark}
use Rattle.mesh_model.specs.declared.service.Mark.TheVariants.{Local, First, Synced}
use Rattle.mesh_model.specs.declared.service.PrimaryRow.{PrimaryRow}
use Rattle.mesh_model.specs.Knowledge.Known.{Knowledge}
use Rattle.mesh_model.specs.Knowledge.Offers.{has_route}
use Rattle.mesh_model.specs.Knowledge.Served.{FactRequest, PrimaryCall, Services}
use Rattle.mesh_model.specs.Packets.FactMessages.{CameFact, FactMessage, HasPart, Primary, Requests, HasEnd}
use Rattle.mesh_model.specs.Routes.Addresses.{mac_order, same_mac}
use Rattle.mesh_model.specs.Routes.Queries.{Queries}
use Rattle.mesh_model.specs.Services.Facts.{FactCall, WasPut, CameFrom, facts_at}
use Rattle.mesh_model.specs.Services.Primaries.{best_primary, primary_age}
use Rattle.mesh_model.specs.Services.Transactions.{Brought, APart, AnEnd, TxnCall, made_whole}

-- how many ids there are; then they go round
abbrev pub ids : ℕ
ids = 65536

-- the next id of a node
abbrev pub next_id : Services → ℕ
next_id services = suc services.ids % ids

-- ---- primaries

-- the primaries that announced themselves, by address
abbrev pub announced_primaries : List PrimaryCall → List Mac
announced_primaries calls = in_order mac_order (map (λ (call : PrimaryCall). call.primary) calls)

-- when a primary announced itself last
abbrev pub last_announced : List PrimaryCall → Mac → Option ℕ
last_announced calls mac = option_map (λ (call : PrimaryCall). call.moment)
    (find (λ (call : PrimaryCall). same_mac call.primary mac) calls)

-- the row of a primary
abbrev pub primary_row : Queries → Knowledge → ℕ → Mac → Option PrimaryRow
primary_row q known now mac = option_map (λ moment. record {
  orig = mac;
  announced = moment;
  metric = q.metric known.routes now mac;
}) (last_announced known.services.primaries mac)

-- the primaries that announced themselves, each with its route's metric
abbrev pub primary_rows : Queries → Knowledge → ℕ → List PrimaryRow
primary_rows q known now = filter_map (primary_row q known now)
    (announced_primaries known.services.primaries)

-- the primary to which a secondary speaks
abbrev pub chosen_primary : Queries → Knowledge → ℕ → Option Mac
chosen_primary q known now = best_primary now (primary_rows q known now)

-- whether a primary is known at a moment, and a route leads to it
abbrev pub is_reached : Queries → Knowledge → ℕ → PrimaryRow → Bool
is_reached q known now row =
    nat_lt (now - row.announced) primary_age && has_route q known now row.orig

-- the known primaries to which a route leads, by address
abbrev pub reached_primaries : Queries → Knowledge → ℕ → List Mac
reached_primaries q known now = map (λ (row : PrimaryRow). row.orig)
    (filter (is_reached q known now) (primary_rows q known now))

-- what is known once a primary announced itself
abbrev pub with_primary : ℕ → Mac → Knowledge → Knowledge
with_primary now mac known = record known {
  services = record known.services {
    primaries = record { moment = now; primary = mac } ∷ known.services.primaries;
  };
}

-- ---- facts

-- whether a fact of this mark is a node's own
abbrev pub is_own : Mark → Bool
is_own Local = true
is_own First = false
is_own Synced = false

-- whether a primary tells a fact of this mark to the others: its source is the node, or told it
abbrev pub is_at_first_hand : Mark → Bool
is_at_first_hand Local = true
is_at_first_hand First = true
is_at_first_hand Synced = false

-- the live facts of the marks that are asked for
abbrev pub facts_marked : (Mark → Bool) → Services → ℕ → List Fact
facts_marked asked services now = map (λ (kept : KeptFact). kept.fact)
    (filter (λ (kept : KeptFact). asked kept.mark) (facts_at services.facts now))

-- the live facts of a type
abbrev pub facts_of_type : Services → ℕ → ℕ → List Fact
facts_of_type services now type_no = filter (λ (fact : Fact). fact.type_no == type_no)
    (map (λ (kept : KeptFact). kept.fact) (facts_at services.facts now))

-- what is known once this came for facts
abbrev pub with_fact : FactCall → Knowledge → Knowledge
with_fact call known = record known {
  services = record known.services { facts = call ∷ known.services.facts };
}

-- what is known once facts came from a sender, one after another
abbrev pub with_facts : ℕ → Mac → List Fact → Knowledge → Knowledge
with_facts now sender facts known =
    fold (λ before fact. with_fact (CameFrom now sender fact) before) known facts

-- what is known after a node put a fact
abbrev pub after_put : Mac → ℕ → ℕ → ℕ → List ℕ → Knowledge → Knowledge
after_put me now type_no version text known = with_fact
    (WasPut now (record { source = me; type_no = type_no; version = version; bytes = text })) known

-- ---- ids

-- what is known once so many ids were taken
abbrev pub with_ids : ℕ → Knowledge → Knowledge
with_ids count known = record known {
  services = record known.services { ids = known.services.ids + count };
}

-- ---- pushes

-- what is known once the facts of a push are taken, where it is whole
abbrev pub after_whole_push : ℕ → Mac → Option (List Fact) → Knowledge → Knowledge
after_whole_push now sender None known = known
after_whole_push now sender (Some facts) known = with_facts now sender facts known

-- what is known after a message of a push
abbrev pub after_push : TxnCall → Knowledge → Knowledge
after_push call known =
    after_whole_push call.moment call.sender (made_whole call known.services.pushes)
    (record known {
      services = record known.services { pushes = call ∷ known.services.pushes };
    })

-- ---- requests and answers

-- requests without that of an id
abbrev pub without_request : ℕ → List FactRequest → List FactRequest
without_request id requests = filter (λ (one : FactRequest). not (one.id == id)) requests

-- the open request to which an answer from a sender under an id belongs
abbrev pub open_request : List FactRequest → Mac → ℕ → Option FactRequest
open_request requests sender id =
    find (λ (one : FactRequest). (one.id == id) && same_mac one.primary sender) requests

-- what is known once a request is open, which closes that of its id
abbrev pub with_request : FactRequest → Knowledge → Knowledge
with_request request known = record known {
  services = record known.services {
    requests = request ∷ without_request request.id known.services.requests;
  };
}

-- what is known once the open request to which an answer belongs, if any, is closed
abbrev pub after_closing : Option FactRequest → Knowledge → Knowledge
after_closing None known = known
after_closing (Some request) known = record known {
  services = record known.services {
    requests = without_request request.id known.services.requests;
  };
}

-- the open request that a message of an answer makes whole
abbrev pub closed_by : TxnCall → Services → Option FactRequest
closed_by call services = option_and_then
    (λ (facts : List Fact). open_request services.requests call.sender call.id)
    (made_whole call services.answers)

-- what is known after a message of an answer
abbrev pub after_answering : TxnCall → Knowledge → Knowledge
after_answering call known = after_closing (closed_by call known.services) (record known {
  services = record known.services { answers = call ∷ known.services.answers };
})

-- what is known once the primary that is chosen, if any, is asked for the facts of a type
abbrev pub after_asking_for : ℕ → Option Mac → Knowledge → Knowledge
after_asking_for type_no None known = known
after_asking_for type_no (Some primary) known = with_ids 1 (with_request
    (record { id = next_id known.services; primary = primary; type_no = type_no }) known)

-- what is known after a question for the facts of a type, by the node's part in the store
abbrev pub after_get : Queries → ℕ → ℕ → AlfredMode → Knowledge → Knowledge
after_get q now type_no Off known = known
after_get q now type_no IsPrimary known = known
after_get q now type_no Secondary known =
    after_asking_for type_no (chosen_primary q known now) known

-- ---- messages

-- a message of a transaction
abbrev pub txn_call : ℕ → Mac → ℕ → Brought → TxnCall
txn_call now sender id brought =
    record { moment = now; sender = sender; id = id; brought = brought }

-- what is known after a message of a transaction: of a push at a primary, or of an answer
abbrev pub after_brought : AlfredMode → Bool → TxnCall → Knowledge → Knowledge
after_brought Off push call known = known
after_brought IsPrimary push call known =
    if push then after_push call known else after_answering call known
after_brought Secondary push call known =
    if push then known else after_answering call known

-- what is known after a primary announced itself
abbrev pub after_announced : AlfredMode → ℕ → Mac → Knowledge → Knowledge
after_announced Off now mac known = known
after_announced IsPrimary now mac known = with_primary now mac known
after_announced Secondary now mac known = with_primary now mac known

-- what is known after a message, by the node's part in the store
abbrev pub after_store_message : AlfredMode → ℕ → Mac → FactMessage → Knowledge → Knowledge
after_store_message mode now sender (HasPart push id number facts) known =
    after_brought mode push (txn_call now sender id (APart number facts)) known
after_store_message mode now sender Primary known = after_announced mode now sender known
after_store_message mode now sender (Requests id type_no) known = known
after_store_message mode now sender (HasEnd push id count) known =
    after_brought mode push (txn_call now sender id (AnEnd count)) known

-- the same, where one came
abbrev pub after_fact_message : ℕ → Option CameFact → Knowledge → Knowledge
after_fact_message now None known = known
after_fact_message now (Some came) known = after_store_message known.services.settings.fact_store
    now came.sender came.message known

-- what came, where its message announces a primary
abbrev pub announcing : CameFact → FactMessage → Option CameFact
announcing came (HasPart push id number facts) = None
announcing came Primary = Some came
announcing came (Requests id type_no) = None
announcing came (HasEnd push id count) = None

-- what came, where it announces a primary
abbrev pub if_announces : CameFact → Option CameFact
if_announces came = announcing came came.message

-- ---- the round

-- to how many primaries a primary pushes in a round: to each that is reached, where it has a fact
abbrev pub pushes_of_primary : Queries → Knowledge → ℕ → ℕ
pushes_of_primary q known now =
    if nat_lt 0 (length (facts_marked is_at_first_hand known.services now))
    then length (reached_primaries q known now) else 0

-- the same for a secondary: to the chosen primary
abbrev pub pushes_of_secondary : Queries → Knowledge → ℕ → ℕ
pushes_of_secondary q known now =
    if nat_lt 0 (length (facts_marked is_own known.services now))
    && is_some (chosen_primary q known now) then 1 else 0

-- what is known after a round, by the node's part in the store
abbrev pub after_round : Queries → ℕ → AlfredMode → Knowledge → Knowledge
after_round q now Off known = known
after_round q now IsPrimary known =
    with_ids (pushes_of_primary q known now) (record known { sent = suc known.sent })
after_round q now Secondary known = with_ids (pushes_of_secondary q known now) known
