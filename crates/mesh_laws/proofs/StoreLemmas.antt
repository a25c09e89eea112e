-- What comes of the fact store leaves what a node knows otherwise.
use Rattle.std.proofs.Common.{◌≡◌, ℕ, Bool, true, false, cond, List, [], ◌∷◌, Option, Some, None, refl}
use Rattle.mesh_base.specs.declared.address.Mac.{Mac}
use Rattle.mesh_base.specs.declared.client.Entry.{Entry}
use Rattle.mesh_model.specs.declared.line_form.AlfredMode.{AlfredMode}
use Rattle.mesh_model.specs.declared.line_form.AlfredMode.TheVariants.{Off, Primary as IsPrimary, Secondary}
use Rattle.mesh_model.specs.declared.service.Fact.{Fact}
use Rattle.mesh_model.specs.Clients.Settings.{Settings}
use Rattle.mesh_model.specs.Fragments.Assembly.{PartCall}
use Rattle.mesh_model.specs.Knowledge.FactStore.{after_answering, after_asking_for, after_brought, after_closing, after_fact_message, after_get, after_push, after_round, after_store_message, after_whole_push, chosen_primary, closed_by, txn_call, with_fact, with_facts}
use Rattle.mesh_model.specs.Knowledge.Known.{Knowledge}
use Rattle.mesh_model.specs.Knowledge.Served.{FactRequest, Offered}
use Rattle.mesh_model.specs.Knowledge.Steps.{after_round_at, after_tick, before_round, before_telling}
use Rattle.mesh_model.specs.Marks.Calls.{Calls}
use Rattle.mesh_model.specs.Packets.FactMessages.{CameFact, FactMessage, HasPart, Primary, Requests, HasEnd}
use Rattle.mesh_model.specs.Routes.Queries.{Queries}
use Rattle.mesh_model.specs.Routes.RouteLog.{RouteLog, is_round}
use Rattle.mesh_model.specs.Services.Transactions.{APart, AnEnd, TxnCall, made_whole}
use Rattle.mesh_model.specs.Services.ArpTable.{Learned, PairCall}
use Rattle.mesh_model.specs.Services.Facts.{CameFrom}
use Rattle.mesh_model.specs.Tables.Known.{TableCalls}

-- what a node knows besides the fact store
pub record Rest : Type 0 where
  pub routes : RouteLog
  pub tables : TableCalls
  pub marks : Calls
  pub settings : Settings
  pub offers : List Offered
  pub choice : Option Mac
  pub learned : List Learned
  pub asks : List PairCall
  pub parts : List PartCall

abbrev pub rest_of : Knowledge → Rest
rest_of known = record {
  routes = known.routes;
  tables = known.tables;
  marks = known.marks;
  settings = known.services.settings;
  offers = known.services.offers;
  choice = known.services.choice;
  learned = known.services.learned;
  asks = known.services.asks;
  parts = known.parts;
}

-- the store leaves it
abbrev pub LeavesRest : Knowledge → Knowledge → Type 0
LeavesRest before after = rest_of after ≡ rest_of before

-- ---- facts
facts_rest : (now : ℕ) (sender : Mac) (facts : List Fact) (known : Knowledge) → LeavesRest known (with_facts now sender facts known)
facts_rest now sender [] known = refl
facts_rest now sender (fact ∷ facts) known = facts_rest now sender facts (with_fact (CameFrom now sender fact) known)

whole_rest : (now : ℕ) (sender : Mac) (o : Option (List Fact)) (known : Knowledge) → LeavesRest known (after_whole_push now sender o known)
whole_rest now sender None known = refl
whole_rest now sender (Some facts) known = facts_rest now sender facts known

push_rest : (call : TxnCall) (known : Knowledge) → LeavesRest known (after_push call known)
push_rest call known = whole_rest call.moment call.sender (made_whole call known.services.pushes) (record known {
  services = record known.services { pushes = call ∷ known.services.pushes };
})

-- ---- requests and answers
closing_rest : (o : Option FactRequest) (known : Knowledge) → LeavesRest known (after_closing o known)
closing_rest None known = refl
closing_rest (Some request) known = refl

answering_rest : (call : TxnCall) (known : Knowledge) → LeavesRest known (after_answering call known)
answering_rest call known = closing_rest (closed_by call known.services) (record known {
  services = record known.services { answers = call ∷ known.services.answers };
})

pub get_rest : (q : Queries) (now type_no : ℕ) (mode : AlfredMode) (known : Knowledge) → LeavesRest known (after_get q now type_no mode known)
get_rest q now type_no Off known = refl
get_rest q now type_no IsPrimary known = refl
get_rest q now type_no Secondary known = go (chosen_primary q known now)
  where
    go : (o : Option Mac) → LeavesRest known (after_asking_for type_no o known)
    go None = refl
    go (Some primary) = refl

-- ---- messages
brought_rest : (mode : AlfredMode) (push : Bool) (call : TxnCall) (known : Knowledge) → LeavesRest known (after_brought mode push call known)
brought_rest Off push call known = refl
brought_rest IsPrimary true call known = push_rest call known
brought_rest IsPrimary false call known = answering_rest call known
brought_rest Secondary true call known = refl
brought_rest Secondary false call known = answering_rest call known

store_rest : (mode : AlfredMode) (now : ℕ) (sender : Mac) (message : FactMessage) (known : Knowledge) → LeavesRest known (after_store_message mode now sender message known)
store_rest mode now sender (HasPart push id number facts) known = brought_rest mode push (txn_call now sender id (APart number facts)) known
store_rest Off now sender Primary known = refl
store_rest IsPrimary now sender Primary known = refl
store_rest Secondary now sender Primary known = refl
store_rest mode now sender (Requests id type_no) known = refl
store_rest mode now sender (HasEnd push id count) known = brought_rest mode push (txn_call now sender id (AnEnd count)) known

pub message_rest : (now : ℕ) (o : Option CameFact) (known : Knowledge) → LeavesRest known (after_fact_message now o known)
message_rest now None known = refl
message_rest now (Some came) known = store_rest known.services.settings.fact_store now came.sender came.message known

-- ---- the round
round_rest : (q : Queries) (now : ℕ) (mode : AlfredMode) (known : Knowledge) → LeavesRest known (after_round q now mode known)
round_rest q now Off known = refl
round_rest q now IsPrimary known = refl
round_rest q now Secondary known = refl

pub round_at_rest : (q : Queries) (now index : ℕ) (known : Knowledge) → LeavesRest known (after_round_at q now index known)
round_at_rest q now index known = go (is_round index)
  where
    go : (b : Bool) → LeavesRest known (cond b (after_round q now known.services.settings.fact_store known) known)
    go true = round_rest q now known.services.settings.fact_store known
    go false = refl

-- so it is after a tick, with the picture that may be put before facts are told
pub tick_rest : (q : Queries) (me : Mac) (now index : ℕ) (table : List Entry) (known : Knowledge)
    → LeavesRest (before_round q now index known) (after_tick q me now index table known)
tick_rest q me now index table known = round_at_rest q now index (before_telling q me now index table known)
