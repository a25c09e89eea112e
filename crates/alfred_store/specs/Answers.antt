-- What answers an open request. The main word is `answer_to`.
use Rattle.std.specs.Prelude.{ℕ, List, Option, Some, None, option_and_then, option_map}
use Rattle.mesh_base.specs.declared.address.Mac.{Mac}
use Rattle.mesh_model.specs.declared.service.Fact.{Fact}
use Rattle.mesh_model.specs.Knowledge.FactStore.{open_request}
use Rattle.mesh_model.specs.Knowledge.Served.{FactRequest, Services}
use Rattle.mesh_model.specs.Services.Transactions.{TxnCall, made_whole}
use Rattle.alfred_core.specs.declared.txn.Txn.{Txn}
use Rattle.alfred_core.specs.declared.txn.Txn.TheVariants.{Open, Whole}
use Rattle.alfred_store.specs.declared.answer.Answer.{Answer}
use Rattle.alfred_store.specs.RequestsStand.{without}

-- the type that a request is for, and the facts that came
pub record Answered : Type 0 where
  pub type_no : ℕ
  pub facts : List Fact

-- an answer, as it is seen
abbrev pub answered : Answer → Answered
answered answer = record { type_no = answer.type_no; facts = answer.facts }

-- the facts of a transaction, where it is whole
abbrev pub facts_in : Txn → Option (List Fact)
facts_in (Open have want) = None
facts_in (Whole facts) = Some facts

-- the answer to a request, where one is open, by the facts that came, where they came whole
abbrev pub answer_with : Option FactRequest → Option (List Fact) → Option Answered
answer_with request facts = option_and_then (λ came. option_map
    (λ (one : FactRequest). record { type_no = one.type_no; facts = came }) request) facts

-- the requests that are open still once these facts came, where they came whole
abbrev pub closed_with : Mac → ℕ → Option (List Fact) → List FactRequest → List FactRequest
closed_with sender id None requests = requests
closed_with sender id (Some facts) requests = without (open_request requests sender id) requests

-- the answer to an open request that a message makes whole
abbrev pub answer_to : TxnCall → Services → Option Answered
answer_to call services = answer_with (open_request services.requests call.sender call.id)
    (made_whole call services.answers)
