-- How what a node keeps of the fact store stands for what it knows of it. The main word is
-- `StoreStands`.
use Rattle.std.specs.Prelude.{◌≡◌, ◌≤◌, ◌%◌, ◌^◌, ℕ, List, ◌∷◌, fold, Option, Some, None}
use Rattle.mesh_base.specs.declared.address.Mac.{Mac}
use Rattle.mesh_model.specs.declared.service.Fact.{Fact}
use Rattle.mesh_model.specs.Knowledge.Known.{Knowledge}
use Rattle.mesh_model.specs.Knowledge.Served.{FactRequest, PrimaryCall, Services}
use Rattle.mesh_model.specs.Services.Facts.{CameFrom, FactCall}
use Rattle.mesh_model.specs.Services.Transactions.{TxnCall}
use Rattle.alfred_core.specs.Facts.{FactsStand}
use Rattle.alfred_core.specs.Transactions.{TransactionsStand, newest_moment}
use Rattle.alfred_store.specs.PrimariesStand.{PrimariesStand}
use Rattle.alfred_store.specs.RequestsStand.{RequestsStand}
use Rattle.alfred_store.specs.declared.store.Store as kept_store

-- what a node knows of the store: the primaries that announced themselves; the facts that were put
-- or came; the messages of pushes and of answers; the requests that are open; and how many ids were
-- taken
pub record KnownStore : Type 0 where
  pub primaries : List PrimaryCall
  pub facts : List FactCall
  pub pushes : List TxnCall
  pub answers : List TxnCall
  pub requests : List FactRequest
  pub ids : ℕ

-- that of what is known of services
abbrev pub store_of : Services → KnownStore
store_of services = record {
  primaries = services.primaries;
  facts = services.facts;
  pushes = services.pushes;
  answers = services.answers;
  requests = services.requests;
  ids = services.ids;
}

-- that of all that is known
abbrev pub store_in : Knowledge → KnownStore
store_in known = store_of known.services

-- what is kept is that of the node of an address
pub record StoreStands (kept : kept_store.Store) (me : Mac) (known : KnownStore) : Type 0 where
  pub facts : FactsStand kept.facts me known.facts
  pub primaries : PrimariesStand kept.primaries known.primaries
  pub pushes : TransactionsStand kept.pushes known.pushes
  pub answers : TransactionsStand kept.answers known.answers
  pub requests : RequestsStand kept.requests known.requests
  pub ids : kept.ids ≡ known.ids % 2 ^ 16

-- no message of a transaction came after a moment
pub record IsBefore (known : KnownStore) (now : ℕ) : Type 0 where
  pub pushes : newest_moment known.pushes ≤ now
  pub answers : newest_moment known.answers ≤ now

-- facts with those that a sender sent, where some came
abbrev pub taken_calls : ℕ → Mac → Option (List Fact) → List FactCall → List FactCall
taken_calls now sender None calls = calls
taken_calls now sender (Some facts) calls =
    fold (λ before fact. CameFrom now sender fact ∷ before) calls facts
