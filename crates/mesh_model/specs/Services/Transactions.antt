-- The transactions in which facts come, each known by its sender and its id. One is open from its
-- first message until it is whole, or 60,000 ms passed. It is whole where its first end and all
-- parts below that end's count came, in any order and however often; its facts are those of the
-- first copy of each part, in order of number. The main words are `transaction` and `whole_facts`.
use Rattle.std.specs.Prelude.{ℕ, zero, suc, ◌-◌, ◌==◌, ◌&&◌, nat_lt, List, [], ◌∷◌, ◌++◌, find, Option, Some, None, is_some, option_map, option_and_then, if◌then◌else◌}
use Rattle.std.specs.Option.{option_or}
use Rattle.mesh_base.specs.declared.address.Mac.{Mac}
use Rattle.mesh_model.specs.declared.service.Fact.{Fact}
use Rattle.mesh_model.specs.Routes.Addresses.{same_mac}

-- what a message brings: a part, or the end with how many parts there are
pub data Brought : Type 0 where
  APart : (number : ℕ) → (facts : List Fact) → Brought
  AnEnd : (count : ℕ) → Brought

-- a message of a transaction
pub record TxnCall : Type 0 where
  pub moment : ℕ
  pub sender : Mac
  pub id : ℕ
  pub brought : Brought

-- a part that came
pub record Part : Type 0 where
  pub number : ℕ
  pub facts : List Fact

-- an open transaction: when it was opened, the first copy of each part, in the order in which they
-- came, and how many there are, where its end came
pub record Transaction : Type 0 where
  pub opened : ℕ
  pub parts : List Part
  pub count : Option ℕ

-- how long a transaction stays open, in milliseconds
abbrev pub transaction_age : ℕ
transaction_age = 60000

-- the part of a number
abbrev pub part_at : List Part → ℕ → Option Part
part_at parts number = find (λ (part : Part). part.number == number) parts

-- a transaction with what a message brings
abbrev pub with_brought : Brought → Transaction → Transaction
with_brought (APart number facts) before = if is_some (part_at before.parts number) then before
    else record before { parts = before.parts ++ record { number = number; facts = facts } ∷ [] }
with_brought (AnEnd count) before = record before { count = option_or before.count (Some count) }

-- the facts of the first parts, so many, in order of number; none where one is missing
abbrev pub facts_below : List Part → ℕ → Option (List Fact)
facts_below parts zero = Some []
facts_below parts (suc number) = option_and_then
    (λ facts. option_map (λ (part : Part). facts ++ part.facts) (part_at parts number))
    (facts_below parts number)

-- the facts of a transaction, where it is whole
abbrev pub whole_facts : Transaction → Option (List Fact)
whole_facts txn = option_and_then (facts_below txn.parts) txn.count

-- a transaction that is opened at a moment
abbrev pub opened_at : ℕ → Transaction
opened_at now = record { opened = now; parts = []; count = None }

-- the open transaction before a message, or a new one
abbrev pub going : ℕ → Option Transaction → Transaction
going now None = opened_at now
going now (Some txn) =
    if nat_lt (now - txn.opened) transaction_age then txn else opened_at now

-- a transaction, unless it is whole
abbrev pub unless_whole : Transaction → Option Transaction
unless_whole txn = if is_some (whole_facts txn) then None else Some txn

-- what is open after a message, from before
abbrev pub next_transaction : Mac → ℕ → TxnCall → Option Transaction → Option Transaction
next_transaction sender id call before =
    if same_mac call.sender sender && (call.id == id)
    then unless_whole (with_brought call.brought (going call.moment before)) else before

-- what is open of a sender and an id, by the messages, newest first
abbrev pub transaction : List TxnCall → Mac → ℕ → Option Transaction
transaction [] sender id = None
transaction (call ∷ older) sender id =
    next_transaction sender id call (transaction older sender id)

-- the facts that a message makes whole, after others
abbrev pub made_whole : TxnCall → List TxnCall → Option (List Fact)
made_whole call older = whole_facts (with_brought call.brought
    (going call.moment (transaction older call.sender call.id)))
