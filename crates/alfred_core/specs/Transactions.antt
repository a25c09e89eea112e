-- How the open transactions that a node keeps stand for all messages that came, and what a message
-- is answered. What is dropped is what no message can go on with. The main words are
-- `TransactionsStand` and `Answers`.
use Rattle.std.specs.Prelude.{◌≡◌, ◌+◌, ◌-◌, ◌≤◌, ◌&&◌, ◌==◌, Bool, ℕ, length, List, [], ◌∷◌, map, None, Some, IsSomeAnd}
use Rattle.std.specs.List.{IsDistinct}
use Rattle.std.specs.Map.{keys_of, lookup}
use Rattle.mesh_model.specs.Routes.Addresses.{same_mac}
use Rattle.mesh_model.specs.Services.Transactions.{TxnCall, Transaction, going, made_whole, transaction, transaction_age}
use Rattle.mesh_laws.specs.Rising.{RiseWithin}
use Rattle.alfred_core.specs.declared.transactions.TransactionKey.{TransactionKey}
use Rattle.alfred_core.specs.declared.txn.Txn.{Txn}
use Rattle.alfred_core.specs.declared.txn.Txn.TheVariants.{Open, Whole}

-- the transactions that are kept, by sender and id
abbrev pub Rows : Type 0
Rows = List (TransactionKey × Transaction)

-- whether two senders with their ids are one transaction's
abbrev pub same_transaction : TransactionKey → TransactionKey → Bool
same_transaction a b = same_mac a.sender b.sender && (a.id == b.id)

-- the moments at which transactions were opened
abbrev pub opened_moments : Rows → List ℕ
opened_moments rows = map (λ (row : TransactionKey × Transaction). row.1.opened) rows

-- the first moment at which a transaction that is open still may have been opened
abbrev pub first_opening : ℕ → ℕ
first_opening now = now + 1 - transaction_age

-- the moment of the newest message
abbrev pub newest_moment : List TxnCall → ℕ
newest_moment [] = 0
newest_moment (call ∷ older) = call.moment

-- what is kept is that after these messages
pub record TransactionsStand (rows : Rows) (calls : List TxnCall) : Type 0 where
  -- a message from now on goes on with what is kept of its sender and id as with what is open
  pub goes_on : (now : ℕ) → newest_moment calls ≤ now → (key : TransactionKey) →
      going now (lookup (same_transaction key) rows)
      ≡ going now (transaction calls key.sender key.id)
  -- what is kept was open still at the newest message, and stands in the order of opening
  pub ordered : RiseWithin (first_opening (newest_moment calls)) (opened_moments rows)
      (newest_moment calls)
  -- of a sender and an id one transaction is kept
  pub once : IsDistinct same_transaction (keys_of rows)

-- an answer to a message, after others: the facts that it makes whole; or, where it makes none
-- whole, how many different parts came of what is open then, and how many there are
abbrev pub Answers : TxnCall → List TxnCall → Txn → Type 0
Answers call older (Whole facts) = made_whole call older ≡ Some facts
Answers call older (Open have want) = (made_whole call older ≡ None)
    × IsSomeAnd (transaction (call ∷ older) call.sender call.id)
    (λ txn. (have ≡ length txn.parts) × (want ≡ txn.count))
