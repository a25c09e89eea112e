-- What is kept of an open transaction, as the definitions see it. No clause of a public call cites
-- this file.
use Rattle.std.specs.Prelude.{◌≡◌, ◌<◌, ◌^◌, ◌-◌, Bool, false, ◌≤◌, ℕ, nat_eq, nat_lt, length, List, ◌∷◌, Option, None, Some, Result, map, IfOk, IfSome, IsSome, OnOk}
use Rattle.std.specs.Map.{lookup}
use Rattle.mesh_model.specs.declared.service.Fact.{Fact}
use Rattle.mesh_model.specs.Services.Transactions.{Brought, APart, AnEnd, Part, Transaction, TxnCall, transaction_age, whole_facts}
use Rattle.alfred_core.specs.declared.transaction.Brought.{Brought as Bringing}
use Rattle.alfred_core.specs.declared.transaction.Brought.TheVariants.{Part as PartBrought, End as EndBrought}
use Rattle.alfred_core.specs.Transactions.{Answers, Rows, TransactionsStand, newest_moment}
use Rattle.alfred_core.specs.declared.transactions.TransactionKey.{TransactionKey}
use Rattle.alfred_core.specs.declared.txn.Txn.{Txn}
use Rattle.alfred_core.specs.declared.txn.Txn.TheVariants.{Open, Whole}

-- what a message brings, as the definitions have it
abbrev pub brought_in : Bringing → Brought
brought_in (PartBrought number facts) = APart number facts.now
brought_in (EndBrought count) = AnEnd count

-- a message of a transaction
abbrev pub call_of : ℕ → TransactionKey → Bringing → TxnCall
call_of now key brought =
    record { moment = now; sender = key.sender; id = key.id; brought = brought_in brought }

-- a part that is kept
abbrev pub kept_part : ℕ × List Fact → Part
kept_part kept = record { number = kept.0; facts = kept.1 }

-- the parts that are kept, in the order in which they came
abbrev pub parts_in : List (ℕ × List Fact) → List Part
parts_in kept = map kept_part kept

-- numbers have two bytes, and of one that is noted as missing no part is kept
pub record ArePartsWithout (kept : List (ℕ × List Fact)) (missing : Option ℕ) : Type 0 where
  pub small : (number : ℕ) → IsSome (lookup (nat_eq number) kept) → number < 2 ^ 16
  pub without : IfSome missing (λ number. lookup (nat_eq number) kept ≡ None)

-- whether a transaction is open still at a moment
abbrev pub is_open : ℕ → Transaction → Bool
is_open now txn = nat_lt (now - txn.opened) transaction_age

-- whether what is kept, if anything, is open still
abbrev pub is_kept_open : ℕ → Option Transaction → Bool
is_kept_open now None = false
is_kept_open now (Some txn) = is_open now txn

-- what is told of a transaction with these facts where it is whole
abbrev pub told_with : Transaction → Option (List Fact) → Txn
told_with txn None = Open (length txn.parts) txn.count
told_with txn (Some facts) = Whole facts

-- what is told of a transaction
abbrev pub told : Transaction → Txn
told txn = told_with txn (whole_facts txn)

-- what is kept once a message was taken
abbrev pub Notes : {E : Type 0} → TxnCall → Rows → Rows → Result Txn E → Type 0
Notes call old new result = (calls : List TxnCall) → TransactionsStand old calls →
    newest_moment calls ≤ call.moment → OnOk result (TransactionsStand new (call ∷ calls))

-- and what it is answered
abbrev pub IsAnswered : {E : Type 0} → TxnCall → Rows → Result Txn E → Type 0
IsAnswered call old result = (calls : List TxnCall) → TransactionsStand old calls →
    newest_moment calls ≤ call.moment → IfOk result (Answers call calls)
