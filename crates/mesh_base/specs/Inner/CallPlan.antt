-- How an input or an output in memory answers its calls: at most so many bytes are moved at a call,
-- and the calls of some numbers fail, where the first call has the number 1. The main words are
-- `IsFailing` and `MakesCall`.
use Rattle.std.specs.Prelude.{◌≡◌, ℕ, List, Contains}
use Rattle.mesh_base.specs.Faults.{one_more}
use Rattle.mesh_base.specs.declared.call_plan.CallPlan.{CallPlan}

-- the call that was made last is one of those that fail
abbrev pub IsFailing : CallPlan → Type 0
IsFailing plan = Contains plan.fails.items plan.made

-- a plan for pieces and failing calls, of which no call was made yet
pub record IsFreshPlan (piece : ℕ) (fails : List ℕ) (plan : CallPlan) : Type 0 where
  pub piece_is : plan.piece ≡ piece
  pub fails_are : plan.fails.items ≡ fails
  pub none_made : plan.made ≡ 0

-- one more call was made
pub record MakesCall (old new : CallPlan) : Type 0 where
  pub piece_stays : new.piece ≡ old.piece
  pub fails_stay : new.fails.items ≡ old.fails.items
  pub one_made : new.made ≡ one_more old.made
