-- What a line leaves: the state that was reached and, where it ended the run there, the stop. What
-- the first part of a run prints is printed, also where a limit ends it. The main words are
-- `OutcomeOf`, for any kind of states, and `Outcome`, for those of a scenario.
use Rattle.mesh_model.specs.declared.ending.Stop.{Stop}
use Rattle.mesh_model.specs.Run.State.{State}

-- the run goes on from a state, or ends at one
pub data OutcomeOf (S : Type 0) : Type 0 where
  Goes : S → OutcomeOf S
  Ends : S → Stop → OutcomeOf S

-- the outcome of a line of a scenario
abbrev pub Outcome : Type 0
Outcome = OutcomeOf State

-- the state that was reached
abbrev pub reached : {S : Type 0} → OutcomeOf S → S
reached (Goes state) = state
reached (Ends state stop) = state

-- an outcome, and what follows it where it goes on
abbrev pub followed_by : Outcome → (State → Outcome) → Outcome
followed_by (Goes state) next = next state
followed_by (Ends state stop) next = Ends state stop
