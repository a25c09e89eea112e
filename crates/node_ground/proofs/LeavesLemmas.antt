-- What a call on the own clients leaves of a port where it is refused.
use Rattle.std.proofs.Common.{◌≡◌, inl, inr, List, [], ◌∷◌, ◌++◌, refl, sym, ap, subst, Option, Some, None, is_some, Result, Ok, Err}
use Rattle.std.specs.Option.{option_or}
use Rattle.std.proofs.lemmas.Bool.{true≢false}
use Rattle.mesh_model.specs.declared.act.Act.{Act}
use Rattle.mesh_model.specs.Acts.NodeLimits.{NodeLimit}
use Rattle.mesh_model.specs.declared.ending.LimitName.{LimitName}
use Rattle.tt_local.specs.declared.failure.LocalErr.{LocalErr}
use Rattle.tt_local.specs.declared.failure.LocalErr.TheVariants as local
use Rattle.tt_local.specs.Limits.{HasLimit}
use Rattle.node_ground.specs.declared.failure.NodeErr.{NodeErr}
use Rattle.node_ground.specs.declared.failure.NodeErr.TheVariants.{Memory, Clients, Vlans, Frames, FrameBytes, Cuts, Dead}
use Rattle.node_ground.specs.Errors.{HasCause, HasOwnCause, client_error_of}
use Rattle.node_ground.specs.Puts.{Answers, Leaves, Puts, StopsAt, StopsBehind, TakesAll, behind}
use Rattle.node_ground.proofs.PutsLemmas.{puts_behind, stops_among}

-- the cause of the clients is that of the node
pub client_cause : (limit : Option LimitName) (error : LocalErr) → HasLimit limit error → HasOwnCause limit (client_error_of error)
client_cause limit local.Clients cause = cause
client_cause limit local.Vlans cause = cause
client_cause limit local.Memory cause = tt

pub free_cause : (error : NodeErr) → HasOwnCause None error → HasCause None error
free_cause Memory cause = tt
free_cause Clients cause = absurd cc
free_cause Vlans cause = absurd cc
free_cause Frames cause = absurd cause
free_cause FrameBytes cause = absurd cause
free_cause Cuts cause = absurd cc
free_cause Dead cause = absurd cause

-- a refused joining is answered by its limit
pub refused_answer : (limit : Option LimitName) (error : LocalErr) → HasLimit limit error → Answers (option_or limit None) (Err (client_error_of error))
refused_answer None error cause = client_cause None error cause
refused_answer (Some limit) error cause = client_cause (Some limit) error cause

module _ {P : Type 0} (takes : P → Act → P → Type 0) (same : P → P → Type 0) (over : P → Act → Option LimitName) where
  never_stops : (acts : List Act) (old new : P) → StopsAt takes same over Dead old acts new → ⊥
  never_stops [] old new stop = stop.1
  never_stops (act ∷ acts) old new (inl at) = at.1
  never_stops (act ∷ acts) old new (inr later) = never_stops acts later.0 new later.3

  never_stops_behind : (limit : LimitName) (acts : List Act) (old new : P) → StopsBehind takes same over limit old acts (Err Dead) new → ⊥
  never_stops_behind limit [] old new stop = stop.1
  never_stops_behind limit (act ∷ acts) old new (inl at) = at.1
  never_stops_behind limit (act ∷ acts) old new (inr later) = never_stops_behind limit acts later.0 new later.3

  not_dead : (limit : Option NodeLimit) (acts : List Act) (old new : P) → Leaves takes same over limit old acts (Err Dead) new → ⊥
  not_dead None acts old new left = never_stops acts old new left
  not_dead (Some passed) acts old new left = never_stops_behind passed.limit passed.acts old new left

  -- no call on a node that is alive answers that it is dead
  pub alive_error : (limit : Option NodeLimit) (acts : List Act) (old new : P) (result : Result Unit NodeErr) → Leaves takes same over limit old acts result new
      → result ≡ Err Dead → ⊥
  alive_error limit acts old new result left is = not_dead limit acts old new (subst (λ r. Leaves takes same over limit old acts r new) is left)

  -- what is answered without an act leaves the port as it is
  pub answered_leaves : (limit : Option LimitName) (port : P) (result : Result Unit NodeErr) → same port port → Answers limit result
      → Leaves takes same over (behind [] limit) port [] result port
  answered_leaves None port (Ok done) as_is answers = refl
  answered_leaves None port (Err error) as_is cause = (as_is, free_cause error cause)
  answered_leaves (Some limit) port (Ok done) as_is answers = (as_is, answers)
  answered_leaves (Some limit) port (Err error) as_is cause = (as_is, cause)

  -- ---- a limit behind the first acts
  passed_behind : (limit : LimitName) (old mid new : P) (first : List Act) (result : Result Unit NodeErr) → TakesAll takes over old first mid → same mid new → Answers (Some limit) result
      → StopsBehind takes same over limit old first result new
  passed_behind limit old mid new [] result all as_is answers = (subst (λ port. same port new) (sym all) as_is, answers)
  passed_behind limit old mid new (act ∷ first) result all as_is answers =
      inr (all.0, all.1, all.2, passed_behind limit all.0 mid new first result all.3 as_is answers)

  -- behind the first acts the rest is left
  pub leaves_behind : (limit : Option LimitName) (old mid new : P) (first rest : List Act) (result : Result Unit NodeErr) → TakesAll takes over old first mid → Leaves takes same over (behind [] limit) mid rest result new
      → Leaves takes same over (behind first limit) old (first ++ rest) result new
  leaves_behind None old mid new first rest result all left = puts_behind takes same over old mid new first rest result all left
  leaves_behind (Some limit) old mid new first rest result all left = passed_behind limit old mid new first result all left.0 left.1

  any_cause : (limit : LimitName) (error : NodeErr) → HasCause None error → HasOwnCause (Some limit) error
  any_cause limit Memory cause = tt
  any_cause limit Clients cause = absurd cause
  any_cause limit Vlans cause = absurd cause
  any_cause limit Frames cause = absurd cc
  any_cause limit FrameBytes cause = absurd cc
  any_cause limit Cuts cause = absurd cause
  any_cause limit Dead cause = absurd cause

  stopped_behind : (limit : LimitName) (error : NodeErr) (old new : P) (first : List Act) → StopsAt takes same over error old first new → StopsBehind takes same over limit old first (Err error) new
  stopped_behind limit error old new [] stop = (stop.0, any_cause limit error stop.1)
  stopped_behind limit error old new (act ∷ first) (inl at) = inl at
  stopped_behind limit error old new (act ∷ first) (inr later) =
      inr (later.0, later.1, later.2, stopped_behind limit error later.0 new first later.3)

  -- where it stops among the first acts, it stops
  pub leaves_among : (limit : Option LimitName) (error : NodeErr) (old new : P) (first rest : List Act) → StopsAt takes same over error old first new
      → Leaves takes same over (behind first limit) old (first ++ rest) (Err error) new
  leaves_among None error old new first rest stop = stops_among takes same over error old new first rest stop
  leaves_among (Some limit) error old new first rest stop = stopped_behind limit error old new first stop

  -- ---- a limit before all acts
  -- where it stops among the first acts, or for the limit, it stops
  pub leaves_first : (limit : Option LimitName) (error : NodeErr) (old new : P) (first rest : List Act) → Leaves takes same over (behind [] limit) old first (Err error) new
      → Leaves takes same over (behind [] limit) old (first ++ rest) (Err error) new
  leaves_first None error old new first rest left = stops_among takes same over error old new first rest left
  leaves_first (Some limit) error old new first rest left = left

  -- where the first acts are put no limit is passed, and the rest is put behind
  pub leaves_then : (limit : Option LimitName) (old mid new : P) (first rest : List Act) (result : Result Unit NodeErr) → Leaves takes same over (behind [] limit) old first (Ok tt) mid
      → Puts takes same over mid rest result new → Leaves takes same over (behind [] limit) old (first ++ rest) result new
  leaves_then None old mid new first rest result left puts = puts_behind takes same over old mid new first rest result left puts
  leaves_then (Some limit) old mid new first rest result left puts = absurd (true≢false (ap is_some left.1))
