-- The outcome of `run`, by the moment at which it ends.
use Rattle.std.proofs.Common.{◌≡◌, ℕ, ◌+◌, true, false, refl}
use Rattle.std.specs.Prelude.{nat_lt}
use Rattle.mesh_model.specs.declared.ending.LimitName.TheVariants.{Clock}
use Rattle.mesh_model.specs.declared.ending.Stop.TheVariants.{Limit}
use Rattle.mesh_model.specs.declared.line_form.Command.TheVariants.{Run}
use Rattle.mesh_model.specs.Net.Mesh.{Setup}
use Rattle.mesh_model.specs.Run.Outcome.{Ends}
use Rattle.mesh_model.specs.Run.Passing.{run_until}
use Rattle.mesh_model.specs.Run.Rules.{carried_out}
use Rattle.mesh_model.specs.Run.State.{State}

pub time_late : (setup : Setup) (state : State) (time : ℕ) → nat_lt 1099511627776 (state.clock + time) ≡ true → carried_out setup state (Run time) ≡ Ends state (Limit Clock)
time_late setup state time late = rw late refl

pub time_passes : (setup : Setup) (state : State) (time : ℕ) → nat_lt 1099511627776 (state.clock + time) ≡ false → carried_out setup state (Run time) ≡ run_until setup (state.clock + time) state
time_passes setup state time within = rw within refl
