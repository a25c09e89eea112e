-- The algorithm is chosen before the first node, and stays.
use Rattle.std.proofs.Common.{◌≡◌, ◌<◌, ◌+◌, ℕ, length, Option, Some, None, refl, sym, ap, ◌∙◌}
use Rattle.std.proofs.lemmas.Bool.{lt-ltb}
use Rattle.mesh_model.specs.declared.ending.Refusal.TheVariants.{AlgoAfterNode}
use Rattle.mesh_model.specs.declared.ending.Stop.{Stop}
use Rattle.mesh_model.specs.declared.ending.Stop.TheVariants.{Refused}
use Rattle.mesh_model.specs.declared.line_form.Algorithm.{Algorithm}
use Rattle.mesh_model.specs.declared.line_form.Command.{Command}
use Rattle.mesh_model.specs.declared.line_form.Command.TheVariants.{Algo}
use Rattle.mesh_model.specs.Net.Mesh.{Mesh, Setup}
use Rattle.mesh_model.specs.Net.Runs.{PassedLimit, run_to}
use Rattle.mesh_model.specs.Run.Demands.{refusal_if}
use Rattle.mesh_model.specs.Run.Outcome.{Outcome, Goes, Ends, reached}
use Rattle.mesh_model.specs.Run.Passing.{course_outcome}
use Rattle.mesh_model.specs.Run.Rules.{carried_out, first_refused_rule}
use Rattle.mesh_model.specs.Run.State.{State}
use Rattle.mesh_laws.proofs.Lines.Printing.{refused_changes_nothing}
use Rattle.mesh_laws.proofs.Lines.Ways.{Led, ended, printed, stayed, chose, noded, linked, given, again, given_all, lanned, put_there, passed, led}

-- the algorithm of what an outcome leaves
abbrev algorithm_of : Outcome → Algorithm
algorithm_of outcome = (reached outcome).algorithm

course_keeps : (state : State) (t : ℕ) (mesh : Mesh) (stop : Option PassedLimit) → algorithm_of (course_outcome state t mesh stop) ≡ state.algorithm
course_keeps state t mesh None = refl
course_keeps state t mesh (Some limit) = refl

-- an `algo` line after a node is refused
late_choice : (state : State) (algorithm : Algorithm) → 0 < length state.mesh.nodes → first_refused_rule state (Algo algorithm) ≡ Some AlgoAfterNode
late_choice state algorithm some = ap (λ late. refusal_if late AlgoAfterNode) (lt-ltb 0 (length state.mesh.nodes) some)

no_goes : (a b : State) (stop : Stop) → Ends a stop ≡ Goes b → ⊥
no_goes a b stop e = cc

led_keeps : (setup : Setup) (state : State) (command : Command) → 0 < length state.mesh.nodes → (outcome : Outcome) → carried_out setup state command ≡ outcome → Led setup state command outcome → algorithm_of outcome ≡ state.algorithm
led_keeps setup state command some outcome is (ended stop e) = ap algorithm_of e
led_keeps setup state command some outcome is (printed more e) = ap algorithm_of e
led_keeps setup state command some outcome is (stayed e) = ap algorithm_of e
led_keeps setup state command some outcome is (chose algorithm command_is e) =
    let refused = refused_changes_nothing setup state (Algo algorithm) AlgoAfterNode (late_choice state algorithm some) in
    absurd (no_goes state (record state { algorithm = algorithm }) (Refused AlgoAfterNode) (sym refused ∙ ap (carried_out setup state) (sym command_is) ∙ is ∙ e))
led_keeps setup state command some outcome is (noded node new made few e) = ap algorithm_of e
led_keeps setup state command some outcome is (linked link has e) = ap algorithm_of e
led_keeps setup state command some outcome is (given place line after of g e) = ap algorithm_of e
led_keeps setup state command some outcome is (again place after g e) = ap algorithm_of e
led_keeps setup state command some outcome is (given_all places line after plain calm g e) = ap algorithm_of e
led_keeps setup state command some outcome is (lanned name gateways after g e) = ap algorithm_of e
led_keeps setup state command some outcome is (put_there put after at low g e) = ap algorithm_of e
led_keeps setup state command some outcome is (passed time run low e) = ap algorithm_of e
    ∙ course_keeps state (state.clock + time) (run_to setup (state.clock + time) state.mesh).mesh (run_to setup (state.clock + time) state.mesh).stop

pub nodes_keep : (setup : Setup) (state : State) (command : Command) → 0 < length state.mesh.nodes → algorithm_of (carried_out setup state command) ≡ state.algorithm
nodes_keep setup state command some = led_keeps setup state command some (carried_out setup state command) refl (led setup state command)
