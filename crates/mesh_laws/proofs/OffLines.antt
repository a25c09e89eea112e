-- In every plain run nodes reboot only while they are no gateways.
use Rattle.std.proofs.Common.{◌≡◌, ◌∙◌, refl, sym, ap, subst, ℕ, ◌+◌, Bool, true, false, cond, List, [], ◌∷◌, Option, Some, None, is_some, option_and_then, Ok, Err}
use Rattle.std.specs.Option.{option_or}
use Rattle.std.proofs.lemmas.Bool.{true≢false}
use Rattle.mesh_model.specs.declared.ending.LimitName.TheVariants.{Input, Line}
use Rattle.mesh_model.specs.declared.ending.Refusal.{Refusal}
use Rattle.mesh_model.specs.declared.ending.Refusal.TheVariants.{Attached}
use Rattle.mesh_model.specs.declared.ending.Stop.{Stop}
use Rattle.mesh_model.specs.declared.ending.Stop.TheVariants.{Limit}
use Rattle.mesh_model.specs.declared.line_form.Command.{Command}
use Rattle.mesh_model.specs.declared.line_form.Command.TheVariants.{Reboot}
use Rattle.mesh_model.specs.Clients.Log.{LineGiven, line_reboots}
use Rattle.mesh_model.specs.Clients.Log.{Line as LineGives}
use Rattle.mesh_model.specs.Net.Mesh.{Mesh, Setup}
use Rattle.mesh_model.specs.Net.Runs.{PassedLimit, run_to}
use Rattle.mesh_model.specs.Net.Sending.{lan_of}
use Rattle.mesh_model.specs.Run.Demands.{demand_of, first_unmet, is_attached, refusal_if}
use Rattle.mesh_model.specs.Run.Outcome.{Outcome, Goes, Ends, reached}
use Rattle.mesh_model.specs.Run.Passing.{course_outcome, run_until}
use Rattle.mesh_model.specs.Run.PlainRun.{Run, after_line, after_lines, after_outcome, after_reading, line_outcome, passes_input, passes_line, plain_run, start}
use Rattle.mesh_model.specs.Run.Rules.{carried_out, first_refused_rule, setup_of, unless_refused, wrong_name}
use Rattle.mesh_model.specs.Run.State.{State, place_of}
use Rattle.mesh_model.specs.Run.Steps.{step_of}
use Rattle.mesh_model.specs.Scenario.Commands.{command_of_line}
use Rattle.mesh_model.specs.Scenario.Lines.{content, lines_of}
use Rattle.mesh_model.specs.Scenario.Readings.{Reading}
use Rattle.mesh_laws.specs.LastLogLaws.{RunsRebootOffLans}
use Rattle.mesh_laws.proofs.Lines.Ways.{IsLineOf, Led, again, chose, command_led, ended, given, given_all, lanned, linked, noded, passed, printed, put_there, stayed}
use Rattle.mesh_laws.proofs.OffLans.{AreOff, all_off, delivered_off, given_off, lan_joins_off, line_may, node_joins_off, put_joins_off, run_off}

-- ---- a command
-- what is asked of a reboot: its node is of no LAN
second_none : (x y : Option Refusal) → option_or x y ≡ None → y ≡ None
second_none None y is = is
second_none (Some refusal) y is = cc

unrefused : (b : Bool) (refusal : Refusal) → refusal_if b refusal ≡ None → b ≡ false
unrefused true refusal is = cc
unrefused false refusal is = refl

none_of : (o : Option ℕ) → is_some o ≡ false → o ≡ None
none_of None is = refl
none_of (Some x) is = cc

off_lan : (state : State) (name : List ℕ) (place : ℕ) → first_refused_rule state (Reboot name) ≡ None → place_of state name ≡ Some place → lan_of place state.mesh.lans ≡ None
off_lan state name place none at =
    let free = unrefused (is_attached state name) Attached (second_none (wrong_name state (Reboot name)) (first_unmet state (demand_of (Reboot name))) none) in
    none_of (lan_of place state.mesh.lans) (ap (λ o. is_some (option_and_then (λ p. lan_of p state.mesh.lans) o)) (sym at) ∙ free)

line_of_off : (state : State) (command : Command) (place : ℕ) (line : LineGiven) → first_refused_rule state command ≡ None → IsLineOf state command place line → line_reboots line ≡ true → lan_of place state.mesh.lans ≡ None
line_of_off state command place line none of is =
    let r = of.reboots is in
    off_lan state r.0 place (subst (λ c. first_refused_rule state c ≡ None) r.1 none) r.2

abbrev OutcomeOff : Outcome → Type 0
OutcomeOff outcome = AreOff (reached outcome).mesh

course_off : (state : State) (t : ℕ) (mesh : Mesh) (stop : Option PassedLimit) → AreOff mesh → OutcomeOff (course_outcome state t mesh stop)
course_off state t mesh None off = off
course_off state t mesh (Some limit) off = off

until_off : (setup : Setup) (t : ℕ) (state : State) → AreOff state.mesh → OutcomeOff (run_until setup t state)
until_off setup t state off = let o = run_to setup t state.mesh in course_off state t o.mesh o.stop (run_off setup t state.mesh off)

led_off : (setup : Setup) (state : State) (command : Command) (outcome : Outcome) → AreOff state.mesh → first_refused_rule state command ≡ None → Led setup state command outcome → OutcomeOff outcome
led_off setup state command outcome off none (ended stop e) = subst OutcomeOff (sym e) off
led_off setup state command outcome off none (printed more e) = subst OutcomeOff (sym e) off
led_off setup state command outcome off none (stayed e) = subst OutcomeOff (sym e) off
led_off setup state command outcome off none (chose algorithm c e) = subst OutcomeOff (sym e) off
led_off setup state command outcome off none (noded node new made low e) = subst OutcomeOff (sym e) (node_joins_off state.mesh node off new)
led_off setup state command outcome off none (linked link delay e) = subst OutcomeOff (sym e) off
led_off setup state command outcome off none (given place line after of g e) = subst OutcomeOff (sym e)
    (given_off setup place state.clock 0 (LineGives line) state.mesh after off (line_may state.mesh.lans place state.clock line of.plain (line_of_off state command place line none of)) g).off
led_off setup state command outcome off none (again place after g e) = subst OutcomeOff (sym e) (delivered_off setup place state.clock state.mesh after off g)
led_off setup state command outcome off none (given_all places line after plain calm g e) = subst OutcomeOff (sym e)
    (all_off setup places state.clock (LineGives line) state.mesh after off (λ p has. line_may state.mesh.lans p state.clock line plain (λ is. absurd (true≢false (sym is ∙ calm)))) g)
led_off setup state command outcome off none (lanned name gateways after g e) = subst OutcomeOff (sym e) (lan_joins_off setup name gateways state.clock state.mesh after off g)
led_off setup state command outcome off none (put_there put after at low g e) = subst OutcomeOff (sym e) (put_joins_off setup put state.mesh after off low g)
led_off setup state command outcome off none (passed time c low e) = subst OutcomeOff (sym e) (until_off setup (state.clock + time) state off)

command_off : (setup : Setup) (state : State) (command : Command) → AreOff state.mesh → OutcomeOff (carried_out setup state command)
command_off setup state command off = go (first_refused_rule state command) refl
  where
    go : (o : Option Refusal) → first_refused_rule state command ≡ o → OutcomeOff (unless_refused state o (step_of setup command state))
    go (Some refusal) is = off
    go None none = led_off setup state command (step_of setup command state) off none (command_led setup state command)

-- ---- a run
reading_off : (state : State) (reading : Reading) → AreOff state.mesh → OutcomeOff (after_reading state reading)
reading_off state (Ok command) off = command_off (setup_of state.algorithm) state command off
reading_off state (Err stop) off = off

unless_off : (state : State) (test : Bool) (stop : Stop) (outcome : Outcome) → AreOff state.mesh → OutcomeOff outcome → OutcomeOff (cond test (Ends state stop) outcome)
unless_off state true stop outcome off h = off
unless_off state false stop outcome off h = h

outcome_off : (state : State) (before : ℕ) (line : List ℕ) → AreOff state.mesh → OutcomeOff (line_outcome state before line)
unfolding line_outcome
outcome_off state before line off =
    let reading = command_of_line (content line) in
    unless_off state (passes_line before line) (Limit Line) (cond (passes_input before line) (Ends state (Limit Input)) (after_reading state reading)) off
    (unless_off state (passes_input before line) (Limit Input) (after_reading state reading) off (reading_off state reading off))

behind_off : (run : Run) (line : List ℕ) (outcome : Outcome) → OutcomeOff outcome → AreOff (after_outcome run line outcome).state.mesh
behind_off run line (Goes state) off = off
behind_off run line (Ends state stop) off = off

line_off : (run : Run) (line : List ℕ) → AreOff run.state.mesh → AreOff (after_line run line).state.mesh
line_off run line off = go (is_some run.halt)
  where
    go : (b : Bool) → AreOff (cond b run (after_outcome run line (line_outcome run.state run.bytes line))).state.mesh
    go true = off
    go false = behind_off run line (line_outcome run.state run.bytes line) (outcome_off run.state run.bytes line off)

lines_off : (run : Run) (lines : List (List ℕ)) → AreOff run.state.mesh → AreOff (after_lines run lines).state.mesh
lines_off run [] off = off
lines_off run (line ∷ lines) off = lines_off (after_line run line) lines (line_off run line off)

pub runs_reboot_off_lans : RunsRebootOffLans
unfolding plain_run
runs_reboot_off_lans choice input place node found = (lines_off (start choice) (lines_of input) (λ p n none. cc) place node found).reboots
