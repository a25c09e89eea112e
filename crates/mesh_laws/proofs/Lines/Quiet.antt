-- Where the clock stands, and that nothing is due there.
use Rattle.std.proofs.Common.{◌≡◌, ℕ, ◌+◌, ◌<◌, ◌⊎◌, inl, inr, List, Option, Some, None, Ok, refl, sym, ap, ◌∙◌, subst, arith}
use Rattle.mesh_model.specs.declared.ending.Stop.{Stop}
use Rattle.mesh_model.specs.declared.happening.Happening.{Happening}
use Rattle.mesh_model.specs.declared.line_form.Command.{Command}
use Rattle.mesh_model.specs.Net.Happenings.{Before}
use Rattle.mesh_model.specs.Net.Lans.{joins_lan, with_lan}
use Rattle.mesh_model.specs.Net.Mesh.{NodeLog, NetLan, Mesh, Setup}
use Rattle.mesh_model.specs.Clients.Log.{Line}
use Rattle.mesh_model.specs.Net.Next.{Happens, IsQuiet}
use Rattle.mesh_model.specs.Net.Runs.{PassedLimit, Course, begin, run_to}
use Rattle.mesh_model.specs.Run.State.{State}
use Rattle.mesh_model.specs.Run.Outcome.{Outcome, Goes, Ends}
use Rattle.mesh_model.specs.Run.Passing.{gone_on, course_outcome, run_until}
use Rattle.mesh_model.specs.Run.Shown.{after_print}
use Rattle.mesh_model.specs.Run.Steps.{with_node, with_link}
use Rattle.mesh_laws.specs.LineLaws.{IsReached, CanPass, HasDelay, IsQuietNow}
use Rattle.mesh_laws.specs.Soundness.{FitsPlaces, IsSound}
use Rattle.mesh_laws.proofs.Schedule.Steps.{Effect, all_effect, delivered_effect, lan_joins, no_ticks, tickless}
use Rattle.mesh_laws.proofs.Schedule.Kept.{runs_end_quiet}
use Rattle.mesh_laws.proofs.Schedule.Added.{added, lan_sound}
use Rattle.mesh_laws.proofs.Schedule.ToCome.{lans_add_nothing, links_add_nothing, nodes_add_later}
use Rattle.mesh_laws.proofs.Lines.Passing.{begun}
use Rattle.mesh_laws.proofs.Lines.Keeping.{can_pass, put_now}
use Rattle.mesh_laws.proofs.Lines.Ways.{Led, ended, printed, stayed, chose, noded, linked, given, again, given_all, lanned, put_there, passed}

goes_one : (a b : State) → Goes a ≡ Goes b → a ≡ b
goes_one a b e = cc

no_end : (a b : State) (stop : Stop) → Ends a stop ≡ Goes b → ⊥
no_end a b stop e = cc

-- a course that goes on, goes on to its end
course_goes : (state after : State) (t : ℕ) (mesh : Mesh) (stop : Option PassedLimit) → course_outcome state t mesh stop ≡ Goes after → (stop ≡ None) × (after ≡ gone_on state t mesh)
course_goes state after t mesh None e = (refl, sym (goes_one (gone_on state t mesh) after e))
course_goes state after t mesh (Some p) e = absurd (no_end _ after _ e)

pub clock_at_end : (setup : Setup) (t : ℕ) (state after : State) → run_until setup t state ≡ Goes after → after.clock ≡ t
clock_at_end setup t state after e = ap (λ (s : State). s.clock) (course_goes state after t (run_to setup t state.mesh).mesh (run_to setup t state.mesh).stop e).1

-- what an input at the clock leaves
quiet_effect : (setup : Setup) (state : State) (after : Mesh) → IsSound state.mesh → Effect setup no_ticks state.clock state.mesh after → IsQuietNow state → IsQuiet state.clock after
quiet_effect setup state after sound effect quiet x happens later = either (added setup no_ticks state.clock state.mesh after x sound effect.nodes effect.adds happens)
  where
    either : Happens state.mesh x ⊎ (state.clock < x.moment) → state.clock < x.moment
    either (inl old) = quiet x old (subst (λ (h : Happening). Before h x) effect.last later)
    either (inr l) = l

quiet_node : (state : State) (node : NodeLog) → node.made ≡ state.clock → IsQuietNow state → IsQuietNow (with_node state node)
quiet_node state node made quiet x happens later = either (nodes_add_later state.mesh node x happens)
  where
    either : Happens state.mesh x ⊎ (node.made < x.moment) → state.clock < x.moment
    either (inl old) = quiet x old later
    either (inr l) = omega (arith, l, made)

quiet_lan : (setup : Setup) (state : State) (name gateways : List ℕ) (after : Mesh) → IsSound state.mesh → joins_lan setup name gateways state.clock state.mesh ≡ Ok after → IsQuietNow state → IsQuiet state.clock after
quiet_lan setup state name gateways after sound e quiet x happens later = either (added setup no_ticks state.clock (with_lan lan state.mesh) after x (lan_sound state.mesh lan sound) effect.nodes effect.adds happens)
  where
    lan : NetLan
    lan = record { name = name; gateways = gateways }

    effect : Effect setup no_ticks state.clock (with_lan lan state.mesh) after
    effect = lan_joins setup name gateways state.clock state.mesh after e

    either : Happens (with_lan lan state.mesh) x ⊎ (state.clock < x.moment) → state.clock < x.moment
    either (inl old) = quiet x (lans_add_nothing state.mesh lan x old) (subst (λ (h : Happening). Before h x) effect.last later)
    either (inr l) = l

quiet_run : (setup : Setup) (t : ℕ) (state after : State) → CanPass setup t state → run_until setup t state ≡ Goes after → IsQuietNow after
quiet_run setup t state after can e =
    let o : Course = run_to setup t state.mesh in
    let p = course_goes state after t o.mesh o.stop e in
    subst IsQuietNow (sym p.1) (runs_end_quiet setup t (begin state.mesh) can.fits (begun setup t state can) can.ends p.0)

pub goes_quiet : (setup : Setup) (state after : State) (command : Command) (outcome : Outcome) → FitsPlaces setup → IsReached state → HasDelay command → Led setup state command outcome → outcome ≡ Goes after → IsQuietNow state → IsQuietNow after
goes_quiet setup state after command outcome fits r delay (ended stop e) f quiet = absurd (no_end state after stop (sym e ∙ f))
goes_quiet setup state after command outcome fits r delay (stayed e) f quiet = subst IsQuietNow (goes_one state after (sym e ∙ f)) quiet
goes_quiet setup state after command outcome fits r delay (chose algorithm is e) f quiet = subst IsQuietNow (goes_one (record state { algorithm = algorithm }) after (sym e ∙ f)) quiet
goes_quiet setup state after command outcome fits r delay (printed more e) f quiet = subst IsQuietNow (goes_one (after_print state more) after (sym e ∙ f)) quiet
goes_quiet setup state after command outcome fits r delay (noded node new made few e) f quiet = subst IsQuietNow (goes_one (with_node state node) after (sym e ∙ f)) (quiet_node state node made quiet)
goes_quiet setup state after command outcome fits r delay (linked link has e) f quiet = subst IsQuietNow (goes_one (with_link state link) after (sym e ∙ f)) (λ x happens later. quiet x (links_add_nothing state.mesh link x r.sound happens) later)
goes_quiet setup state after command outcome fits r delay (given place line mesh of g e) f quiet = subst IsQuietNow (goes_one (gone_on state state.clock mesh) after (sym e ∙ f))
    (quiet_effect setup state mesh r.sound (tickless setup state.mesh place state.clock 0 (Line line) mesh refl tt g) quiet)
goes_quiet setup state after command outcome fits r delay (again place mesh g e) f quiet = subst IsQuietNow (goes_one (gone_on state state.clock mesh) after (sym e ∙ f))
    (quiet_effect setup state mesh r.sound (delivered_effect setup state.mesh place state.clock mesh g) quiet)
goes_quiet setup state after command outcome fits r delay (given_all places line mesh plain calm g e) f quiet = subst IsQuietNow (goes_one (gone_on state state.clock mesh) after (sym e ∙ f))
    (quiet_effect setup state mesh r.sound (all_effect setup places state.clock (Line line) state.mesh mesh refl (λ fs. tt) g) quiet)
goes_quiet setup state after command outcome fits r delay (lanned name gateways mesh g e) f quiet = subst IsQuietNow (goes_one (gone_on state state.clock mesh) after (sym e ∙ f)) (quiet_lan setup state name gateways mesh r.sound g quiet)
goes_quiet setup state after command outcome fits r delay (put_there put mesh at low g e) f quiet = subst IsQuietNow (goes_one (gone_on state state.clock mesh) after (sym e ∙ f))
    (quiet_effect setup state mesh r.sound (put_now setup state put mesh at low g) quiet)
goes_quiet setup state after command outcome fits r delay (passed time run low e) f quiet =
    quiet_run setup (state.clock + time) state after (can_pass setup time state fits r low) (sym e ∙ f)
