-- What commands print, and what a command that ends the run leaves.
use Rattle.std.proofs.Common.{◌≡◌, ℕ, ◌+◌, ◌⊎◌, inl, inr, List, [], ◌∷◌, ◌++◌, map, Option, Some, None, refl, sym, ap, ◌∙◌, subst, append-nil}
use Rattle.std.proofs.lemmas.Grind.{flat_map-append}
use Rattle.std.specs.List.{flat_map}
use Rattle.mesh_model.specs.declared.ending.Refusal.{Refusal}
use Rattle.mesh_model.specs.declared.ending.Stop.{Stop}
use Rattle.mesh_model.specs.declared.ending.Stop.TheVariants.{Refused}
use Rattle.mesh_model.specs.declared.line_form.Command.{Command}
use Rattle.mesh_model.specs.Net.Mesh.{Mesh, Setup}
use Rattle.mesh_model.specs.Net.Runs.{PassedLimit, run_to}
use Rattle.mesh_model.specs.Run.State.{Printed, Happened, State, names_of, printed_text, text_of}
use Rattle.mesh_model.specs.Run.Outcome.{Outcome, Goes, Ends, reached}
use Rattle.mesh_model.specs.Run.Passing.{events_since, gone_on, course_outcome}
use Rattle.mesh_model.specs.Run.Steps.{step_of}
use Rattle.mesh_model.specs.Run.Rules.{first_refused_rule, unless_refused, carried_out}
use Rattle.mesh_laws.specs.LineLaws.{IsRun}
use Rattle.mesh_laws.proofs.Lines.Ways.{Led, ended, printed, stayed, chose, noded, linked, given, again, given_all, lanned, put_there, passed, led}

-- more is printed, by the same choice
pub record Grows (state after : State) : Type 0 where
  pub more : List Printed
  pub grows : after.printed ≡ state.printed ++ more
  pub choice : after.choice ≡ state.choice

pub grows_by_none : (state after : State) → after.printed ≡ state.printed → after.choice ≡ state.choice → Grows state after
grows_by_none state after p c = record { more = []; grows = p ∙ sym (append-nil state.printed); choice = c }

pub gone_on_grows : (state : State) (t : ℕ) (mesh : Mesh) → Grows state (gone_on state t mesh)
gone_on_grows state t mesh = record { more = map (Happened (names_of mesh)) (events_since state.mesh mesh); grows = refl; choice = refl }

pub course_grows : (state : State) (t : ℕ) (mesh : Mesh) (stop : Option PassedLimit) → Grows state (reached (course_outcome state t mesh stop))
course_grows state t mesh None = gone_on_grows state t mesh
course_grows state t mesh (Some p) = gone_on_grows state p.moment mesh

outcome_grows : (setup : Setup) (state : State) (command : Command) (outcome : Outcome) → Led setup state command outcome → Grows state (reached outcome)
outcome_grows setup state command outcome (ended stop e) = subst (λ o. Grows state (reached o)) (sym e) (grows_by_none state state refl refl)
outcome_grows setup state command outcome (stayed e) = subst (λ o. Grows state (reached o)) (sym e) (grows_by_none state state refl refl)
outcome_grows setup state command outcome (chose algorithm is e) = subst (λ o. Grows state (reached o)) (sym e) (grows_by_none state _ refl refl)
outcome_grows setup state command outcome (printed more e) = subst (λ o. Grows state (reached o)) (sym e) (record { more = more ∷ []; grows = refl; choice = refl })
outcome_grows setup state command outcome (noded node new made few e) = subst (λ o. Grows state (reached o)) (sym e) (grows_by_none state _ refl refl)
outcome_grows setup state command outcome (linked link delay e) = subst (λ o. Grows state (reached o)) (sym e) (grows_by_none state _ refl refl)
outcome_grows setup state command outcome (given place line after of g e) = subst (λ o. Grows state (reached o)) (sym e) (gone_on_grows state state.clock after)
outcome_grows setup state command outcome (again place after g e) = subst (λ o. Grows state (reached o)) (sym e) (gone_on_grows state state.clock after)
outcome_grows setup state command outcome (given_all places line after plain calm g e) = subst (λ o. Grows state (reached o)) (sym e) (gone_on_grows state state.clock after)
outcome_grows setup state command outcome (lanned name gateways after g e) = subst (λ o. Grows state (reached o)) (sym e) (gone_on_grows state state.clock after)
outcome_grows setup state command outcome (put_there put after at low g e) = subst (λ o. Grows state (reached o)) (sym e) (gone_on_grows state state.clock after)
outcome_grows setup state command outcome (passed time run low e) = subst (λ o. Grows state (reached o)) (sym e)
    (course_grows state (state.clock + time) (run_to setup (state.clock + time) state.mesh).mesh (run_to setup (state.clock + time) state.mesh).stop)

pub grows : (setup : Setup) (state : State) (command : Command) → Grows state (reached (carried_out setup state command))
grows setup state command = outcome_grows setup state command (carried_out setup state command) (led setup state command)

pub printed_grows : (setup : Setup) (state : State) (command : Command) → (more : List Printed) × ((reached (carried_out setup state command)).printed ≡ state.printed ++ more)
printed_grows setup state command = let g = grows setup state command in (g.more, g.grows)

pub text_of_more : (state after : State) → (g : Grows state after) → text_of after ≡ text_of state ++ flat_map (printed_text state.choice) g.more
text_of_more state after g =
    ap (λ c. flat_map (printed_text c) after.printed) g.choice
    ∙ ap (flat_map (printed_text state.choice)) g.grows
    ∙ flat_map-append (printed_text state.choice) state.printed g.more

pub text_grows : (setup : Setup) (state : State) (command : Command) → (more : List ℕ) × (text_of (reached (carried_out setup state command)) ≡ text_of state ++ more)
text_grows setup state command = let g = grows setup state command in (flat_map (printed_text state.choice) g.more, text_of_more state (reached (carried_out setup state command)) g)

pub refused_changes_nothing : (setup : Setup) (state : State) (command : Command) (refusal : Refusal) → first_refused_rule state command ≡ Some refusal → carried_out setup state command ≡ Ends state (Refused refusal)
refused_changes_nothing setup state command refusal e = ap (λ r. unless_refused state r (step_of setup command state)) e

end_of_two : (a b : State) (s t : Stop) → Ends a s ≡ Ends b t → a ≡ b
end_of_two a b s t e = cc

no_end : (a b : State) (t : Stop) → Goes a ≡ Ends b t → ⊥
no_end a b t e = cc

pub ends_change_nothing : (setup : Setup) (state after : State) (command : Command) (stop : Stop) (outcome : Outcome) → Led setup state command outcome → outcome ≡ Ends after stop → IsRun command ⊎ (after ≡ state)
ends_change_nothing setup state after command stop outcome (ended s e) f = inr (sym (end_of_two state after s stop (sym e ∙ f)))
ends_change_nothing setup state after command stop outcome (stayed e) f = absurd (no_end _ after stop (sym e ∙ f))
ends_change_nothing setup state after command stop outcome (chose algorithm is e) f = absurd (no_end _ after stop (sym e ∙ f))
ends_change_nothing setup state after command stop outcome (printed more e) f = absurd (no_end _ after stop (sym e ∙ f))
ends_change_nothing setup state after command stop outcome (noded node new made few e) f = absurd (no_end _ after stop (sym e ∙ f))
ends_change_nothing setup state after command stop outcome (linked link delay e) f = absurd (no_end _ after stop (sym e ∙ f))
ends_change_nothing setup state after command stop outcome (given place line mesh of g e) f = absurd (no_end _ after stop (sym e ∙ f))
ends_change_nothing setup state after command stop outcome (again place mesh g e) f = absurd (no_end _ after stop (sym e ∙ f))
ends_change_nothing setup state after command stop outcome (given_all places line mesh plain calm g e) f = absurd (no_end _ after stop (sym e ∙ f))
ends_change_nothing setup state after command stop outcome (lanned name gateways mesh g e) f = absurd (no_end _ after stop (sym e ∙ f))
ends_change_nothing setup state after command stop outcome (put_there put mesh at low g e) f = absurd (no_end _ after stop (sym e ∙ f))
ends_change_nothing setup state after command stop outcome (passed time run low e) f = inl (time, run)
