-- The first refused option refuses them all.
use Rattle.std.proofs.Common.{◌≡◌, List, [], ◌∷◌, Result, Ok, Err, refl, sym, subst}
use Rattle.std.specs.Prelude.{fold}
use Rattle.mesh_model.specs.declared.ending.Refusal.{Refusal}
use Rattle.mesh_model.specs.declared.line_form.Command.{Command}
use Rattle.mesh_model.specs.Scenario.LinkOptions.{LinkOptions, after_one_more, after_options, options_beside, options_of, the_options, with_one_more}
use Rattle.mesh_model.specs.Scenario.Words.{Word}
use Rattle.mesh_scenario.specs.Inner.Options.{FailsOptions}
use Rattle.mesh_scenario.specs.LineErr.{Refuses}
use Rattle.mesh_scenario.specs.declared.line_err.LineErr.{LineErr}

-- a refusal stays
refused_stays : (refusal : Refusal) (words : List Word) → fold after_one_more (Err refusal) words ≡ Err refusal
refused_stays refusal [] = refl
refused_stays refusal (word ∷ words) = refused_stays refusal words

-- what refuses the options so far refuses them with all others
FailsOptions-more : (read : Result LinkOptions Refusal) (others : List Word) (error : LineErr) → FailsOptions read error
    → FailsOptions (fold after_one_more read others) error
FailsOptions-more (Ok options) others error fails = absurd fails
FailsOptions-more (Err refusal) others error fails =
    subst (λ read. FailsOptions read error) (sym (refused_stays refusal others)) fails

-- a refused first word refuses the others
pub FailsOptions-first : (words : List Word) (word : Word) (others : List Word) (given : LinkOptions) (error : LineErr)
    → words ≡ word ∷ others → FailsOptions (with_one_more given word.word) error
    → FailsOptions (options_beside given words) error
FailsOptions-first words word others given error is fails =
    subst (λ ws. FailsOptions (options_beside given ws) error) (sym is)
    (FailsOptions-more (with_one_more given word.word) others error fails)

failing : (command : LinkOptions → Command) (read : Result LinkOptions Refusal) (error : LineErr) → FailsOptions read error
    → Refuses (after_options command read) error
failing command (Ok options) error fails = absurd fails
failing command (Err refusal) error fails = search fails

-- a line whose other words are no options is refused
pub Refuses-options : (command : LinkOptions → Command) (words : List Word) (error : LineErr)
    → FailsOptions (options_of words) error → Refuses (the_options command words) error
Refuses-options command words error fails = failing command (options_of words) error fails
