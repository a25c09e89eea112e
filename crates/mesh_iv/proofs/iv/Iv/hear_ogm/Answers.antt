use Rattle.std.proofs.Common.{◌≡◌, ◌∙◌, ap, sym, subst, cond, None, true, false, rules}
use Rattle.mesh_model.specs.Routes.AlgorithmIv.{answer_to}
use Rattle.mesh_model.specs.Routes.Hearings.{heard}
use Rattle.mesh_model.specs.Routes.Life.{is_first, of}
use Rattle.mesh_model.specs.Routes.Numbers.{has}
use Rattle.mesh_model.specs.Routes.Ogm.{passes}
use Rattle.mesh_model.specs.Routes.Queries.{unheard}
use Rattle.mesh_iv.specs.Came.{ogm_in}
use Rattle.mesh_iv.specs.Hears.{IsHeard, hearing_of, life_before, lived_at}
use Rattle.mesh_iv.specs.Origs.{life_in}
use Rattle.mesh_iv.specs.Tables.{StandsFor}
use Rattle.mesh_algo.proofs.HearingLemmas.{first_from, goes_on_with, late_not_first, restarted_is, seen_not_first}
use Rattle.mesh_iv.proofs.RowLemmas.{life_kept}
use Rattle.mesh_iv.proofs.ValueLemmas.{is_met, kept_is, touched_answer}
use Rattle.mesh_iv.proofs.iv.Iv.hear_ogm.Goals as goal
use Rattle.mesh_iv.proofs.iv.Iv.hear_ogm.Goals.{then-met-via-then-met, then-met-via-else-met+then-has}

pub returns-then-not-passes-clause-noted : goal.returns-then-not-passes-clause-noted
returns-then-not-passes-clause-noted c =
    λ me log tp stands.
    let my : c.self.inside.me ≡ me = ap (λ t. t.me) c.self.view_is ∙ stands.me_is in
    let unheard_ogm : c.passes.result ≡ false = search rules in
    c.in_ok-note_echo.ensures.noted me log tp stands (sym (c.passes.ensures ∙ ap (λ m. passes m (ogm_in c.args.ogm.now)) my) ∙ unheard_ogm)

pub returns-then-met-clause-noted : goal.returns-then-met-clause-noted
returns-then-met-clause-noted c =
    λ me log tp stands.
    let came = c.args.ogm.now in
    let my : c.self.inside.me ≡ me = ap (λ t. t.me) c.self.view_is ∙ stands.me_is in
    let passed : c.passes.result ≡ true = search rules in
    let still : StandsFor me c.places-near.new.self log = subst (λ t. StandsFor me t log) (sym c.places-near.ensures) stands in
    let row = c.orig_near-row.ensures me log still in
    let lived = c.life_in-lived.ensures ∙ ap life_in row ∙ life_kept (lived_at me log came) in
    let met = c.meeting-met.ensures (lived_at me log came) lived in
    let is : IsHeard me c.places-near.new.self log came c.going_on-life.result
    = record {
      stands = still;
      passing = sym (c.passes.ensures ∙ ap (λ m. passes m (ogm_in came)) my) ∙ passed;
      row_is = goes_on_with (hearing_of me log came) (of came.orig (heard me log)) (is_met me log came) c.life_in-lived.result c.going_on-life.result c.meeting-met.result lived met c.going_on-life.ensures;
    } in
    let path_is = c.path_before-path.ensures me log is in
    let first : is_first (hearing_of me log came) (life_before me log came) ≡ false = elim c.then-met.branch [
      | then-met-via-then-met w ↦ late_not_first (hearing_of me log came) (life_before me log came) (sym (ap (λ m. m.late) met) ∙ w.if-met.true)
      | then-met-via-else-met+then-has w ↦ seen_not_first (hearing_of me log came) (life_before me log came) (sym (ap (λ p. has came.seq p.heard) path_is) ∙ sym w.has.ensures ∙ w.if-has.true)
    ] in
    let kept = kept_is me log came c.places-near.new.self c.orig_near-row.result c.going_on-life.result c.meeting-met.result.restart c.best_kept-kept.result still row
    (c.going_on-life.ensures ∙ ap (cond c.meeting-met.result.restart None) c.life_in-lived.ensures) c.best_kept-kept.ensures in
    c.in_ok-touch.ensures.noted me log tp is kept first

pub returns-then-met-clause-heard : goal.returns-then-met-clause-heard
returns-then-met-clause-heard c =
    λ me log stands.
    let came = c.args.ogm.now in
    let my : c.self.inside.me ≡ me = ap (λ t. t.me) c.self.view_is ∙ stands.me_is in
    let passed : c.passes.result ≡ true = search rules in
    let still : StandsFor me c.places-near.new.self log = subst (λ t. StandsFor me t log) (sym c.places-near.ensures) stands in
    let row = c.orig_near-row.ensures me log still in
    let lived = c.life_in-lived.ensures ∙ ap life_in row ∙ life_kept (lived_at me log came) in
    let met = c.meeting-met.ensures (lived_at me log came) lived in
    let is : IsHeard me c.places-near.new.self log came c.going_on-life.result
    = record {
      stands = still;
      passing = sym (c.passes.ensures ∙ ap (λ m. passes m (ogm_in came)) my) ∙ passed;
      row_is = goes_on_with (hearing_of me log came) (of came.orig (heard me log)) (is_met me log came) c.life_in-lived.result c.going_on-life.result c.meeting-met.result lived met c.going_on-life.ensures;
    } in
    let path_is = c.path_before-path.ensures me log is in
    let first : is_first (hearing_of me log came) (life_before me log came) ≡ false = elim c.then-met.branch [
      | then-met-via-then-met w ↦ late_not_first (hearing_of me log came) (life_before me log came) (sym (ap (λ m. m.late) met) ∙ w.if-met.true)
      | then-met-via-else-met+then-has w ↦ seen_not_first (hearing_of me log came) (life_before me log came) (sym (ap (λ p. has came.seq p.heard) path_is) ∙ sym w.has.ensures ∙ w.if-has.true)
    ] in
    sym (ap (λ b. cond b (answer_to (hearing_of me log came) (life_before me log came)) unheard) is.passing
    ∙ touched_answer me log came c.going_on-life.result is.row_is first)

pub returns-clause-noted : goal.returns-clause-noted
returns-clause-noted c =
    λ me log tp stands.
    let came = c.args.ogm.now in
    let my : c.self.inside.me ≡ me = ap (λ t. t.me) c.self.view_is ∙ stands.me_is in
    let passed : c.passes.result ≡ true = search rules in
    let still : StandsFor me c.places-near.new.self log = subst (λ t. StandsFor me t log) (sym c.places-near.ensures) stands in
    let row = c.orig_near-row.ensures me log still in
    let lived = c.life_in-lived.ensures ∙ ap life_in row ∙ life_kept (lived_at me log came) in
    let met = c.meeting-met.ensures (lived_at me log came) lived in
    let is : IsHeard me c.places-near.new.self log came c.going_on-life.result
    = record {
      stands = still;
      passing = sym (c.passes.ensures ∙ ap (λ m. passes m (ogm_in came)) my) ∙ passed;
      row_is = goes_on_with (hearing_of me log came) (of came.orig (heard me log)) (is_met me log came) c.life_in-lived.result c.going_on-life.result c.meeting-met.result lived met c.going_on-life.ensures;
    } in
    let path_is = c.path_before-path.ensures me log is in
    let first = first_from (hearing_of me log came) (of came.orig (heard me log)) (is_met me log came) (sym (ap (λ m. m.late) met) ∙ c.if-met.false)
    (sym (ap (λ p. has came.seq p.heard) path_is) ∙ sym c.has.ensures ∙ c.if-has.false) in
    let kept = kept_is me log came c.places-near.new.self c.orig_near-row.result c.going_on-life.result c.meeting-met.result.restart c.best_kept-kept.result still row
    (c.going_on-life.ensures ∙ ap (cond c.meeting-met.result.restart None) c.life_in-lived.ensures) c.best_kept-kept.ensures in
    c.in_ok-hearing.ensures.noted me log tp (record { is = is; path_is = path_is; first = first }) kept
    (restarted_is (hearing_of me log came) (of came.orig (heard me log)) (is_met me log came) c.going_on-life.result c.meeting-met.result c.restarted_then-restarted.result is.row_is met c.restarted_then-restarted.ensures)

pub returns-clause-heard : goal.returns-clause-heard
returns-clause-heard c =
    λ me log stands.
    let came = c.args.ogm.now in
    let my : c.self.inside.me ≡ me = ap (λ t. t.me) c.self.view_is ∙ stands.me_is in
    let passed : c.passes.result ≡ true = search rules in
    let still : StandsFor me c.places-near.new.self log = subst (λ t. StandsFor me t log) (sym c.places-near.ensures) stands in
    let row = c.orig_near-row.ensures me log still in
    let lived = c.life_in-lived.ensures ∙ ap life_in row ∙ life_kept (lived_at me log came) in
    let met = c.meeting-met.ensures (lived_at me log came) lived in
    let is : IsHeard me c.places-near.new.self log came c.going_on-life.result
    = record {
      stands = still;
      passing = sym (c.passes.ensures ∙ ap (λ m. passes m (ogm_in came)) my) ∙ passed;
      row_is = goes_on_with (hearing_of me log came) (of came.orig (heard me log)) (is_met me log came) c.life_in-lived.result c.going_on-life.result c.meeting-met.result lived met c.going_on-life.ensures;
    } in
    let path_is = c.path_before-path.ensures me log is in
    let first = first_from (hearing_of me log came) (of came.orig (heard me log)) (is_met me log came) (sym (ap (λ m. m.late) met) ∙ c.if-met.false)
    (sym (ap (λ p. has came.seq p.heard) path_is) ∙ sym c.has.ensures ∙ c.if-has.false) in
    let kept = kept_is me log came c.places-near.new.self c.orig_near-row.result c.going_on-life.result c.meeting-met.result.restart c.best_kept-kept.result still row
    (c.going_on-life.ensures ∙ ap (cond c.meeting-met.result.restart None) c.life_in-lived.ensures) c.best_kept-kept.ensures in
    c.in_ok-hearing.ensures.heard me log (record { is = is; path_is = path_is; first = first }) kept
    ∙ sym (ap (λ b. cond b (answer_to (hearing_of me log came) (life_before me log came)) unheard) is.passing)
