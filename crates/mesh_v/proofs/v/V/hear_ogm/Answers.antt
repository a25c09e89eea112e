use Rattle.std.proofs.Common.{◌≡◌, ◌∙◌, ap, sym, cond, true, false, rules}
use Rattle.mesh_model.specs.Routes.AlgorithmV.{answer_to_v}
use Rattle.mesh_model.specs.Routes.HearingsV.{heard_v}
use Rattle.mesh_model.specs.Routes.Life.{is_first, of}
use Rattle.mesh_model.specs.Routes.Numbers.{has}
use Rattle.mesh_model.specs.Routes.Queries.{unheard}
use Rattle.mesh_algo.proofs.HearingLemmas.{first_from, late_not_first, restarted_is, seen_not_first}
use Rattle.mesh_v.specs.Hears.{hearing_of, life_before}
use Rattle.mesh_v.proofs.StepLemmas.{is_heard, is_met, passed_stands, touched_answer}
use Rattle.mesh_v.proofs.v.V.hear_ogm.Goals as goal
use Rattle.mesh_v.proofs.v.V.hear_ogm.Goals.{then-met-via-then-met, then-met-via-else-met+then-has}

pub returns-then-not-passes-clause-noted : goal.returns-then-not-passes-clause-noted
returns-then-not-passes-clause-noted c =
    λ me log stands.
    let unheard_ogm : c.passes.result ≡ false = search rules in
    passed_stands me log c.args.ogm.now c.args.self.now stands (sym (c.passes.ensures me log stands (c.orig_near-orig.ensures me log stands)) ∙ unheard_ogm)

pub returns-then-met-clause-noted : goal.returns-then-met-clause-noted
returns-then-met-clause-noted c =
    λ me log stands.
    let came = c.args.ogm.now in
    let orig_is = c.orig_near-orig.ensures me log stands in
    let passed : c.passes.result ≡ true = search rules in
    let known = is_heard me log came c.args.self.now stands (sym (c.passes.ensures me log stands orig_is) ∙ passed) c.orig_near-orig.result orig_is
    c.lived-lived.result c.going_on-life.result c.meeting-met.result c.elp_in-elp.result c.lived-lived.ensures c.meeting-met.ensures c.going_on-life.ensures c.elp_in-elp.ensures in
    let is = known.0 in
    let met = known.1 in
    let path_is = c.path_before-path.ensures me log c.elp_in-elp.result is in
    let first : is_first (hearing_of me log came) (life_before me log came) ≡ false = elim c.then-met.branch [
      | then-met-via-then-met w ↦ late_not_first (hearing_of me log came) (life_before me log came) (sym (ap (λ m. m.late) met) ∙ w.if-met.true)
      | then-met-via-else-met+then-has w ↦ seen_not_first (hearing_of me log came) (life_before me log came) (sym (ap (λ p. has came.seq p.heard) path_is) ∙ sym w.has.ensures ∙ w.if-has.true)
    ] in
    c.in_ok-touch.ensures.noted me log is first

pub returns-then-met-clause-heard : goal.returns-then-met-clause-heard
returns-then-met-clause-heard c =
    λ me log stands.
    let came = c.args.ogm.now in
    let orig_is = c.orig_near-orig.ensures me log stands in
    let passed : c.passes.result ≡ true = search rules in
    let known = is_heard me log came c.args.self.now stands (sym (c.passes.ensures me log stands orig_is) ∙ passed) c.orig_near-orig.result orig_is
    c.lived-lived.result c.going_on-life.result c.meeting-met.result c.elp_in-elp.result c.lived-lived.ensures c.meeting-met.ensures c.going_on-life.ensures c.elp_in-elp.ensures in
    let is = known.0 in
    let met = known.1 in
    let path_is = c.path_before-path.ensures me log c.elp_in-elp.result is in
    let first : is_first (hearing_of me log came) (life_before me log came) ≡ false = elim c.then-met.branch [
      | then-met-via-then-met w ↦ late_not_first (hearing_of me log came) (life_before me log came) (sym (ap (λ m. m.late) met) ∙ w.if-met.true)
      | then-met-via-else-met+then-has w ↦ seen_not_first (hearing_of me log came) (life_before me log came) (sym (ap (λ p. has came.seq p.heard) path_is) ∙ sym w.has.ensures ∙ w.if-has.true)
    ] in
    sym (ap (λ b. cond b (answer_to_v came.flags (hearing_of me log came) (life_before me log came)) unheard) is.passing
    ∙ touched_answer me log came c.going_on-life.result is.row_is first)

pub returns-clause-noted : goal.returns-clause-noted
returns-clause-noted c =
    λ me log stands.
    let came = c.args.ogm.now in
    let orig_is = c.orig_near-orig.ensures me log stands in
    let passed : c.passes.result ≡ true = search rules in
    let known = is_heard me log came c.args.self.now stands (sym (c.passes.ensures me log stands orig_is) ∙ passed) c.orig_near-orig.result orig_is
    c.lived-lived.result c.going_on-life.result c.meeting-met.result c.elp_in-elp.result c.lived-lived.ensures c.meeting-met.ensures c.going_on-life.ensures c.elp_in-elp.ensures in
    let is = known.0 in
    let met = known.1 in
    let path_is = c.path_before-path.ensures me log c.elp_in-elp.result is in
    let first = first_from (hearing_of me log came) (of came.orig (heard_v me log)) (is_met me log came) (sym (ap (λ m. m.late) met) ∙ c.if-met.false)
    (sym (ap (λ p. has came.seq p.heard) path_is) ∙ sym c.has.ensures ∙ c.if-has.false) in
    c.in_ok-hearing.ensures.noted me log (record { is = is; path_is = path_is; first = first })
    (restarted_is (hearing_of me log came) (of came.orig (heard_v me log)) (is_met me log came) c.going_on-life.result c.meeting-met.result c.restarted_then-restarted.result is.row_is met c.restarted_then-restarted.ensures)

pub returns-clause-heard : goal.returns-clause-heard
returns-clause-heard c =
    λ me log stands.
    let came = c.args.ogm.now in
    let orig_is = c.orig_near-orig.ensures me log stands in
    let passed : c.passes.result ≡ true = search rules in
    let known = is_heard me log came c.args.self.now stands (sym (c.passes.ensures me log stands orig_is) ∙ passed) c.orig_near-orig.result orig_is
    c.lived-lived.result c.going_on-life.result c.meeting-met.result c.elp_in-elp.result c.lived-lived.ensures c.meeting-met.ensures c.going_on-life.ensures c.elp_in-elp.ensures in
    let is = known.0 in
    let met = known.1 in
    let path_is = c.path_before-path.ensures me log c.elp_in-elp.result is in
    let first = first_from (hearing_of me log came) (of came.orig (heard_v me log)) (is_met me log came) (sym (ap (λ m. m.late) met) ∙ c.if-met.false)
    (sym (ap (λ p. has came.seq p.heard) path_is) ∙ sym c.has.ensures ∙ c.if-has.false) in
    c.in_ok-hearing.ensures.heard me log (record { is = is; path_is = path_is; first = first })
    ∙ sym (ap (λ b. cond b (answer_to_v came.flags (hearing_of me log came) (life_before me log came)) unheard) is.passing)
