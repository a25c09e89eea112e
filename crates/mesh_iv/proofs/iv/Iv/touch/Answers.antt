use Rattle.std.proofs.Common.{◌≡◌, ◌∙◌, ap, ap₂, sym, subst, cond, Some, None, refl, rules}
use Rattle.std.specs.List.Sorted.{IsStrictlySortedBy}
use Rattle.std.specs.Map.{keys_of, lookup}
use Rattle.mesh_model.specs.Routes.Addresses.{mac_order, same_mac}
use Rattle.mesh_model.specs.Routes.Hearings.{heard}
use Rattle.mesh_model.specs.Routes.Life.{of}
use Rattle.mesh_iv.specs.declared.row.Orig.{Orig}
use Rattle.mesh_iv.specs.Hears.{IsHeard, hearing_of}
use Rattle.mesh_iv.specs.Origs.{bests_of, lives_of}
use Rattle.mesh_iv.specs.Tables.{Tables}
use Rattle.mesh_iv.specs.Writing.{IsKept}
use Rattle.mesh_algo.proofs.HearingLemmas.{touches_life}
use Rattle.mesh_iv.proofs.RowLemmas.{lives_rise, part_put}
use Rattle.mesh_iv.proofs.StepLemmas.{touch_stands}
use Rattle.mesh_iv.proofs.ValueLemmas.{is_met}
use Rattle.mesh_iv.proofs.iv.Iv.touch.Goals as goal

pub returns-in_default-clause-noted : goal.returns-in_default-clause-noted
returns-in_default-clause-noted c =
    λ me log tp is kept first.
    let none : c.args.life.now ≡ None = search rules in
    absurd (touches_life (hearing_of me log c.args.ogm.now) (of c.args.ogm.now.orig (heard me log)) (is_met me log c.args.ogm.now) (sym is.row_is ∙ none) first)

pub returns-clause-noted : goal.returns-clause-noted
returns-clause-noted c =
    λ me log tp is kept first.
    let came = c.args.ogm.now in
    let rows = c.self.inside.origs.entries in
    let rows_then = c.put_near.new.table.entries in
    let old : Tables = c.args.self.now in
    let new : Tables = record { me = c.self.inside.me; sent = c.self.inside.sent; lives = lives_of rows_then; paths = c.self.inside.paths.entries; bests = bests_of rows_then } in
    let lives : lives_of rows ≡ old.lives = ap (λ t. t.lives) c.self.view_is in
    let heard : IsHeard me old log came (Some c.in-Some.life) = subst (λ row. IsHeard me old log came row) c.in-Some.is is in
    let best : IsKept came (Some c.in-Some.life) c.args.best new.paths = subst (λ row. IsKept came row c.args.best new.paths) c.in-Some.is (subst (λ t. IsKept came c.args.life.now c.args.best t.paths) (sym c.self.view_is) kept) in
    touch_stands me log came tp c.in-Some.life old new heard first (ap (λ t. t.me) c.self.view_is) (ap (λ t. t.sent) c.self.view_is)
    (λ q. part_put (λ (row : Orig). row.life) came.orig _ rows rows_then c.in_ok-put_near.ensures.updated q
    ∙ ap₂ (λ l ls. cond (same_mac came.orig q) (Some l) (lookup (same_mac q) ls)) c.touched-life.ensures lives)
    (lives_rise rows rows_then c.in_ok-put_near.ensures.rises (subst (λ ls. IsStrictlySortedBy mac_order (keys_of ls)) (sym lives) is.stands.lives_stand.rise))
    (ap (λ t. t.paths) c.self.view_is)
    (λ q. part_put (λ (row : Orig). row.best) came.orig _ rows rows_then c.in_ok-put_near.ensures.updated q
    ∙ ap₂ (λ b bs. cond (same_mac came.orig q) (Some b) (lookup (same_mac q) bs)) (best.best_is refl) (ap (λ t. t.bests) c.self.view_is))
