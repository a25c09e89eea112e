use Rattle.std.proofs.Common.{◌≡◌, ◌∙◌, ◌&&◌, refl, ap, ap₂, cond, sym, max, true, false, None, Some, Option, arith, nat_lt, is_none, is_some}
use Rattle.std.specs.Map.{lookup}
use Rattle.std.proofs.lemmas.Bool.{or_parts, ltb-false}
use Rattle.mesh_model.specs.Routes.Addresses.{same_mac}
use Rattle.mesh_laws.proofs.MacLemmas.{same_self}
use Rattle.mesh_algo.specs.declared.life.Life.{Life}
use Rattle.mesh_algo.specs.LifeRows.{newest_by}
use Rattle.mesh_algo.specs.Pairs.{rows_kept, same_pair}
use Rattle.mesh_algo.specs.Walk.{better_row, walk}
use Rattle.mesh_iv.specs.Rows.{average_of, path_score}
use Rattle.mesh_iv.specs.Writing.{has_fallen}
use Rattle.mesh_iv.proofs.BestKept.{walk_with}
use Rattle.mesh_iv.proofs.writing.best_then.Goals as goal

lives : (life : Option Life) → is_none life ≡ false → is_some life ≡ true
lives None e = cc
lives (Some life) e = refl

pub returns : goal.returns
returns c = λ old put.
    let came = c.args.ogm.now in
    let life = c.args.life.now in
    let new = c.args.paths.now.entries in
    let row = c.args.row.now in
    let parts = or_parts (is_none life) (nat_lt (newest_by life) came.seq) (sym c.is_accepted.ensures ∙ c.if-is_accepted.false) in
    let n = newest_by life in
    let no_newer = ltb-false n came.seq parts.1 in
    let top : max n came.seq ≡ n = omega (arith, no_newer) in
    let kept : c.args.kept ≡ walk (path_score n) came.orig None old = put.kept_is.best_is (lives life parts.0) in
    let score : c.average-score.result ≡ path_score n came.from row = c.average-score.ensures ∙ ap (λ m. average_of m row) (c.max-newest.ensures ∙ ap (λ m. max m came.seq) c.newest_of.ensures ∙ top) in
    c.better.ensures ∙ ap₂ (λ b m. better_row b came.from m) kept score
    ∙ walk_with (path_score n) came.orig came.from row old new put.rise put.rise_then
    (λ k. put.rows_are (record { orig = came.orig; from = k })
    ∙ ap₂ (λ x b. cond (x && same_mac came.from k) (Some row) (lookup (same_pair (record { orig = came.orig; from = k })) (rows_kept b came.orig old))) (same_self came.orig) parts.0)
    (sym (ap₂ (λ b m. has_fallen b came.from m) kept score) ∙ sym c.has_fallen.ensures ∙ c.if-has_fallen.false)
    ∙ ap (λ m. walk (path_score m) came.orig None new) (sym top)
