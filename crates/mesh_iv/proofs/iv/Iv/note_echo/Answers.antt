use Rattle.std.proofs.Common.{◌≡◌, ◌∙◌, ap, ap₂, sym, subst, cond, unwrap_or, Some, true, rules}
use Rattle.std.specs.List.Sorted.{IsStrictlySortedBy}
use Rattle.std.specs.Map.{keys_of, lookup}
use Rattle.mesh_model.specs.Routes.Hearings.{heard}
use Rattle.mesh_model.specs.Routes.Ogm.{is_echo}
use Rattle.mesh_model.specs.Routes.Quality.{echoes_from, own_ogms}
use Rattle.mesh_algo.specs.Pairs.{pair_order, same_pair}
use Rattle.mesh_iv.specs.declared.path.Path.{Path}
use Rattle.mesh_iv.specs.Came.{ogm_in}
use Rattle.mesh_iv.specs.Origs.{bests_of, lives_of}
use Rattle.mesh_iv.specs.Rows.{blank, echo_row}
use Rattle.mesh_iv.specs.Tables.{Tables, path_at}
use Rattle.mesh_iv.proofs.EchoLemmas.{echo_stands, echo_with}
use Rattle.mesh_iv.proofs.StandLemmas.{echo_at}
use Rattle.mesh_iv.proofs.iv.Iv.note_echo.Goals as goal

pub returns-clause-noted : goal.returns-clause-noted
returns-clause-noted c =
    λ me log tp stands passing.
    let came = c.args.ogm.now in
    let old : Tables = c.args.self.now in
    let new : Tables = record { me = c.self.inside.me; sent = c.self.inside.sent; lives = lives_of c.self.inside.origs.entries; paths = c.put_near.new.table.entries; bests = bests_of c.self.inside.origs.entries } in
    let paths : c.self.inside.paths.entries ≡ old.paths = ap (λ t. t.paths) c.self.view_is in
    let my : c.self.inside.me ≡ me = ap (λ t. t.me) c.self.view_is ∙ stands.me_is in
    let echo : is_echo me (own_ogms log) (ogm_in came) ≡ true
    = sym (ap₂ (λ m n. is_echo m n (ogm_in came)) my (ap (λ t. t.sent) c.self.view_is ∙ stands.sent_is)) ∙ sym c.is_echo.ensures ∙ search rules in
    let row : Path = record c.unwrap_or-path.result { heard = c.see.new.self } in
    let row_is : row ≡ echo_with me log came (unwrap_or (echo_row (echoes_from me came.from log)) blank)
    = ap (λ w. record c.unwrap_or-path.result { heard = w }) c.see.ensures
    ∙ ap (λ p. echo_with me log came p) (c.unwrap_or-path.ensures ∙ ap₂ (λ p b. unwrap_or p b)
    (c.path_near.ensures me log stands ∙ ap (λ m. path_at me (heard me log) (λ k. echoes_from me k log) (record { orig = m; from = came.from })) my
    ∙ echo_at me came.from (heard me log) (λ k. echoes_from me k log)) c.new.ensures) in
    echo_stands me log came tp old new row stands passing echo (ap (λ t. t.me) c.self.view_is) (ap (λ t. t.sent) c.self.view_is) (ap (λ t. t.lives) c.self.view_is) (ap (λ t. t.bests) c.self.view_is)
    row_is
    (λ pair. c.in_ok-put_near.ensures.updated pair
    ∙ ap₂ (λ m rows. cond (same_pair (record { orig = m; from = came.from }) pair) (Some row) (lookup (same_pair pair) rows)) my paths)
    (c.in_ok-put_near.ensures.rises (subst (λ rows. IsStrictlySortedBy pair_order (keys_of rows)) (sym paths) stands.paths_stand.rise))
