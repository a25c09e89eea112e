use Rattle.std.proofs.Common.{◌∙◌, ◌++◌, ◌∷◌, ◌≤◌, [], ap, append-nil, filter_map, length, sym, rules}
use Rattle.std.specs.Option.{option_map_or}
use Rattle.mesh_model.specs.Routes.Hearings.{heard}
use Rattle.mesh_model.specs.Routes.Life.{heard_originators}
use Rattle.mesh_iv.specs.Answers.{row_of_orig}
use Rattle.mesh_iv.proofs.OrigLemmas.{all_keys, more_made}
use Rattle.mesh_iv.proofs.TableLemmas.{keys_are}
use Rattle.mesh_iv.proofs.answers.IvAlgo.originators.Goals as goal
use Rattle.mesh_iv.proofs.answers.IvAlgo.originators.Goals.{in-Some+in_ok-push, in_default}

pub loop-place-preserved : goal.loop-place-preserved
loop-place-preserved c =
    λ me log stands.
    let rows = c.loop-place.rows.items in
    let more = more_made (row_of_orig me log c.args.now) (heard_originators (heard me log)) c.loop-place.place rows c.orig_row_at.result (c.loop-place.invariant me log stands) (c.orig_row_at.ensures me log stands) in
    elim c.match-orig_row_at.branch [
      | in-Some+in_ok-push w ↦ ap (λ r. r.items) w.rows-is ∙ w.in_ok-push.ensures.items ∙ ap (λ o. rows ++ option_map_or (λ r. r ∷ []) o []) (sym w.in-Some.is) ∙ more
      | in_default w ↦ ap (λ r. r.items) w.rows-is ∙ sym (append-nil rows) ∙ ap (λ o. rows ++ option_map_or (λ r. r ∷ []) o []) (sym w.in_default.is) ∙ more
    ]

pub returns : goal.returns
returns c =
    λ me log stands.
    let long : length c.self.inside.origs.entries ≤ c.loop-place.place = search rules in
    c.loop-place.invariant me log stands
    ∙ ap (filter_map (row_of_orig me log c.args.now)) (all_keys c.self.inside.origs.entries _ c.loop-place.place (keys_are me c.args.self.now log c.self.inside.origs.entries stands (ap (λ t. t.lives) c.self.view_is)) long)
