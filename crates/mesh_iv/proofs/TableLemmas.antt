-- The keys of the table of originators, and what the readers by place rest on.
use Rattle.std.proofs.Common.{◌≡◌, List, is_some, sym, ap, ◌∙◌}
use Rattle.std.specs.Map.{keys_of}
use Rattle.mesh_base.specs.declared.address.Mac.{Mac}
use Rattle.mesh_model.specs.Routes.Hearings.{heard}
use Rattle.mesh_model.specs.Routes.Life.{of, heard_originators}
use Rattle.mesh_model.specs.Routes.RouteLog.{RouteLog}
use Rattle.mesh_algo.proofs.OrigLemmas.{keys_are_heard}
use Rattle.mesh_algo.proofs.LifeRows.{any_key, some_row}
use Rattle.mesh_iv.specs.declared.row.Orig.{Orig}
use Rattle.mesh_iv.specs.Origs.{lives_of}
use Rattle.mesh_iv.specs.Tables.{StandsFor, Tables}
use Rattle.mesh_iv.proofs.RowLemmas.{keys_of_lives}

-- the keys are the originators heard
heard_keys : (me : Mac) (tables : Tables) (log : RouteLog) → StandsFor me tables log → keys_of tables.lives ≡ heard_originators (heard me log)
heard_keys me tables log stands =
    keys_are_heard (keys_of tables.lives) (heard me log) stands.lives_stand.rise
    (λ q. any_key q tables.lives ∙ ap (λ r. is_some r) (stands.lives_stand.are q) ∙ some_row (of q (heard me log)))

-- so are those of the rows
pub keys_are : (me : Mac) (tables : Tables) (log : RouteLog) (rows : List (Mac × Orig)) → StandsFor me tables log → lives_of rows ≡ tables.lives → keys_of rows ≡ heard_originators (heard me log)
keys_are me tables log rows stands lives =
    sym (keys_of_lives rows) ∙ ap keys_of lives ∙ heard_keys me tables log stands
