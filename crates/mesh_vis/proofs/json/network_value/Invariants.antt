use Rattle.std.proofs.Common.{◌≡◌, map, take, filter_map}
use Rattle.serde_json.specs.View.{view}
use Rattle.mesh_model.specs.Text.Pictures.{fact_data}
use Rattle.mesh_vis.proofs.json.network_value.Given as goal

abbrev pub invariant-loop-kept : goal.invariant-loop-kept
invariant-loop-kept l =
    map view l.items.items ≡ filter_map fact_data (map (λ kept. kept.now.fact) (take l.kept-index l.rows))
