use Rattle.std.proofs.Common.{◌≡◌, map, take}
use Rattle.serde_json.specs.View.{view}
use Rattle.mesh_model.specs.Text.Pictures.{client_data}
use Rattle.mesh_vis.proofs.json.clients_value.Given as goal

abbrev pub invariant-loop-i : goal.invariant-loop-i
invariant-loop-i l = map view l.items.items ≡ map client_data (take l.i l.picture.clients)
