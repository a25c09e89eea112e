-- Pictures in JSON have no float.
use Rattle.std.proofs.Common.{◌≡◌, ℕ, List, [], ◌∷◌, map, refl, true, false}
use Rattle.std.specs.Prelude.{Bool, filter_map, Option, Some, None, option_map, if◌then◌else◌, ◌==◌}
use Rattle.std.specs.List.{cons_option}
use Rattle.serde_json.specs.Data.{Data}
use Rattle.serde_json.specs.View.{items_of}
use Rattle.serde_json.specs.Written.{has_float, items_have_float}
use Rattle.mesh_base.specs.declared.address.Mac.{Mac}
use Rattle.mesh_base.specs.declared.client.Key.{Key}
use Rattle.mesh_model.specs.declared.service.Fact.{Fact}
use Rattle.mesh_model.specs.Packets.Pictures.{Picture, picture_of_bytes}
use Rattle.mesh_model.specs.Text.Pictures.{client_data, fact_data, neighbour_data, network_data, picture_data}

clients_plain : (keys : List Key) → items_have_float (items_of (map client_data keys)) ≡ false
clients_plain [] = refl
clients_plain (key ∷ keys) = clients_plain keys

neighbours_plain : (rows : List (Mac × ℕ)) → items_have_float (items_of (map neighbour_data rows)) ≡ false
neighbours_plain [] = refl
neighbours_plain (row ∷ rows) = neighbours_plain rows

picture_plain : (node : Mac) (picture : Picture) → has_float (picture_data node picture) ≡ false
picture_plain node picture = rw (clients_plain picture.clients, neighbours_plain picture.neighbours) refl

item_plain : (node : Mac) (is : Bool) (found : Option Picture) (rest : List Data) → items_have_float (items_of rest) ≡ false
    → items_have_float (items_of (cons_option (if is then option_map (picture_data node) found else None) rest)) ≡ false
item_plain node true (Some picture) rest plain = rw (picture_plain node picture, plain) refl
item_plain node true None rest plain = plain
item_plain node false found rest plain = plain

pub network_plain : (facts : List Fact) → has_float (network_data facts) ≡ false
network_plain [] = refl
network_plain (fact ∷ facts) = item_plain fact.source (fact.type_no == 1) (picture_of_bytes fact.bytes) (filter_map fact_data facts) (network_plain facts)
