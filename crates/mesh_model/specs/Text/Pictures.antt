-- The printed picture of the network (`show NODE vis`): `vis NODE `, and in JSON without spaces a
-- list of an object for each fact that is a picture, in the order of the facts. An object has, in
-- this order, `clients`, a list of texts `MAC/VID`; `neighbors`, a list of objects with `metric`, a
-- number, and `router`, a MAC; and `node`, the MAC of the fact's source. A fact of type 1 whose
-- bytes aren't a picture has no object. The main words are `network_text` and `network_table_text`.
use Rattle.std.specs.Prelude.{ℕ, ◌==◌, List, [], ◌∷◌, ◌++◌, map, filter_map, codes, Option, None, option_map, if◌then◌else◌}
use Rattle.serde_json.specs.Data.{Data, array, member, no_members, number, object, string, unsigned}
use Rattle.serde_json.specs.View.{items_of}
use Rattle.serde_json.specs.Written.{compact_text}
use Rattle.mesh_base.specs.Address.{mac_text}
use Rattle.mesh_base.specs.declared.address.Mac.{Mac}
use Rattle.mesh_base.specs.declared.client.Key.{Key}
use Rattle.mesh_model.specs.declared.service.Fact.{Fact}
use Rattle.mesh_model.specs.Packets.Pictures.{Picture, picture_of_bytes}
use Rattle.mesh_model.specs.Services.Pictures.{picture_type}
use Rattle.mesh_model.specs.Text.PacketLines.{line_of}
use Rattle.mesh_model.specs.Text.Tables.{vid_text}

-- a list in JSON
abbrev pub list_data : List Data → Data
list_data items = array (items_of items)

-- a client in JSON: its address and its VLAN
abbrev pub client_data : Key → Data
client_data key = string (mac_text key.mac ++ codes "/" ++ vid_text key.vid)

-- a neighbour in JSON: its metric and its address
abbrev pub neighbour_data : Mac × ℕ → Data
neighbour_data neighbour = object
    (member (codes "metric") (number (unsigned neighbour.1))
    (member (codes "router") (string (mac_text neighbour.0)) no_members))

-- a picture of a node in JSON
abbrev pub picture_data : Mac → Picture → Data
picture_data node picture = object
    (member (codes "clients") (list_data (map client_data picture.clients))
    (member (codes "neighbors") (list_data (map neighbour_data picture.neighbours))
    (member (codes "node") (string (mac_text node)) no_members)))

-- a fact in JSON, where it is a picture
abbrev pub fact_data : Fact → Option Data
fact_data fact = if fact.type_no == picture_type
    then option_map (picture_data fact.source) (picture_of_bytes fact.bytes) else None

-- the pictures among facts, in JSON
abbrev pub network_data : List Fact → Data
network_data facts = list_data (filter_map fact_data facts)

-- the network as facts tell of it
unfoldable pub network_text : List Fact → List ℕ
network_text facts = compact_text (network_data facts)

-- the first words of what is printed for a node of this name
abbrev pub network_header : List ℕ → List ℕ
network_header name = codes "vis " ++ name ++ codes " "

-- the network as it is printed for a node of this name
abbrev pub network_table_text : List ℕ → List Fact → List ℕ
network_table_text name facts = line_of (network_header name ∷ network_text facts ∷ [])
