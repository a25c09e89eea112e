-- Lines of worked scenarios with links, and what stands in them.
use Rattle.std.specs.Prelude.{ℕ, Bool, zero, suc, List, [], ◌∷◌, ◌++◌, replicate, codes, decimal, Option, Some, None, is_some}
use Rattle.mesh_base.specs.Address.{hex_of_byte}
use Rattle.mesh_base.specs.declared.address.Mac.{Mac}
use Rattle.mesh_model.specs.Clients.Settings.{first_settings}
use Rattle.mesh_model.specs.declared.act.Act.{Act}
use Rattle.mesh_model.specs.declared.act.Act.TheVariants.{Link}
use Rattle.mesh_model.specs.declared.ending.LimitName.{LimitName}
use Rattle.mesh_model.specs.declared.frame_choice.FrameChoice.TheVariants.{Hidden}
use Rattle.mesh_model.specs.declared.packet.Head.TheVariants.{IvOgm}
use Rattle.mesh_model.specs.declared.table_row.LocalRow.{LocalRow}
use Rattle.mesh_model.specs.Acts.Choosing.{acts_of}
use Rattle.mesh_model.specs.Acts.OwnContainers.{own_containers}
use Rattle.mesh_model.specs.Clients.Limits.{limit_beside}
use Rattle.mesh_model.specs.Clients.Log.{LinkFrame}
use Rattle.mesh_model.specs.Net.Mesh.{NetLink, empty_mesh}
use Rattle.mesh_model.specs.Packets.Containers.{Container, containers_spelling}
use Rattle.mesh_model.specs.Packets.Layout.{spelling}
use Rattle.mesh_model.specs.Packets.Numbers.{ogm_diff_flag}
use Rattle.mesh_model.specs.Routes.AlgorithmIv.{iv_queries, own_ogm}
use Rattle.mesh_model.specs.Run.State.{first_state}
use Rattle.mesh_model.specs.Run.Steps.{link_step}
use Rattle.mesh_rows.specs.NetRows.{stop_of}

-- the lines of two nodes with a link each way
abbrev pub duo : List (List ℕ)
duo =
    codes "node A 02:00:00:00:00:0a" ∷ codes "node B 02:00:00:00:00:0b" ∷ codes "link A B"
    ∷ codes "link B A" ∷ []

-- the line of a node's own originator message: `fN T A>B`, its number and the last digit of the
-- node's address
abbrev pub message_line : List ℕ → List ℕ → List ℕ → List ℕ
message_line sent number digit =
    sent ++ codes " iv_ogm 000f32000000000" ++ number ++ codes "02000000000" ++ digit
    ++ codes "02000000000" ++ digit ++ codes "00ff000c" ++ codes "020100000401000401000000"

-- the line of such a message that a neighbour of the node sends on: `fN T A>B`, its flags, its
-- number, the last digit of the node's address and its quality
abbrev pub forwarded_line : List ℕ → List ℕ → List ℕ → List ℕ → List ℕ → List ℕ
forwarded_line sent flags number digit quality =
    sent ++ codes " iv_ogm 000f31" ++ flags ++ codes "0000000" ++ number ++ codes "02000000000"
    ++ digit ++ codes "02000000000" ++ digit ++ codes "00" ++ quality
    ++ codes "000c020100000401000401000000"

-- the address of a node by the last byte
abbrev pub node_mac : ℕ → Mac
node_mac last = record { 0 = 2 ∷ 0 ∷ 0 ∷ 0 ∷ 0 ∷ last ∷ [] }

-- the containers of a node that has no clients and never had one
abbrev pub bare_containers : List Container
bare_containers = own_containers first_settings
    (record { flags = ogm_diff_flag; ttvn = 0; vlans = []; changes = [] })

-- a node's own originator message in bytes, by the last byte of its address, its number and its
-- containers
abbrev pub message_bytes : ℕ → ℕ → List Container → List ℕ
message_bytes last number containers =
    spelling (own_ogm (node_mac last) number) (containers_spelling containers)

-- such a message, sent on by a neighbour for which it has no quality yet
abbrev pub sent_on : ℕ → ℕ → List Container → Act
sent_on last number containers = Link None None
    (spelling (IvOgm 49 5 number (node_mac last) (node_mac last) 0)
    (containers_spelling containers))

-- what node B puts that is given a link frame of these bytes by node A, and was given nothing
-- before
abbrev pub acts_on : List ℕ → List Act
acts_on bytes = acts_of (iv_queries (node_mac 11)) (node_mac 11) [] 1001
    (LinkFrame 1 (node_mac 10) 10 bytes)

-- a link
abbrev pub some_link : NetLink
some_link = record { from = 0; to = 1; delay = 1; pattern = codes "."; throughput = 10 }

-- a client that is present
abbrev pub some_row : LocalRow
some_row = record {
  entry = record { key = record { mac = node_mac 1; vid = record { 0 = 0 } }; flags = 0 };
  age = Some 0;
}

-- the lines of so many nodes
abbrev pub many_nodes : ℕ → List (List ℕ)
many_nodes zero = []
many_nodes (suc more) =
    many_nodes more
    ++ (codes "node N" ++ decimal more ++ codes " 02:00:00:00:00:" ++ hex_of_byte more) ∷ []

-- the lines of clients in so many VLANs at the node A
abbrev pub many_vlans : ℕ → List (List ℕ)
many_vlans zero = []
many_vlans (suc more) =
    many_vlans more
    ++ (codes "frame A 02:00:00:00:01:01 ff:ff:ff:ff:ff:ff " ++ decimal (suc more) ++ codes " x")
    ∷ []

-- whether no link may be added to so many
abbrev pub is_full_after : ℕ → Bool
is_full_after count = is_some (stop_of (link_step some_link
    (record (first_state Hidden)
    { mesh = record empty_mesh { links = replicate count some_link } })))

-- the limit that a client passes beside so many
abbrev pub limit_after : ℕ → Option LimitName
limit_after count = limit_beside (replicate count some_row) (record { 0 = 0 })
