-- The printed gateways (`show NODE gw`): a line `gw NODE mode=M chosen=MAC`, with `chosen=-` for
-- none, and a line `g MAC down=D up=U metric=M` for each that is known. The printed groups (`show
-- NODE mc`): a line `mc NODE count=C`, a line `j MAC VID` for each group that is joined at the
-- node, and a line `m MAC flags=FF` for each originator that tells multicast flags. The printed ARP
-- table (`show NODE dat`): a line `dat NODE count=C`, and a line `d IP VID MAC age=AGE` for each
-- pair. The printed facts (`show NODE alf`): a line `alfred NODE mode=M facts=C`, and a line `a MAC
-- TYPE VERSION MARK age=AGE TEXT` for each; the bytes of a picture are printed in hex digits, in
-- place of TEXT. The printed network (`show NODE vis`) is that of the room's file Pictures. The main
-- word is `service_table_text`.
use Rattle.std.specs.Prelude.{ℕ, ◌+◌, ◌-◌, ◌==◌, List, [], ◌∷◌, ◌++◌, flat_map, length, Option, codes, if◌then◌else◌}
use Rattle.hex.specs.Hex.{encode_lower}
use Rattle.mesh_base.specs.declared.address.Mac.{Mac}
use Rattle.mesh_base.specs.declared.client.Key.{Key}
use Rattle.mesh_model.specs.declared.line_form.AlfredMode.{AlfredMode}
use Rattle.mesh_model.specs.declared.line_form.AlfredMode.TheVariants as storing
use Rattle.mesh_model.specs.declared.service.ArpRow.{ArpRow}
use Rattle.mesh_model.specs.declared.service.Fact.{Fact}
use Rattle.mesh_model.specs.declared.service.GroupRow.{GroupRow}
use Rattle.mesh_model.specs.declared.service.GwMode.{GwMode}
use Rattle.mesh_model.specs.declared.service.GwMode.TheVariants.{Off, Server, Client}
use Rattle.mesh_model.specs.declared.service.GwRow.{GwRow}
use Rattle.mesh_model.specs.declared.service.KeptFact.{KeptFact}
use Rattle.mesh_model.specs.declared.service.Mark.{Mark}
use Rattle.mesh_model.specs.declared.service.Mark.TheVariants.{Local, First, Synced}
use Rattle.mesh_model.specs.Services.Pictures.{picture_type}
use Rattle.mesh_model.specs.Text.Events.{ip_text}
use Rattle.mesh_model.specs.Text.PacketLines.{line_of, named_address, named_number}
use Rattle.mesh_model.specs.Text.Pictures.{network_table_text}
use Rattle.mesh_model.specs.Text.Tables.{address_text, vid_text}

-- a node's name, its part as a gateway, the gateway that it chose, and those that it knows
pub record GatewayTable : Type 0 where
  pub name : List ℕ
  pub mode : GwMode
  pub chosen : Option Mac
  pub rows : List GwRow

-- a node's name, the groups that are joined at it, and the originators that tell flags
pub record GroupTable : Type 0 where
  pub name : List ℕ
  pub joined : List Key
  pub rows : List GroupRow

-- the word of a part as a gateway
abbrev pub mode_word : GwMode → List ℕ
mode_word Off = codes "off"
mode_word Server = codes "server"
mode_word Client = codes "client"

-- the first line of gateways
unfoldable pub gateway_header : List ℕ → GwMode → Option Mac → List ℕ
gateway_header name mode chosen = line_of
    (codes "gw " ∷ name ∷ codes " mode=" ∷ mode_word mode ∷ codes " chosen="
    ∷ address_text chosen ∷ [])

-- the line of a gateway
unfoldable pub gateway_line : GwRow → List ℕ
gateway_line row = line_of
    (named_address (codes "g ") row.orig ∷ named_number (codes " down=") row.down
    ∷ named_number (codes " up=") row.up ∷ named_number (codes " metric=") row.metric ∷ [])

-- the gateways as they are printed
abbrev pub gateway_table_text : GatewayTable → List ℕ
gateway_table_text table = gateway_header table.name table.mode table.chosen
    ++ flat_map gateway_line table.rows

-- the first line of groups
unfoldable pub group_header : List ℕ → ℕ → List ℕ
group_header name count =
    line_of (codes "mc " ∷ name ∷ named_number (codes " count=") count ∷ [])

-- the line of a group that is joined at the node
unfoldable pub joined_line : Key → List ℕ
joined_line key =
    line_of (named_address (codes "j ") key.mac ∷ codes " " ∷ vid_text key.vid ∷ [])

-- the line of an originator that tells flags
unfoldable pub groups_line : GroupRow → List ℕ
groups_line row = line_of
    (named_address (codes "m ") row.orig ∷ codes " flags=" ∷ encode_lower (row.flags ∷ []) ∷ [])

-- the groups as they are printed
abbrev pub group_table_text : GroupTable → List ℕ
group_table_text table = group_header table.name (length table.joined + length table.rows)
    ++ flat_map joined_line table.joined ++ flat_map groups_line table.rows

-- a node's name, and the pairs that it knows
pub record AddressTable : Type 0 where
  pub name : List ℕ
  pub rows : List ArpRow

-- the first line of the ARP table
unfoldable pub address_header : List ℕ → ℕ → List ℕ
address_header name count =
    line_of (codes "dat " ∷ name ∷ named_number (codes " count=") count ∷ [])

-- the line of a pair
unfoldable pub address_line : ArpRow → List ℕ
address_line row = line_of
    (codes "d " ∷ ip_text row.ip ∷ codes " " ∷ vid_text row.vid ∷ named_address (codes " ") row.mac
    ∷ named_number (codes " age=") row.age ∷ [])

-- the ARP table as it is printed
abbrev pub address_table_text : AddressTable → List ℕ
address_table_text table =
    address_header table.name (length table.rows) ++ flat_map address_line table.rows

-- a node's name, its part in the fact store, the moment, and the facts that it keeps
pub record FactTable : Type 0 where
  pub name : List ℕ
  pub mode : AlfredMode
  pub now : ℕ
  pub rows : List KeptFact

-- the word of a part in the fact store
abbrev pub store_word : AlfredMode → List ℕ
store_word storing.Off = codes "off"
store_word storing.Primary = codes "primary"
store_word storing.Secondary = codes "secondary"

-- the word of a mark
abbrev pub mark_word : Mark → List ℕ
mark_word Local = codes "local"
mark_word First = codes "first"
mark_word Synced = codes "synced"

-- the first line of facts
unfoldable pub fact_header : List ℕ → AlfredMode → ℕ → List ℕ
fact_header name mode count = line_of
    (codes "alfred " ∷ name ∷ codes " mode=" ∷ store_word mode ∷ named_number (codes " facts=") count
    ∷ [])

-- the bytes of a fact as they are printed: those of a picture in hex digits
abbrev pub fact_text : Fact → List ℕ
fact_text fact =
    if fact.type_no == picture_type then encode_lower fact.bytes else fact.bytes

-- the line of a fact at a moment
unfoldable pub fact_line : ℕ → KeptFact → List ℕ
fact_line now kept = line_of
    (named_address (codes "a ") kept.fact.source ∷ named_number (codes " ") kept.fact.type_no
    ∷ named_number (codes " ") kept.fact.version ∷ codes " " ∷ mark_word kept.mark
    ∷ named_number (codes " age=") (now - kept.moment) ∷ codes " " ∷ fact_text kept.fact ∷ [])

-- the facts as they are printed
abbrev pub fact_table_text : FactTable → List ℕ
fact_table_text table = fact_header table.name table.mode (length table.rows)
    ++ flat_map (fact_line table.now) table.rows

-- a node's name, and the facts by which it shows the network
pub record PictureTable : Type 0 where
  pub name : List ℕ
  pub facts : List Fact

-- the network as it is printed
abbrev pub picture_table_text : PictureTable → List ℕ
picture_table_text table = network_table_text table.name table.facts

-- a table of a service
pub data ServiceTable : Type 0 where
  GatewaysOf : GatewayTable → ServiceTable
  GroupsOf : GroupTable → ServiceTable
  AddressesOf : AddressTable → ServiceTable
  FactsOf : FactTable → ServiceTable
  PicturesOf : PictureTable → ServiceTable

-- a table of a service as it is printed
abbrev pub service_table_text : ServiceTable → List ℕ
service_table_text (GatewaysOf table) = gateway_table_text table
service_table_text (GroupsOf table) = group_table_text table
service_table_text (AddressesOf table) = address_table_text table
service_table_text (FactsOf table) = fact_table_text table
service_table_text (PicturesOf table) = picture_table_text table
