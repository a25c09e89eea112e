-- The lines of what a run prints at once, each with its newline: a table has its first line, and
-- then one for each row; what is decoded has those of its packets; an event that the choice shows
-- has one. The main word is `item_lines`.
use Rattle.std.specs.Prelude.{ℕ, ◌+◌, List, [], ◌∷◌, ◌++◌, length, flat_map, map, codes, if◌then◌else◌, ⊤}
use Rattle.mesh_model.specs.declared.frame_choice.FrameChoice.{FrameChoice}
use Rattle.mesh_model.specs.declared.service.KeptFact.{KeptFact}
use Rattle.mesh_model.specs.Net.Next.{Has}
use Rattle.mesh_model.specs.Run.State.{Printed, ClaimsShown, Decoded, GlobalsShown, Happened, LocalsShown, NeighborsShown, OriginatorsShown, ServiceShown}
use Rattle.mesh_model.specs.Text.Claims.{ClaimTable, claim_header, claim_line, name_or_dash}
use Rattle.mesh_model.specs.Text.Decode.{decode_lines}
use Rattle.mesh_model.specs.Text.Events.{event_line, is_shown}
use Rattle.mesh_model.specs.Text.GlobalTables.{GlobalPart, GlobalTable, entry_line, global_header, global_line, mark_line}
use Rattle.mesh_model.specs.Text.Services.{AddressTable, AddressesOf, FactTable, FactsOf, GatewayTable, GatewaysOf, GroupTable, GroupsOf, PictureTable, PicturesOf, ServiceTable, address_header, address_line, fact_header, fact_line, fact_text, gateway_header, gateway_line, group_header, groups_line, joined_line, picture_table_text}
use Rattle.mesh_model.specs.Text.Tables.{LinkTable, LocalTable, OrigTable, local_header, local_line, neighbor_line, orig_line, route_header, vlan_line}
use Rattle.mesh_laws.specs.Cuts.{IsUnbroken}
use Rattle.mesh_lines.specs.LineWords.{AreNamed, HasPlainText, IsWord}

-- the lines of a node's local table
abbrev pub local_lines : LocalTable → List (List ℕ)
local_lines table = local_header table.name table.version (length table.rows)
    ∷ map vlan_line table.sums ++ map local_line table.rows

-- the lines of a node's originators
abbrev pub orig_lines : OrigTable → List (List ℕ)
orig_lines table = route_header (codes "o") table.name table.algorithm (length table.rows)
    ∷ map orig_line table.rows

-- the lines of a node's neighbours
abbrev pub link_lines : LinkTable → List (List ℕ)
link_lines table = route_header (codes "n") table.name table.algorithm (length table.rows)
    ∷ map neighbor_line table.rows

-- the line of an originator, and those of its entries
abbrev pub part_lines : GlobalPart → List (List ℕ)
part_lines part = global_line part.row (length part.entries) ∷ map entry_line part.entries

-- the first line of what a node knows of the others' clients
abbrev pub global_first : GlobalTable → List ℕ
global_first table = global_header table.name (length table.parts)

-- the lines of what a node knows of the others' clients
abbrev pub global_lines : GlobalTable → List (List ℕ)
global_lines table =
    global_first table ∷ flat_map part_lines table.parts ++ map mark_line table.marks

-- the lines of the claims of a gateway
abbrev pub claim_lines : ClaimTable → List (List ℕ)
claim_lines table = claim_header table.name table.lan (length table.rows)
    ∷ map claim_line table.rows

-- the lines of the gateways of a node
abbrev pub gateway_lines : GatewayTable → List (List ℕ)
gateway_lines table = gateway_header table.name table.mode table.chosen
    ∷ map gateway_line table.rows

-- the lines of the groups of a node
abbrev pub group_lines : GroupTable → List (List ℕ)
group_lines table = group_header table.name (length table.joined + length table.rows)
    ∷ map joined_line table.joined ++ map groups_line table.rows

-- the lines of the ARP table of a node
abbrev pub address_lines : AddressTable → List (List ℕ)
address_lines table = address_header table.name (length table.rows)
    ∷ map address_line table.rows

-- the lines of the facts of a node
abbrev pub fact_lines : FactTable → List (List ℕ)
fact_lines table = fact_header table.name table.mode (length table.rows)
    ∷ map (fact_line table.now) table.rows

-- the line of the network as a node shows it
abbrev pub picture_lines : PictureTable → List (List ℕ)
picture_lines table = picture_table_text table ∷ []

-- the lines of a table of a service
abbrev pub service_lines : ServiceTable → List (List ℕ)
service_lines (GatewaysOf table) = gateway_lines table
service_lines (GroupsOf table) = group_lines table
service_lines (AddressesOf table) = address_lines table
service_lines (FactsOf table) = fact_lines table
service_lines (PicturesOf table) = picture_lines table

-- the lines of what is printed at once
abbrev pub item_lines : FrameChoice → Printed → List (List ℕ)
item_lines choice (LocalsShown table) = local_lines table
item_lines choice (OriginatorsShown table) = orig_lines table
item_lines choice (NeighborsShown table) = link_lines table
item_lines choice (GlobalsShown table) = global_lines table
item_lines choice (ClaimsShown table) = claim_lines table
item_lines choice (ServiceShown table) = service_lines table
item_lines choice (Decoded bytes) = decode_lines bytes
item_lines choice (Happened names event) =
    if is_shown choice event then event_line names event ∷ [] else []

-- the lines of what is printed in this order
abbrev pub lines_printed : FrameChoice → List Printed → List (List ℕ)
lines_printed choice printed = flat_map (item_lines choice) printed

-- the bytes of facts, as they are printed, have no newline
abbrev pub ArePlainFacts : List KeptFact → Type 0
ArePlainFacts rows = (kept : KeptFact) → Has rows kept → IsUnbroken (fact_text kept.fact)

-- the name of the node of a table of a service is a word, and the texts of its facts have no
-- newline
abbrev pub IsPlainTable : ServiceTable → Type 0
IsPlainTable (GatewaysOf table) = IsWord table.name
IsPlainTable (GroupsOf table) = IsWord table.name
IsPlainTable (AddressesOf table) = IsWord table.name
IsPlainTable (FactsOf table) = IsWord table.name × ArePlainFacts table.rows
IsPlainTable (PicturesOf table) = IsWord table.name

-- the names and the texts of what is printed at once have no newline
abbrev pub IsPlain : Printed → Type 0
IsPlain (LocalsShown table) = IsWord table.name
IsPlain (OriginatorsShown table) = IsWord table.name
IsPlain (NeighborsShown table) = IsWord table.name
IsPlain (GlobalsShown table) = IsWord table.name
IsPlain (ClaimsShown table) = IsWord table.name × IsWord (name_or_dash table.lan)
IsPlain (ServiceShown table) = IsPlainTable table
IsPlain (Decoded bytes) = ⊤
IsPlain (Happened names event) = AreNamed names × HasPlainText event

-- so it is of all that is printed
abbrev pub ArePlain : List Printed → Type 0
ArePlain printed = (item : Printed) → Has printed item → IsPlain item
