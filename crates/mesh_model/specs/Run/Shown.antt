-- What a line prints at once: the table of a node that is shown, at a moment, asked of the node's
-- log under the algorithm of the nodes. The main word is `shown`.
use Rattle.std.specs.Prelude.{ℕ, List, [], ◌∷◌, ◌++◌, filter, is_none, map, option_and_then}
use Rattle.mesh_base.specs.Names.{NamesGiven, lan_name}
use Rattle.mesh_model.specs.Bridges.Claims.{claims_at}
use Rattle.mesh_model.specs.Clients.Lans.{LanOf, bridge}
use Rattle.mesh_model.specs.declared.line_form.Algorithm.{Algorithm}
use Rattle.mesh_model.specs.declared.line_form.Table.{Table}
use Rattle.mesh_model.specs.declared.line_form.Table.TheVariants.{Originators, Neighbors, Locals, Globals, Claims, Gateways, Groups, Addresses, Facts, Pictures}
use Rattle.mesh_model.specs.declared.service.GwMode.{GwMode}
use Rattle.mesh_model.specs.declared.service.GwMode.TheVariants.{Off, Server, Client}
use Rattle.mesh_model.specs.declared.service.KeptFact.{KeptFact}
use Rattle.mesh_model.specs.declared.table_row.LocalRow.{LocalRow}
use Rattle.mesh_base.specs.declared.client.Key.{Key}
use Rattle.mesh_model.specs.Clients.Mentions.{mentions}
use Rattle.mesh_model.specs.Clients.Present.{present_clients}
use Rattle.mesh_model.specs.Clients.Settings.{GatewayPart, NoPart, Serves, Chooses}
use Rattle.mesh_model.specs.Commits.History.{commits}
use Rattle.mesh_model.specs.Commits.Versions.{last_commit}
use Rattle.mesh_model.specs.Knowledge.Known.{Knowledge}
use Rattle.mesh_model.specs.Knowledge.Offers.{gateway_rows, group_rows}
use Rattle.mesh_model.specs.Knowledge.Steps.{knowledge}
use Rattle.mesh_model.specs.Marks.RoamingMarks.{marks_at}
use Rattle.mesh_model.specs.Net.Mesh.{NodeLog}
use Rattle.mesh_model.specs.Routes.Algorithms.{queries_of}
use Rattle.mesh_model.specs.Run.KnownTables.{parts_at}
use Rattle.mesh_model.specs.Run.State.{Printed, ClaimsShown, GlobalsShown, LocalsShown, NeighborsShown, OriginatorsShown, ServiceShown, State, names_of}
use Rattle.mesh_model.specs.Services.ArpTable.{pairs_at}
use Rattle.mesh_model.specs.Services.Facts.{facts_at}
use Rattle.mesh_model.specs.Tables.Sums.{sums_of}
use Rattle.mesh_model.specs.Text.Claims.{ClaimTable}
use Rattle.mesh_model.specs.Text.GlobalTables.{GlobalTable}
use Rattle.mesh_model.specs.Text.Services.{AddressTable, AddressesOf, FactTable, FactsOf, GatewayTable, GatewaysOf, GroupTable, GroupsOf, PictureTable, PicturesOf}
use Rattle.mesh_model.specs.Text.Tables.{LinkTable, LocalTable, OrigTable}

-- the state after one more thing is printed
abbrev pub after_print : State → Printed → State
after_print state printed = record state { printed = state.printed ++ printed ∷ [] }

-- the local table of a node at a moment, with its last commit
abbrev pub local_table : ℕ → NodeLog → LocalTable
local_table now node = record {
  name = node.name;
  version = (last_commit (commits node.mac node.log)).byte;
  sums = sums_of (last_commit (commits node.mac node.log)).table;
  rows = present_clients (mentions node.mac node.log) now;
}

-- what a node knows
abbrev pub known_to : Algorithm → NodeLog → Knowledge
known_to algorithm node = knowledge (queries_of algorithm node.mac) node.mac node.log

-- the live originators of a node at a moment
abbrev pub orig_table : Algorithm → ℕ → NodeLog → OrigTable
orig_table algorithm now node = record {
  name = node.name;
  algorithm = algorithm;
  rows = (queries_of algorithm node.mac).originators (known_to algorithm node).routes now;
}

-- the neighbours of a node at a moment
abbrev pub link_table : Algorithm → ℕ → NodeLog → LinkTable
link_table algorithm now node = record {
  name = node.name;
  algorithm = algorithm;
  rows = (queries_of algorithm node.mac).neighbours (known_to algorithm node).routes now;
}

-- what a node knows of the others' clients at a moment
abbrev pub global_table : Algorithm → ℕ → NodeLog → GlobalTable
global_table algorithm now node = record {
  name = node.name;
  parts = parts_at (queries_of algorithm node.mac) (known_to algorithm node) now;
  marks = marks_at now (known_to algorithm node).marks;
}

-- the claims on the LAN of a node at a moment, by these names
abbrev pub claim_table : NamesGiven → ℕ → NodeLog → ClaimTable
claim_table names now node = record {
  name = node.name;
  lan = option_and_then (λ (lan : LanOf). lan_name names.lans lan.number) (bridge node.log).lan;
  rows = claims_at (bridge node.log).claims now;
}

-- a part as a gateway without its throughputs or its policy
abbrev pub mode_of : GatewayPart → GwMode
mode_of NoPart = Off
mode_of (Serves offered) = Server
mode_of (Chooses policy) = Client

-- the gateways that a node knows at a moment
abbrev pub gateway_table : Algorithm → ℕ → NodeLog → GatewayTable
gateway_table algorithm now node = record {
  name = node.name;
  mode = mode_of (known_to algorithm node).services.settings.gateway;
  chosen = (known_to algorithm node).services.choice;
  rows = gateway_rows (queries_of algorithm node.mac) (known_to algorithm node) now;
}

-- the groups that are joined at a node at a moment, in key order: they are present without an age
abbrev pub joined_groups : ℕ → NodeLog → List Key
joined_groups now node = map (λ (row : LocalRow). row.entry.key)
    (filter (λ (row : LocalRow). is_none row.age)
    (present_clients (mentions node.mac node.log) now))

-- the groups of a node at a moment
abbrev pub group_table : Algorithm → ℕ → NodeLog → GroupTable
group_table algorithm now node = record {
  name = node.name;
  joined = joined_groups now node;
  rows = group_rows (queries_of algorithm node.mac) (known_to algorithm node) now;
}

-- the pairs of the ARP table that a node knows at a moment
abbrev pub address_table : Algorithm → ℕ → NodeLog → AddressTable
address_table algorithm now node = record {
  name = node.name;
  rows = pairs_at (known_to algorithm node).services.learned now;
}

-- the facts that a node keeps at a moment
abbrev pub fact_table : Algorithm → ℕ → NodeLog → FactTable
fact_table algorithm now node = record {
  name = node.name;
  mode = (known_to algorithm node).services.settings.fact_store;
  now = now;
  rows = facts_at (known_to algorithm node).services.facts now;
}

-- the facts by which a node shows the network at a moment
abbrev pub picture_table : Algorithm → ℕ → NodeLog → PictureTable
picture_table algorithm now node = record {
  name = node.name;
  facts = map (λ (kept : KeptFact). kept.fact)
      (facts_at (known_to algorithm node).services.facts now);
}

-- what is printed of a node in a state, for each table that is shown
abbrev pub shown : Table → State → NodeLog → Printed
shown Originators state node =
    OriginatorsShown (orig_table state.algorithm state.clock node)
shown Neighbors state node = NeighborsShown (link_table state.algorithm state.clock node)
shown Locals state node = LocalsShown (local_table state.clock node)
shown Globals state node = GlobalsShown (global_table state.algorithm state.clock node)
shown Claims state node = ClaimsShown (claim_table (names_of state.mesh) state.clock node)
shown Gateways state node =
    ServiceShown (GatewaysOf (gateway_table state.algorithm state.clock node))
shown Groups state node =
    ServiceShown (GroupsOf (group_table state.algorithm state.clock node))
shown Addresses state node =
    ServiceShown (AddressesOf (address_table state.algorithm state.clock node))
shown Facts state node = ServiceShown (FactsOf (fact_table state.algorithm state.clock node))
shown Pictures state node =
    ServiceShown (PicturesOf (picture_table state.algorithm state.clock node))
