-- The names of nodes, each with the node's address, and of LANs, which have numbers from 1 in the
-- order in which they are named. The main words are `node_name` and `lan_name`.
use Rattle.std.specs.Prelude.{ℕ, Bool, ◌-◌, ◌==◌, List, [], find, bytes_eq, slice_get, Option, None, option_map, if◌then◌else◌}
use Rattle.mesh_base.specs.declared.address.Mac.{Mac}
use Rattle.mesh_base.specs.declared.names.NodeName.{NodeName}

-- the names of nodes and those of LANs, each in the order in which they were given
pub record NamesGiven : Type 0 where
  pub nodes : List NodeName
  pub lans : List (List ℕ)

-- no names
abbrev pub no_names : NamesGiven
no_names = record { nodes = []; lans = [] }

-- the name of the first node of this address
abbrev pub node_name : List NodeName → Mac → Option (List ℕ)
node_name nodes mac = option_map (λ (node : NodeName). node.name)
    (find (λ node. bytes_eq node.mac.0 mac.0) nodes)

-- whether a node has this name
abbrev pub is_node_name : List ℕ → NodeName → Bool
is_node_name name node = bytes_eq node.name name

-- whether a LAN has this name
abbrev pub is_lan_name : List ℕ → List ℕ → Bool
is_lan_name name lan = bytes_eq lan name

-- the name of the LAN of this number, from 1
abbrev pub lan_name : List (List ℕ) → ℕ → Option (List ℕ)
lan_name lans number = if number == 0 then None else slice_get lans (number - 1)
