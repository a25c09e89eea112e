-- The names that a line uses and doesn't itself give, in their order, each with what has to stand
-- there: a node, or a place, which is a node or a LAN. The main word is `names_used`.
use Rattle.std.specs.Prelude.{ℕ, List, [], ◌∷◌, map}
use Rattle.mesh_model.specs.declared.line_form.Command.{Command}
use Rattle.mesh_model.specs.declared.line_form.Command.TheVariants.{Nothing, Algo, Node, Link, Lan, Frame, Gone, Join, Leave, Arp, Dhcp, Wifi, GwOff, GwServer, GwClient, Mcast, Dat, Frag, Vis, Alfred, Put, Get, Ping, Trace, Reboot, Run, Deliver, Show, Decode}

-- a name where a node is needed, or a place
pub data NameUse : Type 0 where
  OfNode : (name : List ℕ) → NameUse
  OfPlace : (name : List ℕ) → NameUse

-- the names that a command uses
abbrev pub names_used : Command → List NameUse
names_used Nothing = []
names_used (Algo algorithm) = []
names_used (Node name mac) = []
names_used (Link from to delay pattern throughput) = OfNode from ∷ OfNode to ∷ []
names_used (Lan name gateways) = map OfNode gateways
names_used (Frame place src dst vid text) = OfPlace place ∷ []
names_used (Gone place key) = OfPlace place ∷ []
names_used (Join node key) = OfNode node ∷ []
names_used (Leave node key) = OfNode node ∷ []
names_used (Arp node mac own asked vid) = OfNode node ∷ []
names_used (Dhcp node key text) = OfNode node ∷ []
names_used (Wifi node on) = OfNode node ∷ []
names_used (GwOff node) = OfNode node ∷ []
names_used (GwServer node down up) = OfNode node ∷ []
names_used (GwClient node policy) = OfNode node ∷ []
names_used (Mcast node flags) = OfNode node ∷ []
names_used (Dat node on) = OfNode node ∷ []
names_used (Frag node longest) = OfNode node ∷ []
names_used (Vis node on) = OfNode node ∷ []
names_used (Alfred node mode) = OfNode node ∷ []
names_used (Put node type_no version text) = OfNode node ∷ []
names_used (Get node type_no) = OfNode node ∷ []
names_used (Ping node target) = OfNode node ∷ OfNode target ∷ []
names_used (Trace node target) = OfNode node ∷ OfNode target ∷ []
names_used (Reboot node) = OfNode node ∷ []
names_used (Run time) = []
names_used (Deliver number) = []
names_used (Show node table) = OfNode node ∷ []
names_used (Decode bytes) = []
