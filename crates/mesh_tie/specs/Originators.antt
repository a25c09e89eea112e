-- An originator of a mesh: its log, which is empty until its node joins; its commits; and the
-- commit that its message of an own tick announces, the root of the message. The main words are
-- `commits_of` and `number_at_root`.
use Rattle.std.specs.Prelude.{ℕ, List, [], ◌∷◌, length, if◌then◌else◌}
use Rattle.mesh_base.specs.declared.address.Mac.{Mac}
use Rattle.mesh_model.specs.Clients.Log.{Log}
use Rattle.mesh_model.specs.Commits.Announcements.{log_until}
use Rattle.mesh_model.specs.Commits.History.{commits}
use Rattle.mesh_model.specs.Net.Mesh.{NodeLog, Mesh}
use Rattle.mesh_model.specs.Routes.Addresses.{same_mac}
use Rattle.mesh_model.specs.Tables.Versions.{Version}

-- the log of the node of an address, among these
abbrev pub log_of : Mac → List NodeLog → Log
log_of orig [] = []
log_of orig (node ∷ rest) = if same_mac node.mac orig then node.log else log_of orig rest

-- the commits of an originator, newest first
abbrev pub commits_of : Mac → Mesh → List Version
commits_of orig mesh = commits orig (log_of orig mesh.nodes)

-- the number of the last of some commits
abbrev pub last_number : List Version → ℕ
last_number [] = 0
last_number (newest ∷ older) = length older

-- the number of the commit that the messages of an own tick announce
abbrev pub number_at_root : Mac → Log → ℕ → ℕ
number_at_root orig log root = last_number (commits orig (log_until root log))
