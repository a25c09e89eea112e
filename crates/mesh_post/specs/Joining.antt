-- A mesh that a node or a link joined. The words are `with_node` and `with_link`; that of a LAN is
-- `with_lan` of the model.
use Rattle.std.specs.Prelude.{[], ◌∷◌, ◌++◌}
use Rattle.mesh_model.specs.Net.Mesh.{NodeLog, NetLink, Mesh}

-- a mesh with one more node
abbrev pub with_node : NodeLog → Mesh → Mesh
with_node node mesh = record mesh { nodes = mesh.nodes ++ node ∷ [] }

-- a mesh with one more link
abbrev pub with_link : NetLink → Mesh → Mesh
with_link link mesh = record mesh { links = mesh.links ++ link ∷ [] }
