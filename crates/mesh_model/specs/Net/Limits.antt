-- The limits of a net, and what every scenario's mesh is run with. There are at most 64 nodes, 512
-- links, 16 LANs, 4,194,304 frames that were sent on links or put on LANs, 536,870,912 bytes of
-- them, and 1,099,511,627,776 milliseconds. The main word is `scenario_setup`.
use Rattle.std.specs.Prelude.{ℕ}
use Rattle.mesh_base.specs.declared.address.Mac.{Mac}
use Rattle.mesh_model.specs.Acts.Choosing.{acts_of}
use Rattle.mesh_model.specs.Acts.NodeLimits.{node_limit}
use Rattle.mesh_model.specs.Knowledge.Steps.{knowledge}
use Rattle.mesh_model.specs.Net.Mesh.{Setup}
use Rattle.mesh_model.specs.Routes.Queries.{Queries}
use Rattle.mesh_model.specs.Scenario.NetForms.{time_limit}

-- the most nodes
abbrev pub nodes_limit : ℕ
nodes_limit = 64

-- the most links
abbrev pub links_limit : ℕ
links_limit = 512

-- the most LANs
abbrev pub lans_limit : ℕ
lans_limit = 16

-- the most frames
abbrev pub frames_limit : ℕ
frames_limit = 4194304

-- the most bytes of frames
abbrev pub frame_bytes_limit : ℕ
frame_bytes_limit = 536870912

-- the last moment, in milliseconds
abbrev pub clock_limit : ℕ
clock_limit = time_limit

-- what a scenario's mesh is run with, by the algorithm at the node of each address
abbrev pub scenario_setup : (Mac → Queries) → Setup
scenario_setup queries = record {
  acts = λ me. acts_of (queries me) me;
  node_limit = λ me. node_limit (queries me) me;
  originators = λ me log now.
      (queries me).originators (knowledge (queries me) me log).routes now;
  frames_limit = frames_limit;
  bytes_limit = frame_bytes_limit;
}
