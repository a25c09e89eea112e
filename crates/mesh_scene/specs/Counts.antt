-- The counts of a scene, for the summary of a generated mesh. The main word is `HasCounts`.
use Rattle.std.specs.Prelude.{◌≡◌, ℕ, List, length, map, sum}
use Rattle.mesh_generate.specs.declared.summary.Counts.{Counts}
use Rattle.mesh_model.specs.Run.Generated.{later_commits, ok_tables, received_lines}
use Rattle.mesh_model.specs.Run.State.{State}

-- the counts of a state of so many nodes after which this text was printed
pub record HasCounts (nodes : ℕ) (state : State) (text : List ℕ) (counts : Counts) : Type 0 where
  pub nodes_are : counts.nodes ≡ nodes
  pub frames_are : counts.frames ≡ length state.mesh.frames
  pub received_are : counts.received ≡ received_lines text
  pub commits_are : counts.commits ≡ sum (map later_commits state.mesh.nodes)
  pub ok_are : counts.ok ≡ sum (map (ok_tables state.algorithm state.clock) state.mesh.nodes)
