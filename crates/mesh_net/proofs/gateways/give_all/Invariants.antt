use Rattle.std.proofs.Common.{ℕ, List, drop}
use Rattle.mesh_model.specs.declared.happening.Happening.{Happening}
use Rattle.mesh_model.specs.Net.Mesh.{Mesh}
use Rattle.mesh_node.specs.NodeStands.{given_by}
use Rattle.mesh_post.specs.Sent.{Grew}
use Rattle.mesh_post.specs.declared.row.Sending.{Sending}
use Rattle.mesh_net.specs.Steps.{HasStage, Stage}
use Rattle.mesh_net.proofs.LanSteps.{AmidAll}
use Rattle.mesh_net.proofs.gateways.give_all.Given as goal

abbrev pub invariant-loop-place : goal.invariant-loop-place
invariant-loop-place g l = record {
  has : HasStage g.A.Algo.queries g.A.Algo.stands l.seats.items l.post l.now;
  grew : Grew l.fn.log l.log;
  goes : (older : List Sending) (last : Happening) (ticks : List Happening) (mesh : Mesh) (number : ℕ) →
      Stage g.A.Algo.queries g.A.Algo.stands l.fn.seats.items l.fn.post older last ticks l.now mesh →
      AmidAll g.A.Algo.queries g.A.Algo.stands l.seats.items l.post l.fn.post.choice older last ticks l.now mesh l.fn.log l.log (given_by number l.input) l.places (drop l.place-index l.places);
}
