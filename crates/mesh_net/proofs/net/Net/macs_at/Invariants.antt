use Rattle.std.proofs.Common.{◌≡◌, List, map, take}
use Rattle.mesh_model.specs.Net.Mesh.{NodeLog, address_at}
use Rattle.mesh_net.specs.NetStands.{SeatsStand}
use Rattle.mesh_net.proofs.net.Net.macs_at.Given as goal

abbrev pub invariant-loop-place : goal.invariant-loop-place
invariant-loop-place g l = (nodes : List NodeLog) → SeatsStand g.A.Algo.queries g.A.Algo.stands l.self.seats.items nodes →
    l.macs.items ≡ map (λ place. address_at place nodes) (take l.place-index l.places)
