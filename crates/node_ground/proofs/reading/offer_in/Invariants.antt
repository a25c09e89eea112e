use Rattle.std.proofs.Common.{◌≡◌, length}
use Rattle.mesh_model.specs.Knowledge.Served.{offer_in}
use Rattle.mesh_model.specs.Packets.Containers.{containers_of}
use Rattle.mesh_serv.specs.OffersStand.{offered}
use Rattle.mesh_tvlv.specs.Walk.{to_come}
use Rattle.node_ground.proofs.OfferReading.{joined}
use Rattle.node_ground.proofs.reading.offer_in.Given as goal

abbrev pub invariant-loop-container : goal.invariant-loop-container
invariant-loop-container l = offer_in (containers_of l.bytes) ≡ joined (offered l.offer) (offer_in (to_come l.walk))

abbrev pub decreases-loop-container : goal.decreases-loop-container
decreases-loop-container l = length (to_come l.walk)
