use Rattle.std.proofs.Common.{rules, ◌≡◌, ℕ, List, length, replicate, arith}
use Rattle.std.proofs.lemmas.List.{length-replicate}
use Rattle.mesh_codec.specs.Encoding.{HasObstacle}
use Rattle.node_ground.specs.Sending.{IsWritable}
use Rattle.node_ground.proofs.messages.own_packet.Goals as goal

pub unreachable-requires : goal.unreachable-requires
unreachable-requires c =
    let tail : List ℕ = replicate c.own_size.result 0 in
    let long : length tail ≡ c.own_size.result = length-replicate c.own_size.result 0 in
    let writable : IsWritable c.args.head.now tail = c.requires.writable tail (omega (arith, long, c.own_size.ensures.fits)) in
    let cause : HasObstacle c.args.head.now tail c.in-Err.field-0 = c.in-Err.ensures.cause tail long in
    search rules
