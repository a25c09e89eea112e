use Rattle.node_ground.proofs.PieceRooms.{piece_begins}
use Rattle.node_ground.proofs.packing.part_containers.Goals as goal

pub piece_at-records-requires : goal.piece_at-records-requires
piece_at-records-requires c = rw (c.from.ensures, c.as_slice.ensures) (piece_begins c.args.number c.args.reply.now.records c.requires.within)
