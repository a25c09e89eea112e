use Rattle.node_ground.proofs.PieceRooms.{piece_is}
use Rattle.node_ground.proofs.packing.piece_at.Goals as goal

pub returns-clause-is : goal.returns-clause-is
returns-clause-is c = piece_is c.args.place c.min.result c.args.records.now c.min.ensures
