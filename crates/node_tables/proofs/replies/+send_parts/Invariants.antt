use Rattle.std.proofs.Common.{◌-◌}
use Rattle.mesh_model.specs.Tables.Pieces.{piece_count}
use Rattle.tt_sync.specs.Answers.{answer_in}
use Rattle.node_tables.proofs.replies.+send_parts.Given as goal

abbrev pub decreases-send_parts : goal.decreases-send_parts
decreases-send_parts g l = piece_count (answer_in l.reply.now).records - l.number
