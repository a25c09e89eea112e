use Rattle.std.proofs.Common.{length}
use Rattle.mesh_model.specs.Packets.LinkFrame.{link_frame}
use Rattle.mesh_node.proofs.Underway.{IsUnderway}
use Rattle.mesh_node.proofs.rows.link.Given as goal

abbrev pub invariant-loop-next : goal.invariant-loop-next
invariant-loop-next g l = IsUnderway g.A.Algo.stands g.A.Algo.queries g.P.Port.takes g.P.Port.same g.P.Port.over l.locals l.bridge l.me l.came
    (link_frame l.bytes).packets l.frame.packets l.fn.kept l.kept l.fn.port l.port

abbrev pub decreases-loop-next : goal.decreases-loop-next
decreases-loop-next g l = length l.frame.packets
