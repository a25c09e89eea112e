use Rattle.std.proofs.Common.{sym}
use Rattle.mesh_codec.specs.Frames.{frame_left}
use Rattle.mesh_codec.specs.Inner.Reading.{seen_front}
use Rattle.mesh_codec.proofs.Taking.{taken, refused}
use Rattle.mesh_codec.proofs.link_frame.LinkFrame.next.Goals as goal

pub returns-in-Ok-clause-ok : goal.returns-in-Ok-clause-ok
returns-in-Ok-clause-ok c = taken c.args.self.now (frame_left c.in-Ok.front.rest.now c.ending_behind-self-inside.result) c.self.inside.left.now c.self.inside.ending (seen_front c.in-Ok.front)
    (sym c.self.view_is) c.in_default.is c.in-Ok.ensures.ok c.ending_behind-self-inside.ensures

pub returns-in-Err-clause-ended : goal.returns-in-Err-clause-ended
returns-in-Err-clause-ended c = refused c.args.self.now c.self.inside.left.now c.self.inside.ending c.in-Err.cause (sym c.self.view_is) c.in_default.is c.in-Err.ensures.err
