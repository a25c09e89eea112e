use Rattle.std.proofs.Common.{arith}
use Rattle.mesh_post.proofs.PostLemmas.{frames_length}
use Rattle.mesh_net.proofs.net.Net.sent.Goals as goal

pub returns-in-Ok : goal.returns-in-Ok
returns-in-Ok g c = λ choice clock mesh standing.
    let count = c.in-Ok.ensures.1 in
    let same = c.len.ensures in
    let all = frames_length _ mesh.frames c.args.self.now.post.frames standing.kept.amid.stands.frames in
    omega (arith, count, same, all)

pub returns-in-Err : goal.returns-in-Err
returns-in-Err g c = λ choice clock mesh standing.
    let same = c.len.ensures in
    let all = frames_length _ mesh.frames c.args.self.now.post.frames standing.kept.amid.stands.frames in
    let few = standing.kept.amid.stands.few in
    absurd (c.in-Err.ensures (omega (arith, same, all, few)))
