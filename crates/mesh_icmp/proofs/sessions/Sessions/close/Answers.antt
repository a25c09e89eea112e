use Rattle.std.proofs.Common.{subst, sym}
use Rattle.mesh_icmp.specs.Sessions.{StandsFor}
use Rattle.mesh_icmp.proofs.SessionLemmas.{keeps_from, keeps_without, stands_from}
use Rattle.mesh_icmp.proofs.sessions.Sessions.close.Goals as goal

pub returns : goal.returns
returns c =
    λ made stands.
    let before = keeps_from _ made (subst (λ k. StandsFor k made) (sym c.self.view_is) stands) in
    stands_from _ _ _ _ c.take.ensures.latest c.take.ensures.left (keeps_without _ c.args.seq _ _ before)
