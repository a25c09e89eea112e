use Rattle.std.proofs.Common.{◌≡◌, drop}
use Rattle.mesh_post.specs.Sent.{lan_among}
use Rattle.mesh_post.proofs.post.Post.lan_of.Given as goal

abbrev pub invariant-loop-lan : goal.invariant-loop-lan
invariant-loop-lan l =
    lan_among l.node l.lan (drop l.lan l.self.lans.items) ≡ lan_among l.node 0 l.self.lans.items
