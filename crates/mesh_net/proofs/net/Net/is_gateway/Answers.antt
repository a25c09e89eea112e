use Rattle.std.proofs.Common.{is_some, ap, ◌∙◌}
use Rattle.mesh_model.specs.Net.Due.{first_ticks}
use Rattle.mesh_post.proofs.ActLemmas.{lan_is}
use Rattle.mesh_net.proofs.net.Net.is_gateway.Goals as goal

pub returns : goal.returns
returns g c = λ choice clock mesh standing.
    c.is_some.ensures ∙ ap is_some (c.lan_of.ensures ∙ lan_is c.args.self.now.post c.args.self.now.sent mesh.last (first_ticks 0 mesh.nodes) c.args.node mesh standing.kept)
