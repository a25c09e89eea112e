use Rattle.std.proofs.Common.{◌≡◌, length, ap, sym, ◌∙◌, rules}
use Rattle.mesh_net.proofs.KeptLemmas.{sendings_count}
use Rattle.mesh_net.proofs.kept.Kept.len.Goals as goal

pub returns : goal.returns
returns c =
    let n : c.len.result ≡ length c.self.inside.roots.items = search rules in
    n ∙ sym (sendings_count _ _ c.self.invariant.count) ∙ ap length c.self.view_is
