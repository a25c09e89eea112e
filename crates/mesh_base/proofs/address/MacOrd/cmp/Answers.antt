use Rattle.std.proofs.Common.{◌∙◌, rules}
use Rattle.mesh_base.proofs.AddressOrder.{words_ordered}
use Rattle.mesh_base.proofs.address.MacOrd.cmp.Goals as goal

pub returns : goal.returns
returns c =
    c.cmp.ensures
    ∙ words_ordered c.args.self.now.0 c.args.other.now.0 c.word.result c.word-2.result (search rules) (search rules) c.word.ensures.bytes c.word-2.ensures.bytes
