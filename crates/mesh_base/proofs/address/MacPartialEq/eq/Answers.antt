use Rattle.std.proofs.Common.{◌∙◌, ap, sym}
use Rattle.std.specs.Int.{to_be_bytes, w16}
use Rattle.mesh_base.proofs.AddressWords.{heads_agree}
use Rattle.mesh_base.proofs.address.MacPartialEq.eq.Goals as goal

pub returns-then-tail : goal.returns-then-tail
returns-then-tail c =
    let tails = sym c.tail.ensures.bytes ∙ ap (to_be_bytes w16) c.if-tail.true ∙ c.tail-2.ensures.bytes in
    heads_agree c.args.self.now.0 c.args.other.now.0 c.head.result c.head-then-tail.result c.head.ensures.value c.head-then-tail.ensures.value c.head.ensures.bytes c.head-then-tail.ensures.bytes tails
