use Rattle.std.proofs.Common.{ℕ, List, drop, ap, sym, ◌∙◌}
use Rattle.mesh_codec.proofs.EtherLemmas.{enough_read}
use Rattle.mesh_codec.proofs.ether.read_ether_frame.Goals as goal

pub returns : goal.returns
returns c =
    let after_is = c.left.ensures ∙ c.skip.ensures.left ∙ ap (λ (l : List ℕ). drop 12 l) c.new-after.ensures in
    c.frame_by_type.ensures ∙ sym (enough_read c.args.ethertype c.args.bytes.now c.left.result.now c.if-bytes-lt-ADDRESSES_SIZE.false after_is)
