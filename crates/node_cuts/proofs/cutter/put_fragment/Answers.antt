use Rattle.node_cuts.proofs.CutLemmas.{fragment_fits}
use Rattle.node_cuts.proofs.cutter.put_fragment.Goals as goal

pub send-requires : goal.send-requires
send-requires g c = fragment_fits c.args.head.now c.args.tail.now c.requires
