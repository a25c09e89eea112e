use Rattle.std.proofs.Common.{arith}
use Rattle.tt_local.proofs.RosterLemmas.{settled_more}
use Rattle.tt_local.proofs.clients.Clients.settle.Goals as goal

pub loop-i-preserved : goal.loop-i-preserved
loop-i-preserved c = record {
  settled = settled_more c.args.now c.args.keys.now.keys c.loop-i.i c.at.result c.args.self.now c.loop-i.self c.settle_key.new.self
      (omega arith) c.at.ensures c.loop-i.invariant.settled c.settle_key.ensures.settled;
  fewer = let fewer = c.settle_key.ensures.fewer in let before = c.loop-i.invariant.fewer in omega (arith, fewer, before);
}
