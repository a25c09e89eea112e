use Rattle.std.proofs.Common.{rules}
use Rattle.mesh_tvlv.specs.Walk.{seen}
use Rattle.mesh_tvlv.proofs.FlawLemmas.{sound-behind}
use Rattle.mesh_tvlv.proofs.soundness.first_flaw.Goals as goal

pub loop-next-preserved : goal.loop-next-preserved
loop-next-preserved c = sound-behind c.args.bytes.now c.loop-next.walk c.next.new.self (seen c.in-Ok.container) c.loop-next.invariant
    (rw c.in-Ok.is at c.in-Some.ensures.gives) (rw c.in-Ok.is at c.in-Some.ensures.goes_on) (search rules)
