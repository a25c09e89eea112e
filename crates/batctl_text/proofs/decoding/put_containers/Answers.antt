use Rattle.mesh_tvlv.specs.Walk.{seen}
use Rattle.batctl_text.proofs.TextLemmas.{stands-behind}
use Rattle.batctl_text.proofs.decoding.put_containers.Goals as goal

pub loop-container-preserved : goal.loop-container-preserved
loop-container-preserved c = stands-behind c.args.out.now.items c.args.tail.now c.loop-container.out.items c.put_container.new.out.items c.loop-container.walk c.next.new.self
    (seen c.in-Some-Ok.container) c.in_ok-put_container.field-0 c.loop-container.invariant (rw c.in-Some-Ok.field-0-is at c.in-Some-Ok.ensures.gives) c.in_ok-put_container.ensures.ok c.if-not-branch.false
