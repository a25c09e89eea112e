use Rattle.mesh_post.proofs.LookUps.{got}
use Rattle.mesh_post.proofs.RisingLemmas.{first_is, none_waits}
use Rattle.mesh_post.proofs.rising.Rising.earliest.Goals as goal

pub returns-in-None : goal.returns-in-None
returns-in-None c = rw (← c.self.view_is) (none_waits c.self.inside.waiting.items c.in-None.ensures.item.3)

pub returns-in-Some : goal.returns-in-Some
returns-in-Some c =
    let k = c.in-Some.ensures.item in
    rw (← c.self.view_is) (first_is c.self.inside.waiting.items c.in-Some.first.now c.self.inside.rising (got c.self.inside.waiting.items 0 c.in-Some.first.now k.3.0 k.1))
