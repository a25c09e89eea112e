use Rattle.mesh_net.proofs.net.Net.happen.Goals as goal

pub returns-in-LinkDelivery-clause-cause : goal.returns-in-LinkDelivery-clause-cause
returns-in-LinkDelivery-clause-cause g c = rw c.in-LinkDelivery.is (λ choice last others mesh begun on lans. c.deliver_at.ensures.cause choice last others mesh begun on)

pub returns-in-LanDelivery-clause-cause : goal.returns-in-LanDelivery-clause-cause
returns-in-LanDelivery-clause-cause g c = rw c.in-LanDelivery.is (λ choice last others mesh begun on lans. c.deliver_on_lan.ensures.cause choice last others mesh begun lans)

pub returns-in-NodeTick-clause-cause : goal.returns-in-NodeTick-clause-cause
returns-in-NodeTick-clause-cause g c = rw c.in-NodeTick.is (λ choice last others mesh begun on lans. c.tick_at.ensures.cause choice last others mesh begun)

pub returns-in-LinkDelivery-clause-given : goal.returns-in-LinkDelivery-clause-given
returns-in-LinkDelivery-clause-given g c = rw c.in-LinkDelivery.is (λ choice last others mesh begun on lans. c.deliver_at.ensures.given choice last others mesh begun on)

pub returns-in-LanDelivery-clause-given : goal.returns-in-LanDelivery-clause-given
returns-in-LanDelivery-clause-given g c = rw c.in-LanDelivery.is (λ choice last others mesh begun on lans. c.deliver_on_lan.ensures.given choice last others mesh begun lans)

pub returns-in-NodeTick-clause-given : goal.returns-in-NodeTick-clause-given
returns-in-NodeTick-clause-given g c = rw c.in-NodeTick.is (λ choice last others mesh begun on lans. c.tick_at.ensures.given choice last others mesh begun)
