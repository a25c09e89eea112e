use Rattle.std.proofs.Common.{None, refl}
use Rattle.tt_local.proofs.MomentsLemmas.{moments_after}
use Rattle.tt_local.proofs.clients.Clients.forget.Goals as goal

pub invariant_of-self : goal.invariant_of-self
invariant_of-self c =
    moments_after c.self.inside.map.entries c.remove.new.self.entries c.self.inside.moments c.forget.new.self c.args.key None None c.self.invariant
    c.remove.ensures.updates.0 c.remove.ensures.ordered refl c.forget.ensures.forgotten

pub returns-clause-forgotten : goal.returns-clause-forgotten
returns-clause-forgotten c = rw (← c.self.view_is) c.remove.ensures.updates.0
