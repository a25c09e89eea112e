use Rattle.std.proofs.Common.{sym, subst}
use Rattle.mesh_model.specs.declared.happening.Happening.{Happening}
use Rattle.mesh_model.specs.Net.Happenings.{Before}
use Rattle.mesh_model.specs.Net.Next.{Has}
use Rattle.mesh_post.specs.Waiting.{IsRising}
use Rattle.mesh_post.proofs.RisingLemmas.{rises_on}
use Rattle.mesh_post.proofs.rising.Rising.push.Goals as goal

pub invariant_of-self-inside : goal.invariant_of-self-inside
invariant_of-self-inside c = (subst IsRising (sym c.make_room.ensures.items) c.self.inside.rising, tt)

pub invariant_of-self-inside-2 : goal.invariant_of-self-inside-2
invariant_of-self-inside-2 c = (
  subst IsRising (sym c.push_back_reserved.ensures.items)
      (rises_on c.make_room.new.waiting.items c.args.h (subst IsRising (sym c.make_room.ensures.items) c.self.inside.rising)
      (subst (λ q. (x : Happening) → Has q x → Before x c.args.h) (sym c.make_room.ensures.items) (subst (λ q. (x : Happening) → Has q x → Before x c.args.h) (sym c.self.view_is) c.requires))),
  tt,
)
