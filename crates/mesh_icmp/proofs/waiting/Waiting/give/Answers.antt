use Rattle.std.proofs.Common.{◌≡◌, ◌∙◌, ◌++◌, ◌∷◌, [], ap, refl, rules, subst, sym}
use Rattle.mesh_icmp.specs.Sessions.{AreInOrder, next_after, without}
use Rattle.mesh_icmp.proofs.QueueLemmas.{in_order_given}
use Rattle.mesh_icmp.proofs.RankLemmas.{next_fits}
use Rattle.mesh_icmp.proofs.SessionLemmas.{given_probe}
use Rattle.mesh_icmp.proofs.waiting.Waiting.give.Goals as goal

pub invariant_of-self : goal.invariant_of-self
invariant_of-self c =
    let latest = c.self.inside.latest in
    let new = given_probe c.args.now c.args.target c.args.trace c.args.ttl (next_after latest) in
    let before = c.self.inside.probes.items in
    let left : c.self-2.inside.probes.items ≡ without (next_after latest) before =
    ap (λ q. q.probes) c.self-2.view_is ∙ c.take.ensures.left ∙ ap (λ q. without (next_after latest) q.probes) (sym c.self.view_is) in (
      next_fits latest c.self.invariant.0,
      subst (AreInOrder (next_after latest)) (sym (c.push_back_reserved.ensures.items ∙ ap (λ ps. ps ++ new ∷ []) left))
          (in_order_given latest c.self.invariant.0 new refl before c.self.invariant.1),
      search rules,
    )
