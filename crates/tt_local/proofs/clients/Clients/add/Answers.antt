use Rattle.std.proofs.Common.{◌≡◌, ◌==◌, ◌∙◌, cond, false, None, Some, ap, refl, subst, sym}
use Rattle.mesh_laws.proofs.PresentLemmas.{same_itself}
use Rattle.tt_local.specs.Clients.{client_at, known_client}
use Rattle.tt_local.specs.Moments.{AreMoments, has_moment}
use Rattle.tt_local.proofs.MomentsLemmas.{moment_undone, moments_after, sighted_news}
use Rattle.tt_local.proofs.clients.Clients.add.Goals as goal

pub forget-requires : goal.forget-requires
forget-requires c = record {
  before = λ at. c.in_ok-change.ensures.ok at c.args.key
      ∙ ap (λ b. cond b (c.args.sighting.moment == at) (has_moment c.self.inside.moments at c.args.key)) (same_itself c.args.key);
}

pub invariant_of-self-in-Err : goal.invariant_of-self-in-Err
invariant_of-self-in-Err c =
    subst (λ entries. AreMoments entries c.forget.new.self) (sym c.in-Err.ensures.err)
    (moment_undone c.self.inside.map.entries c.self.inside.moments c.change.new.self c.forget.new.self c.args.key c.args.sighting.moment c.self.invariant c.in-Err.ensures.absent c.in_ok-change.ensures.ok c.forget.ensures.forgotten)

pub invariant_of-self-in_default : goal.invariant_of-self-in_default
invariant_of-self-in_default c =
    let client = Some (record { sighting = Some c.args.sighting; joined = false }) in
    moments_after c.self.inside.map.entries c.insert-inserted.new.self.entries c.self.inside.moments c.change.new.self c.args.key client (Some c.args.sighting.moment) c.self.invariant
    c.in_default.ensures.updates.0 c.insert-inserted.ensures.ordered refl c.in_ok-change.ensures.ok

pub returns-clause-news : goal.returns-clause-news
returns-clause-news c =
    let unknown : client_at c.self.inside.map.entries c.args.key ≡ None = rw c.self.view_is c.requires in
    rw (← c.self.view_is) (sighted_news c.args.sighting.moment c.args.key c.args.sighting.flags c.self.inside.map.entries c.self.inside.map.entries c.insert-inserted.new.self.entries (record { sighting = None; joined = false })
    refl (sym (ap known_client unknown)) c.in_default.ensures.updates.0)
