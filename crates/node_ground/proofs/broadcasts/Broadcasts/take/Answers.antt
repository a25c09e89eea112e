use Rattle.std.proofs.Common.{◌∙◌, ap, is_some, subst, sym}
use Rattle.node_ground.specs.BroadcastsStand.{BroadcastsStand}
use Rattle.node_ground.proofs.BroadcastLemmas.{new_by_next, one_more, taken_by_next}
use Rattle.node_ground.proofs.broadcasts.Broadcasts.take.Goals as goal

pub returns-in_default-clause-new : goal.returns-in_default-clause-new
returns-in_default-clause-new c = λ taken stands.
    sym (ap is_some c.in_default.is) ∙ new_by_next c.args.now c.args.number c.args.orig taken c.next.result (c.next.ensures taken stands)

pub returns-clause-new : goal.returns-clause-new
returns-clause-new c = λ taken stands.
    sym (ap is_some c.in-Some.is) ∙ new_by_next c.args.now c.args.number c.args.orig taken c.next.result (c.next.ensures taken stands)

pub returns-clause-noted : goal.returns-clause-noted
returns-clause-noted c = λ taken stands.
    let next = sym c.in-Some.is ∙ c.next.ensures taken stands in
    one_more c.args.now c.args.number c.args.orig c.self.inside.rounds.entries taken (subst (λ k. BroadcastsStand k taken) (sym c.self.view_is) stands) c.insert.new.self.entries c.in-Some.next
    (taken_by_next c.args.now c.args.number c.args.orig taken c.in-Some.next next) c.in_ok-insert.ensures.updates.0
