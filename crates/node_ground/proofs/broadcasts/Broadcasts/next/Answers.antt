use Rattle.std.proofs.Common.{◌∙◌, ap, Some, subst, sym}
use Rattle.node_ground.specs.BroadcastsStand.{BroadcastsStand}
use Rattle.node_ground.proofs.BroadcastLemmas.{first_found, next_found}
use Rattle.node_ground.proofs.broadcasts.Broadcasts.next.Goals as goal

pub returns-in-Some : goal.returns-in-Some
returns-in-Some c = λ taken stands.
    c.with.ensures ∙ next_found c.args.now c.args.number c.args.orig c.self.inside.rounds.entries taken (subst (λ k. BroadcastsStand k taken) (sym c.self.view_is) stands) c.in-Some.round.now (sym c.in-Some.ensures.value)

pub returns-in-None : goal.returns-in-None
returns-in-None c = λ taken stands.
    ap Some c.new.ensures ∙ first_found c.args.now c.args.number c.args.orig c.self.inside.rounds.entries taken (subst (λ k. BroadcastsStand k taken) (sym c.self.view_is) stands) (sym c.in-None.ensures.value)
