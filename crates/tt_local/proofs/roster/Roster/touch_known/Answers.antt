use Rattle.std.proofs.Common.{◌∙◌, ◌||◌, IsSome, ap, subst, sym}
use Rattle.mesh_laws.proofs.PresentLemmas.{same_itself}
use Rattle.tt_local.specs.Clients.{client_at}
use Rattle.tt_local.specs.Roster.{has_key, RosterView}
use Rattle.tt_local.proofs.RosterLemmas.{room_for, touched_fits}
use Rattle.tt_local.proofs.roster.Roster.touch_known.Goals as goal

pub add-requires : goal.add-requires
add-requires c =
    let there = subst (λ (v : RosterView). IsSome (client_at v.clients c.args.key)) (sym c.self.view_is) c.requires in
    room_for c.self.inside.clients c.self.inside.pending c.args.key c.self.invariant c.tell_order.ensures there

pub invariant_of-self : goal.invariant_of-self
invariant_of-self c =
    let there = subst (λ (v : RosterView). IsSome (client_at v.clients c.args.key)) (sym c.self.view_is) c.requires in
    touched_fits c.self.inside.clients c.self.inside.pending c.add.new.self c.args.key c.self.invariant there c.add.ensures.added c.add.ensures.room

pub returns-clause-touched : goal.returns-clause-touched
returns-clause-touched c =
    c.add.ensures.added c.args.key ∙ ap (λ b. b || has_key c.self.inside.pending.keys c.args.key) (same_itself c.args.key)
