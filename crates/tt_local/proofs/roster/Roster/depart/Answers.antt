use Rattle.std.proofs.Common.{◌∙◌, arith, ap}
use Rattle.mesh_model.specs.Clients.Mentions.{Departed}
use Rattle.tt_local.specs.Clients.{client_at}
use Rattle.tt_local.proofs.RosterLemmas.{fits_after, news_tracked}
use Rattle.tt_local.proofs.roster.Roster.depart.Goals as goal

pub invariant_of-self : goal.invariant_of-self
invariant_of-self c =
    let as_long = c.depart.ensures.as_long in
    let room = c.self.invariant.room in
    fits_after c.self.inside.clients c.depart.new.self c.self.inside.pending 0 c.args.key Departed c.self.invariant (c.depart.ensures.departed 0) (omega (arith, as_long, room))

pub returns-clause-departed : goal.returns-clause-departed
returns-clause-departed c = λ now other.
    ap (λ cs. client_at cs other) c.touch.ensures.clients ∙ rw (← c.self.view_is) (c.depart.ensures.departed now other)

pub returns-clause-tracks : goal.returns-clause-tracks
returns-clause-tracks c =
    news_tracked c.args.self.now c.touch.new.self c.depart.new.self 0 c.args.key Departed (rw (← c.self.view_is) (c.depart.ensures.departed 0))
    (rw (← c.self.view_is) c.touch.ensures.tracks) c.touch.ensures.touched

pub returns-clause-roamed : goal.returns-clause-roamed
returns-clause-roamed c = λ now other.
    ap (λ cs. client_at cs other) c.touch.ensures.clients ∙ rw (← c.self.view_is) (c.depart.ensures.roamed now other)
