use Rattle.std.proofs.Common.{◌∙◌, arith, ap}
use Rattle.mesh_model.specs.Clients.Mentions.{Left}
use Rattle.tt_local.specs.Clients.{client_at}
use Rattle.tt_local.proofs.RosterLemmas.{fits_after, news_tracked}
use Rattle.tt_local.proofs.roster.Roster.leave.Goals as goal

pub invariant_of-self : goal.invariant_of-self
invariant_of-self c =
    let as_long = c.leave.ensures.as_long in
    let room = c.self.invariant.room in
    fits_after c.self.inside.clients c.leave.new.self c.self.inside.pending 0 c.args.key Left c.self.invariant (c.leave.ensures.news 0) (omega (arith, as_long, room))

pub returns-clause-news : goal.returns-clause-news
returns-clause-news c = λ now other.
    ap (λ cs. client_at cs other) c.touch.ensures.clients ∙ rw (← c.self.view_is) (c.leave.ensures.news now other)

pub returns-clause-tracks : goal.returns-clause-tracks
returns-clause-tracks c =
    news_tracked c.args.self.now c.touch.new.self c.leave.new.self 0 c.args.key Left (rw (← c.self.view_is) (c.leave.ensures.news 0))
    (rw (← c.self.view_is) c.touch.ensures.tracks) c.touch.ensures.touched
