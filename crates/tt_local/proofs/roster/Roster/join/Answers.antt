use Rattle.std.proofs.Common.{◌≡◌, ◌<◌, ◌∙◌, false, length, arith, ap, sym, subst}
use Rattle.mesh_base.specs.declared.client.Key.{Key}
use Rattle.mesh_model.specs.Clients.Mentions.{Joined}
use Rattle.tt_local.specs.Clients.{client_at, HasNews}
use Rattle.tt_local.specs.Roster.{has_key, RosterView}
use Rattle.tt_local.proofs.RosterLemmas.{fits_after, given_there, news_tracked}
use Rattle.tt_local.proofs.roster.Roster.join.Goals as goal

pub invariant_of-self-2 : goal.invariant_of-self-2
invariant_of-self-2 c =
    let longer = c.join.ensures.longer in
    let room = subst (λ (v : RosterView). length v.clients < v.room) (sym c.self.view_is) c.in_ok-make_room.ensures.room in
    fits_after c.self.inside.clients c.join.new.self c.self.inside.pending 0 c.args.key Joined c.self.invariant (c.in_ok-join.ensures.news 0) (omega (arith, longer, room))

pub returns-clause-news : goal.returns-clause-news
returns-clause-news c = λ now other.
    let same = ap (λ (v : RosterView). v.clients) c.self.view_is ∙ c.make_room.ensures.same.0 in
    ap (λ cs. client_at cs other) c.touch_known.ensures.clients
    ∙ subst (λ cs. HasNews now c.args.key Joined cs c.join.new.self) same (c.in_ok-join.ensures.news now) other

pub returns-clause-tracks : goal.returns-clause-tracks
returns-clause-tracks c =
    let same = ap (λ (v : RosterView). v.clients) c.self.view_is ∙ c.make_room.ensures.same.0 in
    let pending = ap (λ (v : RosterView). v.pending) c.self.view_is ∙ c.make_room.ensures.same.1 in
    news_tracked c.args.self.now c.touch_known.new.self c.join.new.self 0 c.args.key Joined
    (subst (λ cs. HasNews 0 c.args.key Joined cs c.join.new.self) same (c.in_ok-join.ensures.news 0))
    (subst (λ ps. (q : Key) → has_key c.touch_known.new.self.pending q ≡ false → (has_key ps q ≡ false) × (client_at c.touch_known.new.self.clients q ≡ client_at c.join.new.self q)) pending c.touch_known.ensures.tracks)
    (λ _. c.touch_known.ensures.touched)

pub touch_known-requires : goal.touch_known-requires
touch_known-requires c = given_there c.args.key _ c.self.inside.clients c.join.new.self (c.in_ok-join.ensures.news 0)
