use Rattle.std.proofs.Common.{◌≡◌, ◌∙◌, false, ap, subst}
use Rattle.mesh_base.specs.declared.client.Key.{Key}
use Rattle.mesh_model.specs.Clients.Mentions.{Sighted}
use Rattle.tt_local.specs.Clients.{client_at, HasNews}
use Rattle.tt_local.specs.Roster.{has_key, RosterView}
use Rattle.tt_local.proofs.RosterLemmas.{given_there, news_tracked}
use Rattle.tt_local.proofs.roster.Roster.sight.Goals as goal

pub returns-clause-tracks : goal.returns-clause-tracks
returns-clause-tracks c =
    let same = ap (λ (v : RosterView). v.clients) c.self.view_is ∙ c.make_room.ensures.same.0 in
    let pending = ap (λ (v : RosterView). v.pending) c.self.view_is ∙ c.make_room.ensures.same.1 in
    news_tracked c.args.self.now c.touch_known.new.self c.sight.new.self c.args.now c.args.key (Sighted c.args.flags)
    (subst (λ cs. HasNews c.args.now c.args.key (Sighted c.args.flags) cs c.sight.new.self) same c.in_ok-sight.ensures.news)
    (subst (λ ps. (q : Key) → has_key c.touch_known.new.self.pending q ≡ false → (has_key ps q ≡ false) × (client_at c.touch_known.new.self.clients q ≡ client_at c.sight.new.self q)) pending c.touch_known.ensures.tracks)
    (λ _. c.touch_known.ensures.touched)

pub touch_known-requires : goal.touch_known-requires
touch_known-requires c = given_there c.args.key _ c.self.inside.clients c.sight.new.self c.in_ok-sight.ensures.news
