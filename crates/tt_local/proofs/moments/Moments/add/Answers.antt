use Rattle.tt_local.proofs.MomentsLemmas.{added_moment}
use Rattle.tt_local.proofs.moments.Moments.add.Goals as goal

pub returns-clause-ok : goal.returns-clause-ok
returns-clause-ok c =
    rw (← c.self.view_is) (added_moment c.args.moment c.args.key c.self.inside.seen.keys c.insert.new.self.keys c.in_ok-insert.ensures.updates.0)
