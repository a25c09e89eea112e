use Rattle.tt_local.proofs.MomentsLemmas.{removed_moment}
use Rattle.tt_local.proofs.moments.Moments.remove.Goals as goal

pub returns : goal.returns
returns c =
    rw (← c.self.view_is) (removed_moment c.args.moment c.args.key c.self.inside.seen.keys c.remove.new.self.keys c.remove.ensures.updates.0)
