use Rattle.std.proofs.Common.{subst, sym}
use Rattle.tt_sync.specs.Sync.{StandsFor}
use Rattle.tt_sync.proofs.SyncLemmas.{moments_advised}
use Rattle.tt_sync.proofs.sync.Sync.advise.Goals as goal

pub returns-clause-ok : goal.returns-clause-ok
returns-clause-ok c =
    λ made stands.
    let st = subst (λ k. StandsFor k made) (sym c.self.view_is) stands in
    record {
      marks = st.marks;
      asked = st.asked;
      sent = moments_advised _ made st c.args.now c.args.key c.last_sent.result c.insert.new.self.entries (c.last_sent.ensures made stands) c.in_ok-insert.ensures.updates.0;
    }
