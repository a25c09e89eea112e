use Rattle.std.proofs.Common.{◌∙◌, ap, subst, sym}
use Rattle.tt_sync.specs.Sync.{StandsFor, moments_of}
use Rattle.tt_sync.proofs.SyncLemmas.{moments_found}
use Rattle.tt_sync.proofs.sync.Sync.last_sent.Goals as goal

pub returns-in-Some : goal.returns-in-Some
returns-in-Some c =
    λ made stands.
    ap moments_of c.in-Some.ensures.value ∙ moments_found _ made (subst (λ k. StandsFor k made) (sym c.self.view_is) stands) c.args.key

pub returns-in-None : goal.returns-in-None
returns-in-None c =
    λ made stands.
    ap moments_of c.in-None.ensures.value ∙ moments_found _ made (subst (λ k. StandsFor k made) (sym c.self.view_is) stands) c.args.key
