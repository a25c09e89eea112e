use Rattle.std.proofs.Common.{◌∙◌, ap, sym, rules}
use Rattle.mesh_iv.specs.Answers.{count_of}
use Rattle.mesh_iv.proofs.StandLemmas.{receive_none, receive_some}
use Rattle.mesh_iv.proofs.iv.Iv.receive_quality.Goals as goal

pub returns-in_default-clause-quality : goal.returns-in_default-clause-quality
returns-in_default-clause-quality c =
    λ me log stands. receive_none me log c.args.now c.args.k (sym (c.life.ensures me log stands) ∙ search rules)

pub returns-clause-quality : goal.returns-clause-quality
returns-clause-quality c =
    λ me log stands.
    c.count.ensures.counted ∙ ap (λ p. count_of c.in-Some.life.newest p) (c.path_near.ensures me log stands)
    ∙ receive_some me log c.args.now c.args.k c.in-Some.life (sym (c.life.ensures me log stands) ∙ c.in-Some.is)
