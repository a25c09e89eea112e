use Rattle.std.proofs.Common.{◌∙◌, ap, ap₂}
use Rattle.mesh_model.specs.Routes.Hearings.{heard}
use Rattle.mesh_model.specs.Routes.Quality.{echoes_from}
use Rattle.mesh_iv.specs.Answers.{count_of}
use Rattle.mesh_iv.specs.Tables.{path_at}
use Rattle.mesh_iv.proofs.StandLemmas.{echo_at, echo_some}
use Rattle.mesh_iv.proofs.iv.Iv.echo_quality.Goals as goal

pub returns : goal.returns
returns c =
    λ me log stands.
    c.count.ensures.counted
    ∙ ap₂ (λ n p. count_of n p) (ap (λ t. t.sent) c.self.view_is ∙ stands.sent_is)
    (c.path_near.ensures me log stands
    ∙ ap (λ m. path_at me (heard me log) (λ k. echoes_from me k log) (record { orig = m; from = c.args.k })) (ap (λ t. t.me) c.self.view_is ∙ stands.me_is)
    ∙ echo_at me c.args.k (heard me log) (λ k. echoes_from me k log))
    ∙ echo_some me log c.args.k
