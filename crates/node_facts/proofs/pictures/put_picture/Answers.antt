use Rattle.std.proofs.Common.{◌≡◌, ◌∙◌, ap, sym}
use Rattle.std.specs.Prelude.{true}
use Rattle.mesh_model.specs.Commits.Versions.{last_commit}
use Rattle.mesh_model.specs.Knowledge.OwnPictures.{puts_picture}
use Rattle.node_facts.proofs.KeptLemmas.{pictured}
use Rattle.node_facts.proofs.pictures.put_picture.Goals as goal

pub returns-clause-ok : goal.returns-clause-ok
returns-clause-ok g c = λ known mentions history since is own.
    let table = (last_commit history.commits).table in
    let puts : puts_picture known.services.settings c.args.index ≡ true =
    ap (λ settings. puts_picture settings c.args.index) (sym is.services.settings) ∙ sym c.puts_picture.ensures ∙ c.if-not-puts_picture.false in
    let spelled = c.as_slice.ensures.value ∙ c.in_ok-bytes.ensures c.args.at.me known mentions history since is own in
    pictured g.A.Algo.stands (g.A.Algo.queries c.args.at.me) c.put.new.kept c.args.at.me c.args.at.now c.args.index table known c.as_slice.result.now puts spelled
    (c.in_ok-put.ensures.ok known is)
