use Rattle.std.proofs.Common.{◌≡◌, ◌++◌, ◌∙◌, Bor, ap, map}
use Rattle.mesh_model.specs.declared.service.Fact.{Fact}
use Rattle.mesh_model.specs.declared.service.KeptFact.{KeptFact}
use Rattle.mesh_model.specs.Text.Pictures.{network_text}
use Rattle.mesh_vis.proofs.Rows.{map_twice}
use Rattle.mesh_vis.proofs.network.report.Goals as goal

pub returns-clause-ok : goal.returns-clause-ok
returns-clause-ok c = λ me calls stands.
    let fact : KeptFact → Fact = λ kept. kept.fact in
    let facts : map (λ (row : Bor KeptFact). row.now.fact) c.as_slice.result.now ≡ map fact (map (λ (row : Bor KeptFact). row.now) c.as_slice.result.now) =
    map_twice fact (λ (row : Bor KeptFact). row.now) c.as_slice.result.now in
    c.in_ok-put_network.ensures.ok ∙ ap (λ rows. c.args.out.now.items ++ network_text rows)
    (facts ∙ ap (λ rows. map fact (map (λ (row : Bor KeptFact). row.now) rows)) c.as_slice.ensures.value ∙ ap (map fact) (c.in_ok-rows.ensures me calls stands))
