use Rattle.std.proofs.Common.{◌≡◌, ◌++◌, ◌∷◌, [], ◌∙◌, Bor, ap, map}
use Rattle.std.specs.Prelude.{codes}
use Rattle.mesh_model.specs.declared.service.Fact.{Fact}
use Rattle.mesh_model.specs.declared.service.KeptFact.{KeptFact}
use Rattle.mesh_model.specs.Knowledge.Steps.{knowledge}
use Rattle.mesh_model.specs.Scenario.Lines.{newline}
use Rattle.mesh_model.specs.Services.Facts.{facts_at}
use Rattle.mesh_model.specs.Text.Pictures.{network_text}
use Rattle.mesh_show.proofs.RowLemmas.{header_then_text, map_twice}
use Rattle.mesh_show.proofs.seen.Seen.show_pictures.Goals as goal

pub returns : goal.returns
returns g c = λ row at.
    let fact : KeptFact → Fact = λ kept. kept.fact in
    let kept_of : Bor KeptFact → KeptFact = λ lent. lent.now in
    let kept = facts_at (knowledge (g.A.Algo.queries row.mac) row.mac row.log).services.facts c.args.self.now.moment in
    let facts : map (λ (lent : Bor KeptFact). lent.now.fact) c.as_slice.result.now ≡ map fact kept =
    map_twice fact kept_of c.as_slice.result.now ∙ ap (λ lent. map fact (map kept_of lent)) c.as_slice.ensures.value ∙ ap (map fact) (c.in_ok-facts.ensures row.mac row.log at.standing) in
    rw (g.met.A.Choosable.answers, at.named)
    (header_then_text c.args.out.now.items (codes "vis ") c.args.self.now.name.now (codes " ") (network_text (map fact kept)) (newline ∷ [])
    c.extend_from_slice.new.self.items c.extend_from_slice-2.new.self.items c.extend_from_slice-3.new.self.items c.put_network.new.out.items c.push.new.self.items
    c.in_ok-extend_from_slice.ensures.items c.in_ok-extend_from_slice-2.ensures.items c.in_ok-extend_from_slice-3.ensures.items
    (c.in_ok-put_network.ensures.ok ∙ ap (λ fs. c.extend_from_slice-3.new.self.items ++ network_text fs) facts) c.in_ok-push.ensures.items)
