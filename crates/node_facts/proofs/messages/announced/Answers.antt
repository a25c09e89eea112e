use Rattle.std.proofs.Common.{◌≡◌, ◌∙◌, refl, ap, rules, tests}
use Rattle.mesh_model.specs.declared.line_form.AlfredMode.TheVariants.{Off}
use Rattle.mesh_model.specs.Knowledge.FactStore.{after_announced, with_primary}
use Rattle.mesh_model.specs.Knowledge.Known.{Knowledge}
use Rattle.node_facts.proofs.KeptLemmas.{announced_at, stands_as, stands_with}
use Rattle.node_facts.proofs.messages.announced.Goals as goal

pub returns-clause-ok : goal.returns-clause-ok
returns-clause-ok g c = λ me known stands.
    let mode = c.args.kept.now.services.settings.fact_store in
    let part : mode ≡ Off → ⊥ = search (rules, tests) in
    let after : Knowledge = with_primary c.args.now c.args.sender known in
    stands_as g.A.Algo.stands _ me _ _
    (announced_at mode c.args.now c.args.sender known part ∙ ap (λ m. after_announced m c.args.now c.args.sender known) (ap (λ s. s.fact_store) stands.services.settings))
    (stands_with g.A.Algo.stands c.args.kept.now c.announce.new.self me known after refl stands (c.in_ok-announce.ensures.ok me known stands.services.store))
