use Rattle.std.proofs.Common.{◌∙◌, subst, sym}
use Rattle.mesh_model.specs.contracts.service.PairOrd.TheImpl.Laws.{matches_eq-law}
use Rattle.node_ground.specs.AsksStand.{AsksStand}
use Rattle.node_ground.proofs.AsksLemmas.{found, told}
use Rattle.node_ground.proofs.asks.Asks.close.Goals as goal

pub returns-clause-awaited : goal.returns-clause-awaited
returns-clause-awaited c = λ calls stands.
    c.swap_remove.ensures.found
    ∙ found _ matches_eq-law c.args.pair c.self.inside.awaited.keys calls (subst (λ kept. AsksStand kept calls) (sym c.self.view_is) stands)

pub returns-clause-told : goal.returns-clause-told
returns-clause-told c = λ calls stands.
    told _ matches_eq-law c.args.pair c.self.inside.awaited.keys calls (subst (λ kept. AsksStand kept calls) (sym c.self.view_is) stands)
    c.swap_remove.new.self.keys c.swap_remove.ensures.updates.0
