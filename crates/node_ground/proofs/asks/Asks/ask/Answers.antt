use Rattle.std.proofs.Common.{subst, sym}
use Rattle.mesh_model.specs.contracts.service.PairOrd.TheImpl.Laws.{matches_eq-law}
use Rattle.node_ground.specs.AsksStand.{AsksStand}
use Rattle.node_ground.proofs.AsksLemmas.{asked}
use Rattle.node_ground.proofs.asks.Asks.ask.Goals as goal

pub returns-clause-ok : goal.returns-clause-ok
returns-clause-ok c = λ calls stands.
    asked _ matches_eq-law c.args.pair c.self.inside.awaited.keys calls (subst (λ kept. AsksStand kept calls) (sym c.self.view_is) stands)
    c.insert.new.self.keys c.in_ok-insert.ensures.updates.0
