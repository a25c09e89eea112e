use Rattle.std.proofs.Common.{◌∙◌, ap, length, nat_lt, refl, sym}
use Rattle.mesh_model.specs.Knowledge.FactStore.{facts_marked, is_own, with_ids}
use Rattle.node_facts.proofs.KeptLemmas.{stands_as, stands_with}
use Rattle.node_facts.proofs.RoundLemmas.{secondary_pushes}
use Rattle.node_facts.proofs.rounds.secondary_round.Goals as goal

pub returns-clause-noted : goal.returns-clause-noted
returns-clause-noted g c = λ known stands.
    let chosen = sym c.in-Some.is ∙ c.in_ok-primary.ensures c.args.at.me known stands in
    let count = c.in_ok-count.ensures.count known stands ∙ secondary_pushes (nat_lt 0 (length (facts_marked is_own known.services c.args.at.now))) c.in-Some.primary _ chosen in
    stands_as g.A.Algo.stands _ c.args.at.me _ _ (ap (λ n. with_ids n known) count)
    (stands_with g.A.Algo.stands c.args.kept.now c.take_ids.new.self c.args.at.me known (with_ids c.in_ok-count.count known) refl stands (c.take_ids.ensures c.args.at.me known stands.services.store))
