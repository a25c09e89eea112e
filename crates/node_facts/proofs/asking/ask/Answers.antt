use Rattle.std.proofs.Common.{◌∙◌, Some, ap, refl, sym}
use Rattle.std.proofs.lemmas.Result.{err_from_is_err_and}
use Rattle.mesh_model.specs.Knowledge.FactStore.{after_asking_for}
use Rattle.mesh_model.specs.Knowledge.Known.{Knowledge}
use Rattle.node_ground.specs.KnowledgeStands.{place}
use Rattle.node_facts.proofs.KeptLemmas.{stands_as, stands_with}
use Rattle.node_facts.proofs.RoundLemmas.{asked_of}
use Rattle.node_facts.proofs.asking.ask.Goals as goal

pub returns-in_err-send_request-clause-puts : goal.returns-in_err-send_request-clause-puts
returns-in_err-send_request-clause-puts g c = λ known stands.
    let p = err_from_is_err_and c.from_residual-in_err-send_request.result c.from_residual-in_err-send_request.ensures.1 in
    let q = g.A.Algo.queries c.args.at.me in
    let after : Knowledge = after_asking_for c.args.type_no (Some c.in-Some.primary) known in
    let chosen = sym c.in-Some.is ∙ c.in_ok-primary.ensures c.args.at.me known stands in
    let stand = stands_with g.A.Algo.stands c.args.kept.now c.ask.new.self c.args.at.me known after refl stands (c.in_ok-id.ensures.noted c.args.at.me known stands.services.store) in
    let asked = asked_of q known (place c.args.at) c.args.type_no c.in_ok-id.id c.in-Some.primary chosen (c.in_ok-id.ensures.id c.args.at.me known stands.services.store) in
    rw (p.1, p.2, sym asked) (c.in_err-send_request.ensures after stand)

pub returns-clause-puts : goal.returns-clause-puts
returns-clause-puts g c = λ known stands.
    let q = g.A.Algo.queries c.args.at.me in
    let after : Knowledge = after_asking_for c.args.type_no (Some c.in-Some.primary) known in
    let chosen = sym c.in-Some.is ∙ c.in_ok-primary.ensures c.args.at.me known stands in
    let stand = stands_with g.A.Algo.stands c.args.kept.now c.ask.new.self c.args.at.me known after refl stands (c.in_ok-id.ensures.noted c.args.at.me known stands.services.store) in
    let asked = asked_of q known (place c.args.at) c.args.type_no c.in_ok-id.id c.in-Some.primary chosen (c.in_ok-id.ensures.id c.args.at.me known stands.services.store) in
    rw (sym asked) (c.in_ok-send_request.ensures after stand)

pub returns-clause-noted : goal.returns-clause-noted
returns-clause-noted g c = λ known stands.
    let chosen = sym c.in-Some.is ∙ c.in_ok-primary.ensures c.args.at.me known stands in
    stands_as g.A.Algo.stands _ c.args.at.me _ _ (ap (λ o. after_asking_for c.args.type_no o known) chosen)
    (stands_with g.A.Algo.stands c.args.kept.now c.ask.new.self c.args.at.me known (after_asking_for c.args.type_no (Some c.in-Some.primary) known) refl stands (c.in_ok-id.ensures.noted c.args.at.me known stands.services.store))
