use Rattle.std.proofs.Common.{◌≡◌, ◌∷◌, Err, Ok, suc, rules}
use Rattle.std.proofs.lemmas.Result.{err_from_is_err_and}
use Rattle.mesh_messages.specs.LentFacts.{lent_facts}
use Rattle.node_ground.specs.KnowledgeStands.{place}
use Rattle.node_facts.proofs.RoundLemmas.{id_behind, push_goes_on, push_stops}
use Rattle.node_facts.proofs.rounds.+push_to.Goals as goal

pub returns-in_err-send_transaction : goal.returns-in_err-send_transaction
returns-in_err-send_transaction g t c = λ known count stands is.
    let p = err_from_is_err_and c.from_residual.result c.from_residual.ensures.1 in
    let all : c.in-Some.first.now ∷ c.in-Some.rest.now ≡ c.args.nodes.now = search rules in
    rw (p.1, p.2) (push_stops g.P.Port.takes g.P.Port.same g.P.Port.over (g.A.Algo.queries c.args.at.me) known (place c.args.at) (lent_facts c.args.facts.now) count _ c.in-Some.first.now c.in-Some.rest.now c.args.nodes.now
    c.in_err-send_transaction.field-0.0 c.args.port.now c.send_transaction.new.port (id_behind c.args.taken count is) all (c.in_err-send_transaction.ensures known stands))

pub returns-in_err-push_to : goal.returns-in_err-push_to
returns-in_err-push_to g t c = λ known count stands is.
    let p = err_from_is_err_and c.from_residual-in_err-push_to.result c.from_residual-in_err-push_to.ensures.1 in
    let all : c.in-Some.first.now ∷ c.in-Some.rest.now ≡ c.args.nodes.now = search rules in
    rw (p.1, p.2) (push_goes_on g.P.Port.takes g.P.Port.same g.P.Port.over (g.A.Algo.queries c.args.at.me) known (place c.args.at) (lent_facts c.args.facts.now) count _ c.in-Some.first.now c.in-Some.rest.now c.args.nodes.now
    c.args.port.now c.send_transaction.new.port c.push_to.new.port (Err c.in_err-push_to.field-0.0) (id_behind c.args.taken count is) all (c.in_ok-send_transaction.ensures known stands)
    (c.in_err-push_to.ensures known (suc count) stands (id_behind c.args.taken count is)))

pub returns : goal.returns
returns g t c = λ known count stands is.
    let all : c.in-Some.first.now ∷ c.in-Some.rest.now ≡ c.args.nodes.now = search rules in
    push_goes_on g.P.Port.takes g.P.Port.same g.P.Port.over (g.A.Algo.queries c.args.at.me) known (place c.args.at) (lent_facts c.args.facts.now) count _ c.in-Some.first.now c.in-Some.rest.now c.args.nodes.now
    c.args.port.now c.send_transaction.new.port c.push_to.new.port (Ok tt) (id_behind c.args.taken count is) all (c.in_ok-send_transaction.ensures known stands)
    (c.in_ok-push_to.ensures known (suc count) stands (id_behind c.args.taken count is))
