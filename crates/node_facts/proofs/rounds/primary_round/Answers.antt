use Rattle.std.proofs.Common.{◌∙◌, ◌∷◌, [], Err, ap, subst, sym}
use Rattle.std.proofs.lemmas.Result.{err_from_is_err_and}
use Rattle.mesh_model.specs.declared.line_form.AlfredMode.TheVariants.{Primary as IsPrimary}
use Rattle.mesh_model.specs.Acts.FactRows.{announce_act, part_round, push_acts}
use Rattle.mesh_model.specs.Knowledge.FactStore.{facts_marked, is_at_first_hand, reached_primaries}
use Rattle.node_facts.specs.Pushes.{pushes_of}
use Rattle.node_ground.specs.declared.failure.NodeErr.TheVariants.{Memory}
use Rattle.node_ground.specs.KnowledgeStands.{place}
use Rattle.node_ground.specs.Puts.{Puts}
use Rattle.node_ground.proofs.PutsLemmas.{puts_behind, stops_among, stops_free}
use Rattle.node_facts.proofs.RoundLemmas.{counted_on, primary_stands}
use Rattle.node_facts.proofs.rounds.primary_round.Goals as goal

pub returns-in_err-announce-clause-puts : goal.returns-in_err-announce-clause-puts
returns-in_err-announce-clause-puts g c = λ known stands.
    let p = err_from_is_err_and c.from_residual.result c.from_residual.ensures.1 in
    let q = g.A.Algo.queries c.args.at.me in
    subst (λ r. Puts g.P.Port.takes g.P.Port.same g.P.Port.over c.args.port.now (part_round q known (place c.args.at) IsPrimary) r c.announce.new.port) (sym (p.1 ∙ ap (λ e. Err e) p.2))
    (stops_among g.P.Port.takes g.P.Port.same g.P.Port.over c.in_err-announce.field-0.0 c.args.port.now c.announce.new.port (announce_act known (place c.args.at) ∷ [])
    (push_acts q known (place c.args.at) (facts_marked is_at_first_hand known.services c.args.at.now) (reached_primaries q known c.args.at.now))
    (c.in_err-announce.ensures known stands))

pub returns-in_err-nodes-clause-puts : goal.returns-in_err-nodes-clause-puts
returns-in_err-nodes-clause-puts g c = λ known stands.
    let p = err_from_is_err_and c.from_residual-in_err-nodes.result c.from_residual-in_err-nodes.ensures.1 in
    let q = g.A.Algo.queries c.args.at.me in
    let rest = push_acts q known (place c.args.at) (facts_marked is_at_first_hand known.services c.args.at.now) (reached_primaries q known c.args.at.now) in
    subst (λ r. Puts g.P.Port.takes g.P.Port.same g.P.Port.over c.args.port.now (part_round q known (place c.args.at) IsPrimary) r c.announce.new.port) (sym (p.1 ∙ ap (λ e. Err e) p.2))
    (puts_behind g.P.Port.takes g.P.Port.same g.P.Port.over c.args.port.now c.announce.new.port c.announce.new.port (announce_act known (place c.args.at) ∷ []) rest (Err Memory)
    (c.in_ok-announce.ensures known stands) (stops_free g.P.Port.takes g.P.Port.same g.P.Port.over c.announce.new.port rest (g.met.P.Port.same_refl c.announce.new.port)))

pub returns-clause-noted : goal.returns-clause-noted
returns-clause-noted g c = λ known stands.
    let q = g.A.Algo.queries c.args.at.me in
    let nodes = c.as_slice.ensures.value ∙ c.in_ok-nodes.ensures c.args.at.me known stands in
    let count = c.in_ok-count.ensures.count known stands ∙ ap (λ nodes. pushes_of (facts_marked is_at_first_hand known.services c.args.at.now) nodes) nodes in
    primary_stands g.A.Algo.stands c.args.kept.now _ c.take_ids.new.self c.args.at.me known c.in_ok-count.count _ stands (counted_on c.args.kept.now.sent known.sent stands.sent) count
    (c.take_ids.ensures c.args.at.me known stands.services.store)
