use Rattle.std.proofs.Common.{◌∙◌, Bool, None, cond, subst, sym}
use Rattle.std.proofs.lemmas.Result.{err_from_is_err_and}
use Rattle.std.specs.Prelude.{Option, option_and_then}
use Rattle.mesh_model.specs.Acts.FrameRows.{broadcast_acts}
use Rattle.mesh_model.specs.Knowledge.FactStore.{after_fact_message, if_announces}
use Rattle.mesh_model.specs.Knowledge.Known.{Broadcast}
use Rattle.mesh_model.specs.Knowledge.Steps.{after_broadcast}
use Rattle.mesh_model.specs.Packets.FactMessages.{CameFact, fact_message_of}
use Rattle.node_ground.specs.KnowledgeStands.{KnowledgeStands, place}
use Rattle.node_ground.proofs.PutsLemmas.{stops_last}
use Rattle.mesh_node.proofs.carrying.broadcast_came.Goals as goal

pub returns-in_err-broadcast-2-clause-puts : goal.returns-in_err-broadcast-2-clause-puts
returns-in_err-broadcast-2-clause-puts g c = λ known gateway stands bridge.
    let p = err_from_is_err_and c.from_residual-in_err-broadcast-2.result c.from_residual-in_err-broadcast-2.ensures.1 in
    let broadcast : Broadcast = record { orig = c.args.orig; number = c.args.seq } in
    rw (p.1, p.2) (stops_last g.P.Port.takes g.P.Port.same g.P.Port.over c.args.port.now c.broadcast.new.port (broadcast_acts known gateway (place c.args.at) c.args.ttl broadcast c.args.tail.now)
    (c.in_ok-broadcast.ensures.puts known gateway stands bridge) (g.met.P.Port.same_refl c.broadcast.new.port))

pub returns-in_ok-broadcast-2-clause-noted : goal.returns-in_ok-broadcast-2-clause-noted
returns-in_ok-broadcast-2-clause-noted g c = λ known stands.
    let broadcast : Broadcast = record { orig = c.args.orig; number = c.args.seq } in
    let told : Option CameFact = option_and_then if_announces (fact_message_of c.args.tail.now) in
    let after = after_broadcast c.args.at.me c.args.at.now broadcast known in
    let is_new = sym (c.takes-is_new.ensures known stands) ∙ c.if-is_new.true in
    subst (λ (new : Bool). KnowledgeStands g.A.Algo.stands c.broadcast-then-is_new.new.kept c.args.at.me (after_fact_message c.args.at.now (cond new told None) after)) (sym is_new)
    (c.in_ok-broadcast-2.ensures.ok c.args.at.me after (c.in_ok-broadcast.ensures.noted known stands))

pub returns-else-is_new-clause-noted : goal.returns-else-is_new-clause-noted
returns-else-is_new-clause-noted g c = λ known stands.
    let broadcast : Broadcast = record { orig = c.args.orig; number = c.args.seq } in
    let told : Option CameFact = option_and_then if_announces (fact_message_of c.args.tail.now) in
    let after = after_broadcast c.args.at.me c.args.at.now broadcast known in
    let is_new = sym (c.takes-is_new.ensures known stands) ∙ c.if-is_new.false in
    subst (λ (new : Bool). KnowledgeStands g.A.Algo.stands c.broadcast.new.kept c.args.at.me (after_fact_message c.args.at.now (cond new told None) after)) (sym is_new)
    (c.in_ok-broadcast.ensures.noted known stands)
