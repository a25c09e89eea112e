use Rattle.std.proofs.Common.{◌≡◌, ◌∷◌, List, rules, subst}
use Rattle.std.specs.Prelude.{flat_map}
use Rattle.std.proofs.lemmas.Result.{err_from_is_err_and}
use Rattle.mesh_base.specs.declared.address.Mac.{Mac}
use Rattle.mesh_model.specs.declared.act.Act.{Act}
use Rattle.mesh_model.specs.Acts.ArpRows.{table_packet}
use Rattle.node_ground.specs.KnowledgeStands.{place}
use Rattle.node_ground.specs.Puts.{StopsAt}
use Rattle.node_ground.proofs.PutsLemmas.{stops_among}
use Rattle.node_arp.proofs.sending.+send_each.Goals as goal

pub returns-in_err-send_to : goal.returns-in_err-send_to
returns-in_err-send_to g t c = λ known stands.
    let p = err_from_is_err_and c.from_residual.result c.from_residual.ensures.1 in
    let packet : Mac → List Act = λ dst. table_packet (g.A.Algo.queries c.args.at.me) known (place c.args.at) c.args.subtype dst c.args.payload.now in
    let all : c.in-Some.first.now ∷ c.in-Some.rest.now ≡ c.args.nodes.now = search rules in
    rw (p.1, p.2) (subst (λ nodes. StopsAt g.P.Port.takes g.P.Port.same g.P.Port.over c.in_err-send_to.field-0.0 c.args.port.now (flat_map packet nodes) c.send_to.new.port) all
    (stops_among g.P.Port.takes g.P.Port.same g.P.Port.over c.in_err-send_to.field-0.0 c.args.port.now c.send_to.new.port (packet c.in-Some.first.now) (flat_map packet c.in-Some.rest.now)
    (c.in_err-send_to.ensures known stands)))
