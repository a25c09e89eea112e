use Rattle.std.proofs.Common.{◌≤◌, List, length, Err, sym, subst, ap, ◌∙◌}
use Rattle.std.proofs.lemmas.Result.{err_from_is_err_and}
use Rattle.mesh_model.specs.declared.act.Act.{Act}
use Rattle.mesh_model.specs.Clients.Limits.{clients_limit}
use Rattle.mesh_model.specs.Acts.TableRows.{own_answer}
use Rattle.mesh_model.specs.Knowledge.Told.{Asks, stamp_told}
use Rattle.mesh_model.specs.Packets.Numbers.{full_table_flag}
use Rattle.mesh_model.specs.Routes.Ogm.{has_flag}
use Rattle.mesh_model.specs.Tables.Versions.{Version}
use Rattle.node_tables.proofs.WayLemmas.{own_acts, own_fits}
use Rattle.node_ground.specs.Puts.{Puts, TakesAll}
use Rattle.node_ground.specs.Sending.{FitsParts}
use Rattle.node_ground.proofs.PutsLemmas.{stops_free}
use Rattle.tt_sync.specs.Answers.{answer_in}
use Rattle.node_tables.proofs.containers.answer_own.Goals as goal

pub send_reply-requires : goal.send_reply-requires
send_reply-requires g c =
    let own = c.requires.0 in
    let owns = c.requires.1 in
    let few = subst (λ (v : Version). length v.table ≤ clients_limit) owns.last owns.few in
    subst FitsParts (sym (c.in_ok-reply.ensures.answer own.mentions owns.history owns.since owns.stand))
    (own_fits c.has_flag-full.result c.ttvn.result owns.history few)

pub returns-in_err-reply : goal.returns-in_err-reply
returns-in_err-reply g c = λ known own stands owns.
    let p = err_from_is_err_and c.from_residual.result c.from_residual.ensures.1 in
    rw (p.1, p.2) (stops_free g.P.Port.takes g.P.Port.same g.P.Port.over c.args.port.now
    (own_answer (g.A.Algo.queries c.args.at.me) c.args.at.me known c.args.at.now own.last own.told c.args.asker (Asks (has_flag full_table_flag c.args.table.now.flags) (stamp_told c.args.table.now)))
    (g.met.P.Port.same_refl c.args.port.now))

pub returns-in_err-send_reply : goal.returns-in_err-send_reply
returns-in_err-send_reply g c = λ known own stands owns.
    let p = err_from_is_err_and c.from_residual-in_err-send_reply.result c.from_residual-in_err-send_reply.ensures.1 in
    let acts = own_acts (g.A.Algo.queries c.args.at.me) c.args.at.me known c.args.at.now own owns.history c.args.asker
    (has_flag full_table_flag c.args.table.now.flags) c.has_flag-full.result (stamp_told c.args.table.now) c.ttvn.result c.route.result
    (answer_in c.in_ok-reply.reply) (c.route.ensures c.args.at.me known.routes stands.routes)
    (c.in_ok-reply.ensures.answer own.mentions owns.history owns.since owns.stand) (c.has_flag-full.ensures ∙ ap (has_flag full_table_flag) c.flags.ensures) c.ttvn.ensures
    owns.last owns.told in
    rw (p.1, p.2) (subst (λ (acts : List Act). Puts g.P.Port.takes g.P.Port.same g.P.Port.over c.args.port.now acts (Err c.in_err-send_reply.field-0.0) c.send_reply.new.port) acts
    c.in_err-send_reply.ensures)

pub returns : goal.returns
returns g c = λ known own stands owns.
    let acts = own_acts (g.A.Algo.queries c.args.at.me) c.args.at.me known c.args.at.now own owns.history c.args.asker
    (has_flag full_table_flag c.args.table.now.flags) c.has_flag-full.result (stamp_told c.args.table.now) c.ttvn.result c.route.result
    (answer_in c.in_ok-reply.reply) (c.route.ensures c.args.at.me known.routes stands.routes)
    (c.in_ok-reply.ensures.answer own.mentions owns.history owns.since owns.stand) (c.has_flag-full.ensures ∙ ap (has_flag full_table_flag) c.flags.ensures) c.ttvn.ensures
    owns.last owns.told in
    subst (λ (acts : List Act). TakesAll g.P.Port.takes g.P.Port.over c.args.port.now acts c.send_reply.new.port) acts c.in_ok-send_reply.ensures
