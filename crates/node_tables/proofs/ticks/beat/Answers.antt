use Rattle.std.proofs.Common.{Err, Ok, [], ◌∷◌, refl, subst, sym}
use Rattle.std.specs.Prelude.{if◌then◌else◌}
use Rattle.std.proofs.lemmas.Result.{err_from_is_err_and}
use Rattle.mesh_model.specs.Acts.Rows.{commit_acts, elp_acts, message_acts}
use Rattle.mesh_model.specs.Commits.History.{History, with_message, committed, is_commit_tick, present_table}
use Rattle.mesh_model.specs.Routes.RouteLog.{OwnTick}
use Rattle.mesh_model.specs.declared.route.Beats.{Beats}
use Rattle.node_ground.specs.SettingsSeen.{settings_seen}
use Rattle.node_ground.specs.Puts.{Puts, TakesAll}
use Rattle.node_ground.proofs.PutsLemmas.{puts_behind, stops_among, stops_last}
use Rattle.node_tables.proofs.TickLemmas.{beat_acts, even_known, even_puts, is_even, odd_acts, odd_known, odd_stands, ticked}
use Rattle.node_tables.proofs.ticks.beat.Goals as goal
use Rattle.tt_local.specs.Locals.{LocalsStand}

pub returns-in_err-send_elp-clause-puts : goal.returns-in_err-send_elp-clause-puts
returns-in_err-send_elp-clause-puts g c = λ known mentions history since is stands late.
    let p = err_from_is_err_and c.from_residual.result c.from_residual.ensures.1 in
    let q = g.A.Algo.queries c.args.at.me in
    let after : History = committed (present_table mentions c.args.at.now) history in
    let put = subst (λ (beats : Beats). Puts g.P.Port.takes g.P.Port.same g.P.Port.over c.args.port.now (message_acts beats.elp []) (Err c.in_err-send_elp.field-0.0) c.send_elp.new.port)
    (c.tick-beats.ensures.beats c.args.at.me known.routes is.routes) c.in_err-send_elp.ensures in
    rw (p.1, p.2) (stops_among g.P.Port.takes g.P.Port.same g.P.Port.over c.in_err-send_elp.field-0.0 c.args.port.now c.send_elp.new.port (elp_acts q known.routes c.args.index)
    (if is_commit_tick c.args.index then commit_acts q c.args.at.me known.services.settings known.routes c.args.index history after else []) put)

pub returns-then-index-ne0-clause-puts : goal.returns-then-index-ne0-clause-puts
returns-then-index-ne0-clause-puts g c = λ known mentions history since is stands late.
    let q = g.A.Algo.queries c.args.at.me in
    let put = subst (λ (beats : Beats). TakesAll g.P.Port.takes g.P.Port.over c.args.port.now (message_acts beats.elp []) c.send_elp.new.port)
    (c.tick-beats.ensures.beats c.args.at.me known.routes is.routes) c.in_ok-send_elp.ensures in
    subst (λ acts. Puts g.P.Port.takes g.P.Port.same g.P.Port.over c.args.port.now acts (Ok tt) c.send_elp.new.port)
    (odd_acts q c.args.at.me known.services.settings known.routes mentions history c.args.at.now c.args.index c.if-index-ne0.true)
    (puts_behind g.P.Port.takes g.P.Port.same g.P.Port.over c.args.port.now c.send_elp.new.port c.send_elp.new.port (elp_acts q known.routes c.args.index) [] (Ok tt) put refl)

pub returns-in_err-own_message-clause-puts : goal.returns-in_err-own_message-clause-puts
returns-in_err-own_message-clause-puts g c = λ known mentions history since is stands late.
    let p = err_from_is_err_and c.from_residual-in_err-own_message.result c.from_residual-in_err-own_message.ensures.1 in
    rw (p.1, p.2) (even_puts g.P.Port.takes g.P.Port.same g.P.Port.over (g.A.Algo.queries c.args.at.me) c.args.at.me (settings_seen c.args.kept.now.services.settings) known.services.settings known.routes mentions history
    c.args.at.now c.args.index c.tick-beats.result c.args.port.now c.send_elp.new.port c.own_message.new.port (Err c.in_err-own_message.field-0.0) is.services.settings
    (c.tick-beats.ensures.beats c.args.at.me known.routes is.routes) c.if-index-ne0.false c.in_ok-send_elp.ensures (c.in_err-own_message.ensures.puts mentions history since stands late))

pub returns-in_err-choose_gateway-clause-puts : goal.returns-in_err-choose_gateway-clause-puts
returns-in_err-choose_gateway-clause-puts g c = λ known mentions history since is stands late.
    let p = err_from_is_err_and c.from_residual-in_err-choose_gateway.result c.from_residual-in_err-choose_gateway.ensures.1 in
    rw (p.1, p.2) (stops_last g.P.Port.takes g.P.Port.same g.P.Port.over c.args.port.now c.own_message.new.port
    (beat_acts (g.A.Algo.queries c.args.at.me) c.args.at.me known.services.settings known.routes mentions history c.args.at.now c.args.index)
    (even_puts g.P.Port.takes g.P.Port.same g.P.Port.over (g.A.Algo.queries c.args.at.me) c.args.at.me (settings_seen c.args.kept.now.services.settings) known.services.settings known.routes mentions history
    c.args.at.now c.args.index c.tick-beats.result c.args.port.now c.send_elp.new.port c.own_message.new.port (Ok tt) is.services.settings
    (c.tick-beats.ensures.beats c.args.at.me known.routes is.routes) c.if-index-ne0.false c.in_ok-send_elp.ensures (c.in_ok-own_message.ensures.puts mentions history since stands late))
    (g.met.P.Port.same_refl c.own_message.new.port))

pub returns-clause-puts : goal.returns-clause-puts
returns-clause-puts g c = λ known mentions history since is stands late.
    even_puts g.P.Port.takes g.P.Port.same g.P.Port.over (g.A.Algo.queries c.args.at.me) c.args.at.me (settings_seen c.args.kept.now.services.settings) known.services.settings known.routes mentions history
    c.args.at.now c.args.index c.tick-beats.result c.args.port.now c.send_elp.new.port c.own_message.new.port (Ok tt) is.services.settings
    (c.tick-beats.ensures.beats c.args.at.me known.routes is.routes) c.if-index-ne0.false c.in_ok-send_elp.ensures (c.in_ok-own_message.ensures.puts mentions history since stands late)

pub returns-then-index-ne0-clause-committed : goal.returns-then-index-ne0-clause-committed
returns-then-index-ne0-clause-committed g c = λ mentions history since stands late.
    odd_stands c.args.locals.now mentions history since c.args.at.now c.args.index stands late c.if-index-ne0.true

pub returns-clause-committed : goal.returns-clause-committed
returns-clause-committed g c = λ mentions history since stands late.
    subst (λ even. LocalsStand c.own_message.new.locals mentions (if even then with_message (committed (present_table mentions c.args.at.now) history) else history) c.args.at.now)
    (sym (is_even c.args.index c.if-index-ne0.false))
    (c.in_ok-own_message.ensures.committed mentions history since stands late)

pub returns-then-index-ne0-clause-ticked : goal.returns-then-index-ne0-clause-ticked
returns-then-index-ne0-clause-ticked g c = λ known is.
    odd_known g.A.Algo.stands _ (g.A.Algo.queries c.args.at.me) c.args.at.me c.args.at.now c.args.index known (ticked g.A.Algo.stands c.args.kept.now c.tick-beats.new.self c.args.at.me c.args.at.now c.args.index known is
    (c.tick-beats.ensures.ticked c.args.at.me known.routes is.routes)) c.if-index-ne0.true

pub returns-clause-ticked : goal.returns-clause-ticked
returns-clause-ticked g c = λ known is.
    even_known g.A.Algo.stands _ (g.A.Algo.queries c.args.at.me) c.args.at.me c.args.at.now c.args.index known
    (c.in_ok-choose_gateway.ensures.ok c.args.at.me (record known { routes = OwnTick c.args.at.now c.args.index ∷ known.routes })
    (ticked g.A.Algo.stands c.args.kept.now c.tick-beats.new.self c.args.at.me c.args.at.now c.args.index known is (c.tick-beats.ensures.ticked c.args.at.me known.routes is.routes))) c.if-index-ne0.false
