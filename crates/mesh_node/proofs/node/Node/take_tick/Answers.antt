use Rattle.std.proofs.Common.{◌++◌, Err, Ok, arith, subst, sym}
use Rattle.std.proofs.lemmas.Result.{err_from_is_err_and}
use Rattle.mesh_model.specs.Acts.FactRows.{fact_round_acts}
use Rattle.mesh_model.specs.Acts.Rows.{tick_acts}
use Rattle.mesh_model.specs.Clients.Lans.{bridge}
use Rattle.mesh_model.specs.Clients.Mentions.{mentions}
use Rattle.mesh_model.specs.Commits.History.{after_tick, history, present_table}
use Rattle.mesh_model.specs.Knowledge.Steps.{after_round_at, before_round, before_telling, knowledge, table_behind}
use Rattle.node_ground.specs.declared.failure.NodeErr.TheVariants.{Memory}
use Rattle.node_ground.specs.KnowledgeStands.{KnowledgeStands}
use Rattle.node_ground.specs.Puts.{Puts}
use Rattle.node_ground.proofs.PutsLemmas.{puts_behind, stops_among, stops_free}
use Rattle.node_lans.specs.BridgeStands.{BridgeStands}
use Rattle.mesh_node.proofs.GivenLemmas.{has_ticked}
use Rattle.mesh_node.proofs.node.Node.take_tick.Goals as goal

pub tick-requires-clause-known : goal.tick-requires-clause-known
tick-requires-clause-known g c =
    let known = knowledge (g.A.Algo.queries c.requires.0) c.requires.0 c.requires.1 in
    let is = c.requires.2 in
    (known, subst (λ m. KnowledgeStands g.A.Algo.stands c.args.self.now.kept m known) (sym is.mac) is.kept, c.requires.4)

pub tick-requires-clause-few : goal.tick-requires-clause-few
tick-requires-clause-few g c =
    let has = c.requires.2.clients in
    let late = c.requires.3 in
    let settled = has.settled in (
      mentions c.requires.0 c.requires.1,
      history c.requires.0 c.requires.1,
      has.since,
      has.stand,
      omega (arith, settled, late),
      record {
        present = λ at later. has.few.present at (omega (arith, late, later));
        committed = has.few.committed;
      },
    )

pub returns-in_err-tick-clause-puts : goal.returns-in_err-tick-clause-puts
returns-in_err-tick-clause-puts g c = λ me log is late.
    let p = err_from_is_err_and c.from_residual.result c.from_residual.ensures.1 in
    let known = knowledge (g.A.Algo.queries me) me log in
    let settled = is.clients.settled in
    rw (p.1, p.2) (stops_among g.P.Port.takes g.P.Port.same g.P.Port.over c.in_err-tick.field-0.0 c.args.port.now c.tick.new.port
    (tick_acts (g.A.Algo.queries me) me known.services.settings known.routes (mentions me log) (history me log) (bridge log) c.args.now c.args.index)
    (fact_round_acts (g.A.Algo.queries me) (before_telling (g.A.Algo.queries me) me c.args.now c.args.index (table_behind me log c.args.now c.args.index) known) (record { me = me; now = c.args.now }) c.args.index)
    (subst (λ m. Puts g.P.Port.takes g.P.Port.same g.P.Port.over c.args.port.now
    (tick_acts (g.A.Algo.queries m) m known.services.settings known.routes (mentions me log) (history me log) (bridge log) c.args.now c.args.index) (Err c.in_err-tick.field-0.0) c.tick.new.port) is.mac
    (c.in_err-tick.ensures.puts known (mentions me log) (history me log) is.clients.since (bridge log)
    (subst (λ m. KnowledgeStands g.A.Algo.stands c.args.self.now.kept m known) (sym is.mac) is.kept) is.clients.stand (omega (arith, settled, late))
    (subst (λ m. BridgeStands c.args.self.now.bridge m (bridge log)) (sym is.mac) is.bridge))))

pub returns-in_err-put_picture-clause-puts : goal.returns-in_err-put_picture-clause-puts
returns-in_err-put_picture-clause-puts g c = λ me log is late.
    let p = err_from_is_err_and c.from_residual-in_err-put_picture.result c.from_residual-in_err-put_picture.ensures.1 in
    let known = knowledge (g.A.Algo.queries me) me log in
    let settled = is.clients.settled in
    let stands = subst (λ m. KnowledgeStands g.A.Algo.stands c.args.self.now.kept m known) (sym is.mac) is.kept in
    let told = fact_round_acts (g.A.Algo.queries me) (before_telling (g.A.Algo.queries me) me c.args.now c.args.index (table_behind me log c.args.now c.args.index) known) (record { me = me; now = c.args.now }) c.args.index in
    rw (p.1, p.2) (subst (λ m. Puts g.P.Port.takes g.P.Port.same g.P.Port.over c.args.port.now
    (tick_acts (g.A.Algo.queries m) m known.services.settings known.routes (mentions me log) (history me log) (bridge log) c.args.now c.args.index ++ told) (Err Memory) c.tick.new.port) is.mac
    (puts_behind g.P.Port.takes g.P.Port.same g.P.Port.over c.args.port.now c.tick.new.port c.tick.new.port _ told (Err Memory)
    (c.in_ok-tick.ensures.puts known (mentions me log) (history me log) is.clients.since (bridge log) stands is.clients.stand (omega (arith, settled, late))
    (subst (λ m. BridgeStands c.args.self.now.bridge m (bridge log)) (sym is.mac) is.bridge))
    (stops_free g.P.Port.takes g.P.Port.same g.P.Port.over c.tick.new.port told (g.met.P.Port.same_refl c.tick.new.port))))

pub returns-in_err-round-clause-puts : goal.returns-in_err-round-clause-puts
returns-in_err-round-clause-puts g c = λ me log is late.
    let p = err_from_is_err_and c.from_residual-in_err-round.result c.from_residual-in_err-round.ensures.1 in
    let known = knowledge (g.A.Algo.queries me) me log in
    let settled = is.clients.settled in
    let stands = subst (λ m. KnowledgeStands g.A.Algo.stands c.args.self.now.kept m known) (sym is.mac) is.kept in
    let table = table_behind me log c.args.now c.args.index in
    let own = c.args.self.now.me in
    rw (p.1, p.2) (subst (λ m. Puts g.P.Port.takes g.P.Port.same g.P.Port.over c.args.port.now
    (tick_acts (g.A.Algo.queries m) m known.services.settings known.routes (mentions me log) (history me log) (bridge log) c.args.now c.args.index
    ++ fact_round_acts (g.A.Algo.queries m) (before_telling (g.A.Algo.queries m) m c.args.now c.args.index table known) (record { me = m; now = c.args.now }) c.args.index) (Err c.in_err-round.field-0.0) c.round.new.port) is.mac
    (puts_behind g.P.Port.takes g.P.Port.same g.P.Port.over c.args.port.now c.tick.new.port c.round.new.port _ _ (Err c.in_err-round.field-0.0)
    (c.in_ok-tick.ensures.puts known (mentions me log) (history me log) is.clients.since (bridge log) stands is.clients.stand (omega (arith, settled, late))
    (subst (λ m. BridgeStands c.args.self.now.bridge m (bridge log)) (sym is.mac) is.bridge))
    (c.in_err-round.ensures.puts (before_telling (g.A.Algo.queries own) own c.args.now c.args.index table known)
    (c.in_ok-put_picture.ensures.ok (before_round (g.A.Algo.queries own) c.args.now c.args.index known) (mentions me log) (after_tick c.args.index (present_table (mentions me log) c.args.now) (history me log)) c.args.now
    (c.in_ok-tick.ensures.ticked known stands) (c.in_ok-tick.ensures.committed (mentions me log) (history me log) is.clients.since is.clients.stand (omega (arith, settled, late)))))))

pub returns-clause-puts : goal.returns-clause-puts
returns-clause-puts g c = λ me log is late.
    let known = knowledge (g.A.Algo.queries me) me log in
    let settled = is.clients.settled in
    let stands = subst (λ m. KnowledgeStands g.A.Algo.stands c.args.self.now.kept m known) (sym is.mac) is.kept in
    let table = table_behind me log c.args.now c.args.index in
    let own = c.args.self.now.me in
    subst (λ m. Puts g.P.Port.takes g.P.Port.same g.P.Port.over c.args.port.now
    (tick_acts (g.A.Algo.queries m) m known.services.settings known.routes (mentions me log) (history me log) (bridge log) c.args.now c.args.index
    ++ fact_round_acts (g.A.Algo.queries m) (before_telling (g.A.Algo.queries m) m c.args.now c.args.index table known) (record { me = m; now = c.args.now }) c.args.index) (Ok tt) c.round.new.port) is.mac
    (puts_behind g.P.Port.takes g.P.Port.same g.P.Port.over c.args.port.now c.tick.new.port c.round.new.port _ _ (Ok tt)
    (c.in_ok-tick.ensures.puts known (mentions me log) (history me log) is.clients.since (bridge log) stands is.clients.stand (omega (arith, settled, late))
    (subst (λ m. BridgeStands c.args.self.now.bridge m (bridge log)) (sym is.mac) is.bridge))
    (c.in_ok-round.ensures.puts (before_telling (g.A.Algo.queries own) own c.args.now c.args.index table known)
    (c.in_ok-put_picture.ensures.ok (before_round (g.A.Algo.queries own) c.args.now c.args.index known) (mentions me log) (after_tick c.args.index (present_table (mentions me log) c.args.now) (history me log)) c.args.now
    (c.in_ok-tick.ensures.ticked known stands) (c.in_ok-tick.ensures.committed (mentions me log) (history me log) is.clients.since is.clients.stand (omega (arith, settled, late))))))

pub returns-clause-noted : goal.returns-clause-noted
returns-clause-noted g c = λ me log is late.
    let known = knowledge (g.A.Algo.queries me) me log in
    let settled = is.clients.settled in
    let stands = subst (λ m. KnowledgeStands g.A.Algo.stands c.args.self.now.kept m known) (sym is.mac) is.kept in
    let table = table_behind me log c.args.now c.args.index in
    let own = c.args.self.now.me in
    let committed = c.in_ok-tick.ensures.committed (mentions me log) (history me log) is.clients.since is.clients.stand (omega (arith, settled, late)) in
    record {
      mac = is.mac;
      kept = subst (λ m. KnowledgeStands g.A.Algo.stands c.round.new.kept m (after_round_at (g.A.Algo.queries m) c.args.now c.args.index (before_telling (g.A.Algo.queries m) m c.args.now c.args.index table known))) is.mac
          (c.in_ok-round.ensures.noted (before_telling (g.A.Algo.queries own) own c.args.now c.args.index table known)
          (c.in_ok-put_picture.ensures.ok (before_round (g.A.Algo.queries own) c.args.now c.args.index known) (mentions me log) (after_tick c.args.index (present_table (mentions me log) c.args.now) (history me log)) c.args.now
          (c.in_ok-tick.ensures.ticked known stands) committed));
      clients = has_ticked (g.A.Algo.queries me) c.args.self.now.locals c.tick.new.locals me log c.args.now c.args.index is.clients late committed;
      bridge = is.bridge;
      rising = (late, is.rising);
      alive = is.alive;
    }
