use Rattle.std.proofs.Common.{◌∙◌, Err, Ok, ap, subst, sym}
use Rattle.std.specs.Prelude.{if◌then◌else◌}
use Rattle.std.proofs.lemmas.Result.{err_from_is_err_and}
use Rattle.mesh_model.specs.Acts.Choosing.{whole_acts}
use Rattle.mesh_model.specs.Acts.NodeLimits.{client_limit}
use Rattle.mesh_model.specs.Clients.Lans.{bridge, next_bridge}
use Rattle.mesh_model.specs.Clients.Log.{LanFrame}
use Rattle.mesh_model.specs.Clients.Mentions.{Sighted}
use Rattle.mesh_model.specs.Knowledge.Steps.{knowledge, next_knowledge}
use Rattle.mesh_model.specs.Packets.Numbers.{wifi_flag}
use Rattle.node_clients.specs.FrameRows.{Before}
use Rattle.node_lans.specs.BridgeStands.{BridgeStands}
use Rattle.node_ground.specs.KnowledgeStands.{KnowledgeStands}
use Rattle.node_ground.specs.OwnStands.{with_input}
use Rattle.node_ground.specs.OwnStands.{HasClients}
use Rattle.node_ground.specs.Puts.{Leaves}
use Rattle.mesh_node.proofs.GivenLemmas.{wifi_is}
use Rattle.mesh_node.proofs.node.Node.take_lan.Goals as goal

pub lan_frame-requires : goal.lan_frame-requires
lan_frame-requires g c =
    let log = c.requires.1 in
    let is = c.requires.2 in (
      log,
      subst (λ m. Before g.A.Algo.stands g.A.Algo.queries c.args.self.now.kept c.args.self.now.locals m log c.args.now) (sym is.mac)
          (record { known = is.kept; clients = is.clients; later = c.requires.3 }),
    )

pub returns-in_err-lan_frame-clause-puts : goal.returns-in_err-lan_frame-clause-puts
returns-in_err-lan_frame-clause-puts g c = λ me log is late.
    let p = err_from_is_err_and c.from_residual.result c.from_residual.ensures.1 in
    let given = LanFrame c.args.bytes.now in
    let before = subst (λ m. Before g.A.Algo.stands g.A.Algo.queries c.args.self.now.kept c.args.self.now.locals m log c.args.now) (sym is.mac)
    (record { known = is.kept; clients = is.clients; later = late }) in
    rw (p.1, p.2) (subst (λ m. Leaves g.P.Port.takes g.P.Port.same g.P.Port.over (client_limit m log c.args.now given) c.args.port.now
    (whole_acts (g.A.Algo.queries m) m log c.args.now given) (Err c.in_err-lan_frame.field-0.0) c.lan_frame.new.port) is.mac
    (c.in_err-lan_frame.ensures.puts log before (subst (λ m. BridgeStands c.args.self.now.bridge m (bridge log)) (sym is.mac) is.bridge) (ap Sighted c.client_flags-flags.ensures ∙ ap (λ wifi. Sighted (if wifi then wifi_flag else 0)) (wifi_is g.A.Algo.stands g.A.Algo.queries c.args.self.now me log is))))

pub returns-clause-puts : goal.returns-clause-puts
returns-clause-puts g c = λ me log is late.
    let given = LanFrame c.args.bytes.now in
    let before = subst (λ m. Before g.A.Algo.stands g.A.Algo.queries c.args.self.now.kept c.args.self.now.locals m log c.args.now) (sym is.mac)
    (record { known = is.kept; clients = is.clients; later = late }) in
    subst (λ m. Leaves g.P.Port.takes g.P.Port.same g.P.Port.over (client_limit m log c.args.now given) c.args.port.now
    (whole_acts (g.A.Algo.queries m) m log c.args.now given) (Ok tt) c.lan_frame.new.port) is.mac
    (c.in_ok-lan_frame.ensures.puts log before (subst (λ m. BridgeStands c.args.self.now.bridge m (bridge log)) (sym is.mac) is.bridge) (ap Sighted c.client_flags-flags.ensures ∙ ap (λ wifi. Sighted (if wifi then wifi_flag else 0)) (wifi_is g.A.Algo.stands g.A.Algo.queries c.args.self.now me log is)))

pub returns-clause-noted : goal.returns-clause-noted
returns-clause-noted g c = λ me log is late.
    let given = LanFrame c.args.bytes.now in
    let before = subst (λ m. Before g.A.Algo.stands g.A.Algo.queries c.args.self.now.kept c.args.self.now.locals m log c.args.now) (sym is.mac)
    (record { known = is.kept; clients = is.clients; later = late }) in
    let flags = ap Sighted c.client_flags-flags.ensures ∙ ap (λ wifi. Sighted (if wifi then wifi_flag else 0)) (wifi_is g.A.Algo.stands g.A.Algo.queries c.args.self.now me log is) in
    record {
      mac = is.mac;
      kept = subst (λ m. KnowledgeStands g.A.Algo.stands c.lan_frame.new.kept m (next_knowledge (g.A.Algo.queries m) m log (knowledge (g.A.Algo.queries m) m log) c.args.now given)) is.mac
          (c.in_ok-lan_frame.ensures.noted log before (subst (λ m. BridgeStands c.args.self.now.bridge m (bridge log)) (sym is.mac) is.bridge) flags);
      clients = subst (λ m. HasClients c.lan_frame.new.locals m (with_input (g.A.Algo.queries m) m log c.args.now given)) is.mac
          (c.in_ok-lan_frame.ensures.mentioned log before (subst (λ m. BridgeStands c.args.self.now.bridge m (bridge log)) (sym is.mac) is.bridge) flags);
      bridge = subst (λ m. BridgeStands c.lan_frame.new.bridge m (next_bridge (bridge log) c.args.now given)) is.mac
          (c.in_ok-lan_frame.ensures.bridged log (subst (λ m. BridgeStands c.args.self.now.bridge m (bridge log)) (sym is.mac) is.bridge));
      rising = (late, is.rising);
      alive = is.alive;
    }
