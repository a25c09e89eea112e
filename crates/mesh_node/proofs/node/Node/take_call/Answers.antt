use Rattle.std.proofs.Common.{◌∙◌, Err, Ok, ap, subst, sym}
use Rattle.std.specs.Prelude.{if◌then◌else◌}
use Rattle.std.proofs.lemmas.Result.{err_from_is_err_and}
use Rattle.mesh_model.specs.Acts.Choosing.{whole_acts}
use Rattle.mesh_model.specs.Acts.NodeLimits.{client_limit}
use Rattle.mesh_model.specs.Clients.Mentions.{Sighted}
use Rattle.mesh_model.specs.Knowledge.Steps.{knowledge, next_knowledge}
use Rattle.mesh_model.specs.Packets.Numbers.{wifi_flag}
use Rattle.node_clients.specs.FrameRows.{Before, given_call}
use Rattle.node_ground.specs.KnowledgeStands.{KnowledgeStands}
use Rattle.node_ground.specs.OwnStands.{with_input}
use Rattle.node_ground.specs.OwnStands.{HasClients}
use Rattle.node_ground.specs.Puts.{Leaves}
use Rattle.mesh_node.proofs.GivenLemmas.{wifi_is}
use Rattle.mesh_node.proofs.node.Node.take_call.Goals as goal

pub call-requires : goal.call-requires
call-requires g c =
    let log = c.requires.1 in
    let is = c.requires.2 in (
      log,
      subst (λ m. Before g.A.Algo.stands g.A.Algo.queries c.args.self.now.kept c.args.self.now.locals m log c.args.now) (sym is.mac)
          (record { known = is.kept; clients = is.clients; later = c.requires.3 }),
    )

pub returns-in_err-call-clause-puts : goal.returns-in_err-call-clause-puts
returns-in_err-call-clause-puts g c = λ me log is late.
    let p = err_from_is_err_and c.from_residual.result c.from_residual.ensures.1 in
    let given = given_call c.args.key c.args.text.now in
    let before = subst (λ m. Before g.A.Algo.stands g.A.Algo.queries c.args.self.now.kept c.args.self.now.locals m log c.args.now) (sym is.mac)
    (record { known = is.kept; clients = is.clients; later = late }) in
    rw (p.1, p.2) (subst (λ m. Leaves g.P.Port.takes g.P.Port.same g.P.Port.over (client_limit m log c.args.now given) c.args.port.now
    (whole_acts (g.A.Algo.queries m) m log c.args.now given) (Err c.in_err-call.field-0.0) c.call.new.port) is.mac
    (c.in_err-call.ensures.puts log before (ap Sighted c.client_flags-flags.ensures ∙ ap (λ wifi. Sighted (if wifi then wifi_flag else 0)) (wifi_is g.A.Algo.stands g.A.Algo.queries c.args.self.now me log is))))

pub returns-clause-puts : goal.returns-clause-puts
returns-clause-puts g c = λ me log is late.
    let given = given_call c.args.key c.args.text.now in
    let before = subst (λ m. Before g.A.Algo.stands g.A.Algo.queries c.args.self.now.kept c.args.self.now.locals m log c.args.now) (sym is.mac)
    (record { known = is.kept; clients = is.clients; later = late }) in
    subst (λ m. Leaves g.P.Port.takes g.P.Port.same g.P.Port.over (client_limit m log c.args.now given) c.args.port.now
    (whole_acts (g.A.Algo.queries m) m log c.args.now given) (Ok tt) c.call.new.port) is.mac
    (c.in_ok-call.ensures.puts log before (ap Sighted c.client_flags-flags.ensures ∙ ap (λ wifi. Sighted (if wifi then wifi_flag else 0)) (wifi_is g.A.Algo.stands g.A.Algo.queries c.args.self.now me log is)))

pub returns-clause-noted : goal.returns-clause-noted
returns-clause-noted g c = λ me log is late.
    let given = given_call c.args.key c.args.text.now in
    let before = subst (λ m. Before g.A.Algo.stands g.A.Algo.queries c.args.self.now.kept c.args.self.now.locals m log c.args.now) (sym is.mac)
    (record { known = is.kept; clients = is.clients; later = late }) in
    let flags = ap Sighted c.client_flags-flags.ensures ∙ ap (λ wifi. Sighted (if wifi then wifi_flag else 0)) (wifi_is g.A.Algo.stands g.A.Algo.queries c.args.self.now me log is) in
    record {
      mac = is.mac;
      kept = subst (λ m. KnowledgeStands g.A.Algo.stands c.call.new.kept m (next_knowledge (g.A.Algo.queries m) m log (knowledge (g.A.Algo.queries m) m log) c.args.now given)) is.mac
          (c.in_ok-call.ensures.noted log before);
      clients = subst (λ m. HasClients c.call.new.locals m (with_input (g.A.Algo.queries m) m log c.args.now given)) is.mac
          (c.in_ok-call.ensures.sighted log before flags);
      bridge = is.bridge;
      rising = (late, is.rising);
      alive = is.alive;
    }
