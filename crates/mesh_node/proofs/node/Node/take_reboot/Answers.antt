use Rattle.std.proofs.Common.{Err, Ok, subst, sym}
use Rattle.std.proofs.lemmas.Result.{err_from_is_err_and}
use Rattle.mesh_model.specs.Acts.Rows.{reboot_acts}
use Rattle.mesh_model.specs.Clients.Mentions.{mentions}
use Rattle.mesh_model.specs.Commits.History.{history}
use Rattle.mesh_model.specs.Knowledge.Steps.{after_reboot, knowledge}
use Rattle.node_ground.specs.KnowledgeStands.{KnowledgeStands}
use Rattle.node_ground.specs.Puts.{Puts}
use Rattle.mesh_node.proofs.GivenLemmas.{has_rebooted}
use Rattle.mesh_node.proofs.node.Node.take_reboot.Goals as goal

pub returns-in_err-reboot-clause-puts : goal.returns-in_err-reboot-clause-puts
returns-in_err-reboot-clause-puts g c = λ me log is.
    let p = err_from_is_err_and c.from_residual.result c.from_residual.ensures.1 in
    rw (p.1, p.2) (subst (λ m. Puts g.P.Port.takes g.P.Port.same g.P.Port.over c.args.port.now (reboot_acts m (history me log)) (Err c.in_err-reboot.field-0.0) c.reboot.new.port) is.mac
    (c.in_err-reboot.ensures.puts (mentions me log) (history me log) is.clients.since is.clients.stand))

pub returns-clause-puts : goal.returns-clause-puts
returns-clause-puts g c = λ me log is.
    subst (λ m. Puts g.P.Port.takes g.P.Port.same g.P.Port.over c.args.port.now (reboot_acts m (history me log)) (Ok tt) c.reboot.new.port) is.mac
    (c.in_ok-reboot.ensures.puts (mentions me log) (history me log) is.clients.since is.clients.stand)

pub returns-clause-noted : goal.returns-clause-noted
returns-clause-noted g c = λ me log is late.
    let known = knowledge (g.A.Algo.queries me) me log in
    record {
      mac = is.mac;
      kept = subst (λ m. KnowledgeStands g.A.Algo.stands c.restart.new.self m (after_reboot known)) is.mac
          (c.restart.ensures known (subst (λ m. KnowledgeStands g.A.Algo.stands c.args.self.now.kept m known) (sym is.mac) is.kept));
      clients = has_rebooted (g.A.Algo.queries me) c.args.self.now.locals c.reboot.new.locals me log c.args.now is.clients
          (c.in_ok-reboot.ensures.restarted (mentions me log) (history me log) is.clients.since is.clients.stand);
      bridge = is.bridge;
      rising = (late, is.rising);
      alive = is.alive;
    }
