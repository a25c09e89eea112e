use Rattle.std.proofs.Common.{Err, Ok, subst, sym}
use Rattle.std.proofs.lemmas.Result.{err_from_is_err_and}
use Rattle.mesh_model.specs.Acts.FactRows.{get_acts}
use Rattle.mesh_model.specs.Knowledge.FactStore.{after_get}
use Rattle.mesh_model.specs.Knowledge.Steps.{knowledge}
use Rattle.node_ground.specs.KnowledgeStands.{KnowledgeStands}
use Rattle.node_ground.specs.Puts.{Puts}
use Rattle.mesh_node.proofs.GivenLemmas.{has_got}
use Rattle.mesh_node.proofs.node.Node.get_facts.Goals as goal

pub returns-in_err-get-clause-puts : goal.returns-in_err-get-clause-puts
returns-in_err-get-clause-puts g c = λ me log is.
    let p = err_from_is_err_and c.from_residual.result c.from_residual.ensures.1 in
    let known = knowledge (g.A.Algo.queries me) me log in
    rw (p.1, p.2) (subst (λ m. Puts g.P.Port.takes g.P.Port.same g.P.Port.over c.args.port.now
    (get_acts (g.A.Algo.queries m) known (record { me = m; now = c.args.now }) c.args.type_no) (Err c.in_err-get.field-0.0) c.get.new.port) is.mac
    (c.in_err-get.ensures.puts known (subst (λ m. KnowledgeStands g.A.Algo.stands c.args.self.now.kept m known) (sym is.mac) is.kept)))

pub returns-clause-puts : goal.returns-clause-puts
returns-clause-puts g c = λ me log is.
    let known = knowledge (g.A.Algo.queries me) me log in
    subst (λ m. Puts g.P.Port.takes g.P.Port.same g.P.Port.over c.args.port.now
    (get_acts (g.A.Algo.queries m) known (record { me = m; now = c.args.now }) c.args.type_no) (Ok tt) c.get.new.port) is.mac
    (c.in_ok-get.ensures.puts known (subst (λ m. KnowledgeStands g.A.Algo.stands c.args.self.now.kept m known) (sym is.mac) is.kept))

pub returns-clause-noted : goal.returns-clause-noted
returns-clause-noted g c = λ me log is late.
    let known = knowledge (g.A.Algo.queries me) me log in
    record {
      mac = is.mac;
      kept = subst (λ m. KnowledgeStands g.A.Algo.stands c.get.new.kept m (after_get (g.A.Algo.queries m) c.args.now c.args.type_no known.services.settings.fact_store known)) is.mac
          (c.in_ok-get.ensures.noted known (subst (λ m. KnowledgeStands g.A.Algo.stands c.args.self.now.kept m known) (sym is.mac) is.kept));
      clients = has_got (g.A.Algo.queries me) c.args.self.now.locals me log c.args.now c.args.type_no is.clients late;
      bridge = is.bridge;
      rising = (late, is.rising);
      alive = is.alive;
    }
