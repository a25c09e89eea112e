use Rattle.std.proofs.Common.{Err, Ok, subst, sym}
use Rattle.std.proofs.lemmas.Result.{err_from_is_err_and}
use Rattle.mesh_model.specs.Acts.ProbeRows.{session_acts}
use Rattle.mesh_model.specs.Knowledge.Steps.{after_start, knowledge}
use Rattle.node_ground.specs.KnowledgeStands.{KnowledgeStands}
use Rattle.node_ground.specs.Puts.{Puts}
use Rattle.mesh_node.proofs.SessionLemmas.{session_began}
use Rattle.mesh_node.proofs.node.Node.take_session.Goals as goal

pub returns-in_err-session-clause-puts : goal.returns-in_err-session-clause-puts
returns-in_err-session-clause-puts g c = λ me log is.
    let p = err_from_is_err_and c.from_residual.result c.from_residual.ensures.1 in
    let known = knowledge (g.A.Algo.queries me) me log in
    rw (p.1, p.2) (subst (λ m. Puts g.P.Port.takes g.P.Port.same g.P.Port.over c.args.port.now
    (session_acts (g.A.Algo.queries m) known (record { me = m; now = c.args.now }) c.args.target c.args.trace) (Err c.in_err-session.field-0.0) c.session.new.port) is.mac
    (c.in_err-session.ensures.puts known (subst (λ m. KnowledgeStands g.A.Algo.stands c.args.self.now.kept m known) (sym is.mac) is.kept)))

pub returns-clause-puts : goal.returns-clause-puts
returns-clause-puts g c = λ me log is.
    let known = knowledge (g.A.Algo.queries me) me log in
    subst (λ m. Puts g.P.Port.takes g.P.Port.same g.P.Port.over c.args.port.now
    (session_acts (g.A.Algo.queries m) known (record { me = m; now = c.args.now }) c.args.target c.args.trace) (Ok tt) c.session.new.port) is.mac
    (c.in_ok-session.ensures.puts known (subst (λ m. KnowledgeStands g.A.Algo.stands c.args.self.now.kept m known) (sym is.mac) is.kept))

pub returns-clause-noted : goal.returns-clause-noted
returns-clause-noted g c = λ me log is late.
    let known = knowledge (g.A.Algo.queries me) me log in
    session_began g.A.Algo.stands g.A.Algo.queries c.args.self.now c.session.new.kept me log c.args.now c.args.target c.args.trace is late
    (subst (λ m. KnowledgeStands g.A.Algo.stands c.session.new.kept m (after_start (g.A.Algo.queries m) c.args.now c.args.target c.args.trace known)) is.mac
    (c.in_ok-session.ensures.noted known (subst (λ m. KnowledgeStands g.A.Algo.stands c.args.self.now.kept m known) (sym is.mac) is.kept)))
