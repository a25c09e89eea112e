use Rattle.std.proofs.Common.{None, ap}
use Rattle.std.specs.Option.{option_or}
use Rattle.std.proofs.lemmas.Result.{err_from_is_err_and}
use Rattle.mesh_model.specs.Commits.History.{history}
use Rattle.mesh_model.specs.Clients.Mentions.{Joined, mentions}
use Rattle.node_ground.proofs.OwnLemmas.{before_now}
use Rattle.mesh_node.proofs.GivenLemmas.{has_joined}
use Rattle.node_clients.proofs.SightLemmas.{limit_by}
use Rattle.node_ground.proofs.LeavesLemmas.{refused_answer}
use Rattle.mesh_node.proofs.node.Node.join_group.Goals as goal

pub returns-in_err-join-clause-answers : goal.returns-in_err-join-clause-answers
returns-in_err-join-clause-answers g c = λ me log is late.
    let p = err_from_is_err_and c.from_residual.result c.from_residual.ensures.1 in
    rw (p.1, p.2) (refused_answer (limit_by (mentions me log) c.args.now c.args.key Joined) c.in_err-join.field-0.0
    (c.in_err-join.ensures.limit (mentions me log) (history me log) is.clients.since is.clients.stand
    (before_now c.args.self.now.locals me log c.args.now is.clients late)))

pub returns-clause-answers : goal.returns-clause-answers
returns-clause-answers g c = λ me log is late.
    ap (λ limit. option_or limit None) (c.in_ok-join.ensures.within (mentions me log) (history me log) is.clients.since is.clients.stand
    (before_now c.args.self.now.locals me log c.args.now is.clients late))

pub returns-clause-noted : goal.returns-clause-noted
returns-clause-noted g c = λ me log is late. record {
  mac = is.mac;
  kept = is.kept;
  clients = has_joined (g.A.Algo.queries me) c.args.self.now.locals c.join.new.self me log c.args.now c.args.key is.clients late
      (c.in_ok-join.ensures.within (mentions me log) (history me log) is.clients.since is.clients.stand
      (before_now c.args.self.now.locals me log c.args.now is.clients late))
      (c.in_ok-join.ensures.noted (mentions me log) (history me log) is.clients.since is.clients.stand);
  bridge = is.bridge;
  rising = (late, is.rising);
  alive = is.alive;
}
