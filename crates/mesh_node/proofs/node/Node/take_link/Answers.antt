use Rattle.std.proofs.Common.{[], ◌++◌, Err, Ok, subst, sym}
use Rattle.std.specs.Prelude.{filter_map}
use Rattle.std.proofs.lemmas.Result.{err_from_is_err_and}
use Rattle.mesh_model.specs.Acts.Rows.{own_by, packets_acts}
use Rattle.mesh_model.specs.Clients.Lans.{bridge}
use Rattle.mesh_model.specs.Clients.Mentions.{mentions, roamed_by}
use Rattle.mesh_model.specs.Commits.History.{history}
use Rattle.mesh_model.specs.Knowledge.Steps.{after_packets, knowledge}
use Rattle.mesh_model.specs.Packets.LinkFrame.{link_frame}
use Rattle.node_ground.specs.KnowledgeStands.{KnowledgeStands, coming}
use Rattle.node_ground.specs.Puts.{Leaves, Puts, behind}
use Rattle.node_lans.specs.BridgeStands.{BridgeStands}
use Rattle.mesh_node.proofs.GivenLemmas.{has_roamed, roaming_limit}
use Rattle.node_ground.proofs.OwnLemmas.{owned}
use Rattle.mesh_node.proofs.PartMoments.{later_past}
use Rattle.mesh_node.proofs.node.Node.take_link.Goals as goal
use Rattle.tt_local.specs.Locals.{LocalsStand}

pub link-requires-clause-stands : goal.link-requires-clause-stands
link-requires-clause-stands g c =
    let known = knowledge (g.A.Algo.queries c.requires.0) c.requires.0 c.requires.1 in
    let is = c.requires.2 in (
      known,
      subst (λ m. KnowledgeStands g.A.Algo.stands c.args.self.now.kept m known) (sym is.mac) is.kept,
      later_past (g.A.Algo.queries c.requires.0) c.requires.0 c.requires.1 c.args.came.now is.rising c.requires.3,
    )

pub link-requires-clause-owns : goal.link-requires-clause-owns
link-requires-clause-owns g c =
    (own_by c.requires.0 c.requires.1, owned c.args.self.now.locals c.requires.0 c.requires.1 c.args.came.now c.requires.2.clients c.requires.3)

pub returns-in_err-link-clause-puts : goal.returns-in_err-link-clause-puts
returns-in_err-link-clause-puts g c = λ me log number is late.
    let p = err_from_is_err_and c.from_residual.result c.from_residual.ensures.1 in
    let known = knowledge (g.A.Algo.queries me) me log in
    let packets = (link_frame c.args.bytes.now).packets in
    let acts = packets_acts (g.A.Algo.queries me) me (own_by me log) (coming c.args.came number) known packets in
    rw (p.1, p.2) (subst (λ limit. Leaves g.P.Port.takes g.P.Port.same g.P.Port.over (behind [] limit) c.args.port.now acts (Err c.in_err-link.field-0.0) c.link.new.port)
    (sym (roaming_limit me (mentions me log) c.args.came.now packets))
    (subst (λ m. Puts g.P.Port.takes g.P.Port.same g.P.Port.over c.args.port.now
    (packets_acts (g.A.Algo.queries m) m (own_by me log) (coming c.args.came number) known packets) (Err c.in_err-link.field-0.0) c.link.new.port) is.mac
    (c.in_err-link.ensures.puts known (own_by me log) number (subst (λ m. KnowledgeStands g.A.Algo.stands c.args.self.now.kept m known) (sym is.mac) is.kept) (later_past (g.A.Algo.queries me) me log c.args.came.now is.rising late)
    (owned c.args.self.now.locals me log c.args.came.now is.clients late)
    (subst (λ m. BridgeStands c.args.self.now.bridge m (bridge log)) (sym is.mac) is.bridge))))

pub returns-clause-puts : goal.returns-clause-puts
returns-clause-puts g c = λ me log number is late.
    let known = knowledge (g.A.Algo.queries me) me log in
    let packets = (link_frame c.args.bytes.now).packets in
    let acts = packets_acts (g.A.Algo.queries me) me (own_by me log) (coming c.args.came number) known packets in
    subst (λ limit. Leaves g.P.Port.takes g.P.Port.same g.P.Port.over (behind [] limit) c.args.port.now acts (Ok tt) c.link.new.port)
    (sym (roaming_limit me (mentions me log) c.args.came.now packets))
    (subst (λ m. Puts g.P.Port.takes g.P.Port.same g.P.Port.over c.args.port.now
    (packets_acts (g.A.Algo.queries m) m (own_by me log) (coming c.args.came number) known packets) (Ok tt) c.link.new.port) is.mac
    (c.in_ok-link.ensures.puts known (own_by me log) number (subst (λ m. KnowledgeStands g.A.Algo.stands c.args.self.now.kept m known) (sym is.mac) is.kept) (later_past (g.A.Algo.queries me) me log c.args.came.now is.rising late)
    (owned c.args.self.now.locals me log c.args.came.now is.clients late)
    (subst (λ m. BridgeStands c.args.self.now.bridge m (bridge log)) (sym is.mac) is.bridge)))

pub returns-clause-noted : goal.returns-clause-noted
returns-clause-noted g c = λ me log number is late.
    let known = knowledge (g.A.Algo.queries me) me log in
    let packets = (link_frame c.args.bytes.now).packets in
    let came = c.args.came in
    record {
      mac = is.mac;
      kept = subst (λ m. KnowledgeStands g.A.Algo.stands c.link.new.kept m (after_packets (g.A.Algo.queries m) m (coming came number) known packets)) is.mac
          (c.in_ok-link.ensures.noted known number (subst (λ m. KnowledgeStands g.A.Algo.stands c.args.self.now.kept m known) (sym is.mac) is.kept) (later_past (g.A.Algo.queries me) me log came.now is.rising late));
      clients = has_roamed (g.A.Algo.queries me) c.args.self.now.locals c.note_roamed.new.locals me came.from log came.now number came.tp c.args.bytes.now is.clients late
          (subst (λ m. LocalsStand c.note_roamed.new.locals (filter_map (roamed_by m came.now) packets ++ mentions me log) (history me log) is.clients.since) is.mac
          (c.note_roamed.ensures (mentions me log) (history me log) is.clients.since came.now is.clients.stand));
      bridge = is.bridge;
      rising = (late, is.rising);
      alive = is.alive;
    }
