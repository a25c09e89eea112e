use Rattle.std.proofs.Common.{sym, subst, ◌∙◌}
use Rattle.std.proofs.lemmas.Result.{err_from_is_err_and}
use Rattle.node_ground.proofs.PutsLemmas.{stops_free}
use Rattle.node_ground.specs.Puts.{StopsAt, TakesAll}
use Rattle.tt_sync.specs.Answers.{answer_in}
use Rattle.node_tables.specs.Replies.{reply_acts}
use Rattle.node_tables.proofs.ReplyLemmas.{all_parts, one_fits, one_packet}
use Rattle.node_tables.proofs.replies.send_reply.Goals as goal

pub returns-in_err-send_parts : goal.returns-in_err-send_parts
returns-in_err-send_parts g c =
    let p = err_from_is_err_and c.from_residual.result c.from_residual.ensures.1 in
    rw (p.1, p.2) (subst (λ acts. StopsAt g.P.Port.takes g.P.Port.same g.P.Port.over c.in_err-send_parts.field-0.0 c.args.port.now acts c.send_parts.new.port)
    (all_parts c.args.way.next c.args.way.orig c.args.way.asker (answer_in c.args.reply.now) (sym c.goes_in_parts.ensures ∙ c.if-goes_in_parts.true)) c.in_err-send_parts.ensures)

pub returns-then-goes_in_parts : goal.returns-then-goes_in_parts
returns-then-goes_in_parts g c =
    subst (λ acts. TakesAll g.P.Port.takes g.P.Port.over c.args.port.now acts c.send_parts.new.port)
    (all_parts c.args.way.next c.args.way.orig c.args.way.asker (answer_in c.args.reply.now) (sym c.goes_in_parts.ensures ∙ c.if-goes_in_parts.true)) c.in_ok-send_parts.ensures

pub reply_containers-requires : goal.reply_containers-requires
reply_containers-requires g c = one_fits (answer_in c.args.reply.now) c.requires (sym c.goes_in_parts.ensures ∙ c.if-goes_in_parts.false)

pub returns-in_err-containers : goal.returns-in_err-containers
returns-in_err-containers g c =
    let p = err_from_is_err_and c.from_residual-in_err-containers.result c.from_residual-in_err-containers.ensures.1 in
    rw (p.1, p.2) (stops_free g.P.Port.takes g.P.Port.same g.P.Port.over c.args.port.now
    (reply_acts c.args.way.next c.args.way.orig c.args.way.asker (answer_in c.args.reply.now)) (g.met.P.Port.same_refl c.args.port.now))

pub returns-in_err-send : goal.returns-in_err-send
returns-in_err-send g c =
    let p = err_from_is_err_and c.from_residual-in_err-send.result c.from_residual-in_err-send.ensures.1 in
    let bytes = c.as_slice.ensures.value ∙ c.in_ok-containers.ensures.ok in
    rw (p.1, p.2) (subst (λ acts. StopsAt g.P.Port.takes g.P.Port.same g.P.Port.over c.in_err-send.field-0.0 c.args.port.now acts c.send.new.port)
    (one_packet c.args.way.next c.args.way.orig c.args.way.asker (answer_in c.args.reply.now) (sym c.goes_in_parts.ensures ∙ c.if-goes_in_parts.false)) (rw bytes at c.in_err-send.ensures))

pub returns : goal.returns
returns g c =
    let bytes = c.as_slice.ensures.value ∙ c.in_ok-containers.ensures.ok in
    subst (λ acts. TakesAll g.P.Port.takes g.P.Port.over c.args.port.now acts c.send.new.port)
    (one_packet c.args.way.next c.args.way.orig c.args.way.asker (answer_in c.args.reply.now) (sym c.goes_in_parts.ensures ∙ c.if-goes_in_parts.false)) (rw bytes at c.in_ok-send.ensures)
