use Rattle.std.proofs.Common.{◌∙◌, Err, Ok, arith}
use Rattle.std.proofs.lemmas.Result.{err_from_is_err_and}
use Rattle.node_ground.proofs.PutsLemmas.{stops_free}
use Rattle.tt_sync.specs.Answers.{answer_in}
use Rattle.node_tables.specs.Replies.{numbered_acts}
use Rattle.node_tables.proofs.ReplyLemmas.{part_stops, parts_put}
use Rattle.node_tables.proofs.replies.+send_parts.Goals as goal

pub returns-in_err-containers : goal.returns-in_err-containers
returns-in_err-containers g t c =
    let p = err_from_is_err_and c.from_residual.result c.from_residual.ensures.1 in
    rw (p.1, p.2) (stops_free g.P.Port.takes g.P.Port.same g.P.Port.over c.args.port.now
    (numbered_acts c.args.way.next c.args.way.orig c.args.way.asker (answer_in c.args.reply.now) c.args.number) (g.met.P.Port.same_refl c.args.port.now))

pub returns-in_err-send : goal.returns-in_err-send
returns-in_err-send g t c =
    let p = err_from_is_err_and c.from_residual-in_err-send.result c.from_residual-in_err-send.ensures.1 in
    let left = c.if-number-part_count.false in
    let count = c.part_count.ensures in
    let bytes = c.as_slice.ensures.value ∙ c.in_ok-containers.ensures.ok in
    rw (p.1, p.2) (part_stops g.P.Port.takes g.P.Port.same g.P.Port.over c.args.way.next c.args.way.orig c.args.way.asker (answer_in c.args.reply.now) c.args.number (omega (arith, left, count))
    c.in_err-send.field-0.0 c.args.port.now c.send.new.port (rw bytes at c.in_err-send.ensures))

pub returns-in_err-send_parts : goal.returns-in_err-send_parts
returns-in_err-send_parts g t c =
    let p = err_from_is_err_and c.from_residual-in_err-send_parts.result c.from_residual-in_err-send_parts.ensures.1 in
    let left = c.if-number-part_count.false in
    let count = c.part_count.ensures in
    let bytes = c.as_slice.ensures.value ∙ c.in_ok-containers.ensures.ok in
    rw (p.1, p.2) (parts_put g.P.Port.takes g.P.Port.same g.P.Port.over c.args.way.next c.args.way.orig c.args.way.asker (answer_in c.args.reply.now) c.args.number (omega (arith, left, count))
    c.args.port.now c.send.new.port c.send_parts.new.port (Err c.in_err-send_parts.field-0.0) (rw bytes at c.in_ok-send.ensures) c.in_err-send_parts.ensures)

pub returns : goal.returns
returns g t c =
    let left = c.if-number-part_count.false in
    let count = c.part_count.ensures in
    let bytes = c.as_slice.ensures.value ∙ c.in_ok-containers.ensures.ok in
    parts_put g.P.Port.takes g.P.Port.same g.P.Port.over c.args.way.next c.args.way.orig c.args.way.asker (answer_in c.args.reply.now) c.args.number (omega (arith, left, count))
    c.args.port.now c.send.new.port c.send_parts.new.port (Ok tt) (rw bytes at c.in_ok-send.ensures) c.in_ok-send_parts.ensures
