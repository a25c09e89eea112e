use Rattle.std.proofs.Common.{◌≡◌, None, [], sym, ◌∙◌, append-nil}
use Rattle.mesh_model.specs.declared.act.Act.TheVariants.{Link}
use Rattle.mesh_post.specs.Sent.{passed_by}
use Rattle.mesh_post.proofs.Before.{as_before, cut_back}
use Rattle.mesh_post.proofs.ActLemmas.{has_sent, has_sent_none, room_for, are_low}
use Rattle.mesh_post.proofs.post.Post.put.Goals as goal

pub returns-then-count-eq0-clause-taken : goal.returns-then-count-eq0-clause-taken
returns-then-count-eq0-clause-taken c = λ queries older last ticks mesh step may.
    let none : passed_by c.args.self.now c.args.sender.place (Link c.args.to c.args.reason c.args.bytes) ≡ None = rw (c.count-count.ensures, c.len.ensures.value) at c.in_ok-check_room.ensures.within in
    has_sent_none queries c.args.self.now older last ticks c.args.sender mesh c.args.to c.args.reason c.args.bytes c.args.log.now step may none (sym c.count-count.ensures ∙ c.if-count-eq0.true)

pub returns-in-Ok-clause-taken : goal.returns-in-Ok-clause-taken
returns-in-Ok-clause-taken c = λ queries older last ticks mesh step may.
    let none : passed_by c.args.self.now c.args.sender.place (Link c.args.to c.args.reason c.args.bytes) ≡ None = rw (c.count-count.ensures, c.len.ensures.value) at c.in_ok-check_room.ensures.within in
    has_sent queries c.args.self.now c.send_all.new.self older last ticks c.args.sender mesh c.args.to c.args.reason c.args.bytes c.args.log.now c.send_all.new.log step may none
    (c.in-Ok.ensures.sent older last ticks mesh step (room_for c.args.self.now older last ticks c.args.sender mesh c.args.to c.args.reason c.args.bytes step may none)
    (are_low c.args.self.now older last ticks c.args.sender c.args.to mesh step may.place) may.late)

pub returns-in-Err-clause-refused : goal.returns-in-Err-clause-refused
returns-in-Err-clause-refused c = as_before c.mark-mark.result c.args.self.now c.send_all.new.self c.take_back.new.self c.mark-mark.ensures c.send_all.ensures.enters c.take_back.ensures

pub returns-in-Err-clause-grew : goal.returns-in-Err-clause-grew
returns-in-Err-clause-grew c = record {
  more = [];
  is = c.cut.ensures.kept ∙ cut_back c.args.log.now c.send_all.new.log _ c.len-told.ensures c.send_all.ensures.grew ∙ sym (append-nil c.args.log.now);
}
