use Rattle.std.proofs.Common.{rules, ◌≡◌, ℕ, ◌+◌, List, [], drop, slice_index_or, option_and_then, slice_get, sym, ◌∙◌, subst, arith}
use Rattle.std.specs.List.{filter}
use Rattle.mesh_model.specs.declared.frame_choice.FrameChoice.{FrameChoice}
use Rattle.mesh_post.specs.Refused.{Enters}
use Rattle.mesh_post.specs.Sent.{Grew, KeepsAll, Sends, actor_of, sent_on, row_goes, chosen_ways, if_passes}
use Rattle.mesh_post.proofs.Before.{enters_both, enters_none}
use Rattle.mesh_post.proofs.Chosen.{chosen_one, chosen_none, chosen_last}
use Rattle.mesh_post.proofs.Midway.{midway_skip, midway_step, midway_end, grew_both, keeps_both, chosen_kept}
use Rattle.mesh_post.proofs.post.Post.carry_all.Goals.{in-Some+in_ok-carry, in_default}
use Rattle.mesh_post.proofs.post.Post.carry_all.Goals as goal

pub loop-i-init : goal.loop-i-init
loop-i-init c = record { kept = search rules; grew = search rules; enters = enters_none c.args.self.now; goes = search rules }

pub loop-i-preserved : goal.loop-i-preserved
loop-i-preserved c =
    let inv = c.loop-i.invariant in
    let test = row_goes c.args.self.now.rows c.args.to in
    let ws : List ℕ = slice_index_or c.args.self.now.ways.items c.args.sender.place [] in
    let found : c.chosen_at.result ≡ option_and_then (if_passes test) (slice_get ws c.loop-i.i) = c.chosen_at.ensures ∙ chosen_kept c.args.self.now c.loop-i.self c.args.sender.place c.loop-i.i c.args.to inv.kept in
    elim c.match-chosen_at.branch [
      | in-Some+in_ok-carry w ↦ record {
        kept = subst (λ p. KeepsAll c.args.self.now p) (sym w.self-is) (keeps_both c.args.self.now c.loop-i.self w.carry.new.self inv.kept w.carry.ensures.kept);
        grew = subst (λ g. Grew c.args.log.now g) (sym w.log-is) (grew_both c.args.log.now c.loop-i.log w.carry.new.log inv.grew w.carry.ensures.grew);
        enters = subst (λ p. Enters c.args.self.now p) (sym w.self-is) (enters_both c.args.self.now c.loop-i.self w.carry.new.self inv.enters w.carry.ensures.enters);
        goes = λ sendings last ticks mesh amid sending room low late.
            rw (w.self-is, w.log-is) (midway_step c.args.self.now.choice c.loop-i.self w.carry.new.self sendings last ticks c.args.sender c.args.parcel.reason c.args.bytes.now (chosen_ways c.args.self.now c.args.sender.place c.args.to)
            (filter test (drop c.loop-i.i ws)) w.in-Some.way (filter test (drop (c.loop-i.i + 1) ws)) mesh c.args.log.now c.loop-i.log w.carry.new.log
            (chosen_one test ws c.loop-i.i w.in-Some.way (sym found ∙ w.in-Some.is))
            (inv.goes sendings last ticks mesh amid sending room low late)
            (λ m link a f r. subst (λ (k : FrameChoice). Sends k w.carry.new.self sendings last ticks m (sent_on (actor_of c.args.sender) c.args.parcel.reason c.args.bytes.now w.in-Some.way m) c.loop-i.log w.carry.new.log) inv.kept.choice
            (w.in_ok-carry.ensures.sent sendings last ticks m link a f sending r late)));
      }
      | in_default w ↦ record {
        kept = subst (λ p. KeepsAll c.args.self.now p) (sym w.self-is) inv.kept;
        grew = subst (λ g. Grew c.args.log.now g) (sym w.log-is) inv.grew;
        enters = subst (λ p. Enters c.args.self.now p) (sym w.self-is) inv.enters;
        goes = λ sendings last ticks mesh amid sending room low late.
            rw (w.self-is, w.log-is) (midway_skip c.args.self.now.choice c.loop-i.self sendings last ticks c.args.sender c.args.parcel.reason c.args.bytes.now (chosen_ways c.args.self.now c.args.sender.place c.args.to)
            (filter test (drop c.loop-i.i ws)) (filter test (drop (c.loop-i.i + 1) ws)) mesh c.args.log.now c.loop-i.log
            (chosen_none test ws c.loop-i.i (sym found ∙ w.in_default.is))
            (inv.goes sendings last ticks mesh amid sending room low late));
      }
    ]

pub returns-clause-sent : goal.returns-clause-sent
returns-clause-sent c = λ sendings last ticks mesh amid sending room low late.
    let inv = c.loop-i.invariant in
    let test = row_goes c.args.self.now.rows c.args.to in
    let ws : List ℕ = slice_index_or c.args.self.now.ways.items c.args.sender.place [] in
    let all = chosen_ways c.args.self.now c.args.sender.place c.args.to in
    let low_end = c.loop-i.auto.i-end in
    let high_end = c.loop-i-test.false in
    let count = c.way_count-i-end.ensures in
    midway_end c.args.self.now.choice c.loop-i.self sendings last ticks c.args.sender c.args.parcel.reason c.args.bytes.now all mesh c.args.log.now c.loop-i.log
    (midway_skip c.args.self.now.choice c.loop-i.self sendings last ticks c.args.sender c.args.parcel.reason c.args.bytes.now all (filter test (drop c.loop-i.i ws)) [] mesh c.args.log.now c.loop-i.log
    (chosen_last test ws c.loop-i.i (omega (arith, low_end, count)) (omega (arith, high_end, count)))
    (inv.goes sendings last ticks mesh amid sending room low late))

pub returns-in_err-carry-clause-enters : goal.returns-in_err-carry-clause-enters
returns-in_err-carry-clause-enters c = enters_both c.args.self.now c.loop-i.self c.carry.new.self c.loop-i.invariant.enters c.carry.ensures.enters
