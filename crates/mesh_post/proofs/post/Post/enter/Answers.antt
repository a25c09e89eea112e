use Rattle.std.proofs.Common.{rules, ◌≡◌, ◌∷◌, [], length, slice_set, suc, sym, ap, ◌∙◌, append-nil}
use Rattle.mesh_post.proofs.Before.{enters_none, frame_entered}
use Rattle.mesh_post.proofs.TurnLemmas.{turn_known}
use Rattle.mesh_post.proofs.post.Post.enter.Goals as goal

pub returns-in_err-place-clause-enters : goal.returns-in_err-place-clause-enters
returns-in_err-place-clause-enters c = enters_none c.args.self.now

pub returns-in_err-carried-clause-enters : goal.returns-in_err-carried-clause-enters
returns-in_err-carried-clause-enters c = enters_none c.args.self.now

pub returns-in_err-wait-clause-enters : goal.returns-in_err-wait-clause-enters
returns-in_err-wait-clause-enters c =
    let next : c.in_ok-place.place ≡ length c.args.self.now.frames = search rules in
    frame_entered c.args.self.now _ c.in_ok-place.place [] (search rules) next (search rules) (search rules) (search rules) (search rules) c.wait.ensures.others

pub returns-in_err-push-clause-enters : goal.returns-in_err-push-clause-enters
returns-in_err-push-clause-enters c =
    let next : c.in_ok-place.place ≡ length c.args.self.now.frames = search rules in
    frame_entered c.args.self.now _ c.in_ok-place.place [] (search rules) next (c.in_err-push.ensures.err ∙ sym (append-nil c.args.self.now.frames)) (search rules) (search rules) (search rules) c.wait.ensures.others

pub returns-clause-enters : goal.returns-clause-enters
returns-clause-enters c =
    let next : c.in_ok-place.place ≡ length c.args.self.now.frames = search rules in
    let one_more : c.in_ok-carried.carried ≡ suc c.args.lane.turn = search rules in
    frame_entered c.args.self.now _ c.in_ok-place.place (record { link = c.args.way; sending = c.args.parcel.sending } ∷ []) (search rules) next (search rules) (c.set_turn.ensures ∙ ap (slice_set c.args.self.now.turns.items c.args.way) one_more ∙ turn_known c.args.self.now.turns.items c.args.way c.args.lane.turn c.requires) (search rules) (search rules) (search rules)
