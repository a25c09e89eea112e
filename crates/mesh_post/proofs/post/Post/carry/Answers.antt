use Rattle.std.proofs.Common.{◌≡◌, ℕ, suc, length, refl, sym, ap, ◌∙◌, subst, arith, [], ◌∷◌, ◌++◌}
use Rattle.std.specs.Option.{option_map_or}
use Rattle.std.specs.List.{filter}
use Rattle.mesh_base.specs.declared.address.Mac.{Mac}
use Rattle.mesh_base.specs.declared.event.Event.TheVariants.{FrameSent}
use Rattle.mesh_model.specs.declared.frame_choice.FrameChoice.{FrameChoice}
use Rattle.mesh_model.specs.Net.Mesh.{NetLink, address_at}
use Rattle.mesh_model.specs.Net.Sending.{end_of}
use Rattle.mesh_model.specs.Text.Events.{is_shown}
use Rattle.mesh_post.specs.Sent.{actor_of, next_event}
use Rattle.mesh_post.specs.Lanes.{LaneIs}
use Rattle.mesh_post.proofs.Before.{enters_none}
use Rattle.mesh_post.proofs.LookUps.{some_one}
use Rattle.mesh_post.proofs.PostLemmas.{carries, length_more, frames_length}
use Rattle.mesh_post.proofs.post.Post.carry.Goals as goal

pub returns-clause-sent : goal.returns-clause-sent
returns-clause-sent c = λ sendings last ticks mesh link amid found sending room late.
    let l = c.lane.ensures.stands sendings mesh link amid.stands found in
    let is : LaneIs mesh c.args.way link c.in-Some.lane = subst (LaneIs mesh c.args.way link) (some_one l.0 c.in-Some.lane (sym l.1 ∙ c.in-Some.is)) l.2 in
    let delay = is.delay in
    let most = is.most in
    let soon = room.soon in
    let small = room.small in
    let bytes = amid.stands.bytes in
    let done = c.in_ok-enter.ensures.carries (omega (arith, delay, most, soon)) (omega (arith, bytes, small)) in
    let a = c.in_ok-place_of.ensures.is in let b = c.len.ensures in let d = done.frames in
    let number_is : c.in_ok-place_of.field-0 ≡ suc (length mesh.frames) = a ∙ b ∙ ap length d ∙ length_more c.args.self.now.frames _ ∙ ap suc (frames_length sendings mesh.frames c.args.self.now.frames amid.stands.frames) in
    let end_is : c.in-Some.lane.end ≡ address_at (end_of c.args.way mesh.links) mesh.nodes = is.end ∙ ap (λ o. address_at (option_map_or (λ (x : NetLink). x.to) o 0) mesh.nodes) (sym found) in
    let event = λ (n : ℕ) (e : Mac). FrameSent n c.args.sender.now c.args.sender.mac e c.args.parcel.reason c.args.bytes.now in
    record {
      amid = carries c.args.self.now c.enter.new.self c.args.sender c.args.parcel.reason c.args.parcel.sending c.args.way c.args.bytes.now c.in-Some.lane sendings last ticks mesh link amid found is sending room late done;
      logged = record {
        more = next_event (actor_of c.args.sender) c.args.parcel.reason c.args.bytes.now c.args.way mesh ∷ [];
        came = refl;
        told = c.in_ok-tell.ensures.ok
            ∙ ap (λ (k : FrameChoice). c.args.log.now ++ filter (is_shown k) (event c.in_ok-place_of.field-0 c.in-Some.lane.end ∷ [])) c.enter.ensures.kept.choice
            ∙ ap (λ n. c.args.log.now ++ filter (is_shown c.args.self.now.choice) (event n c.in-Some.lane.end ∷ [])) number_is
            ∙ ap (λ e. c.args.log.now ++ filter (is_shown c.args.self.now.choice) (event (suc (length mesh.frames)) e ∷ [])) end_is;
      };
    }

pub returns-in_default-clause-enters : goal.returns-in_default-clause-enters
returns-in_default-clause-enters c = enters_none c.args.self.now
