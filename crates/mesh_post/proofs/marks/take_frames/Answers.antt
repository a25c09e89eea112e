use Rattle.std.proofs.Common.{◌≤◌, ◌∷◌, [], length, take, drop, sym, ap, ◌∙◌, arith, length-append}
use Rattle.std.proofs.lemmas.List.{take-append-le}
use Rattle.mesh_post.specs.Refused.{with_turns}
use Rattle.mesh_post.proofs.TurnLemmas.{last_turn}
use Rattle.mesh_post.proofs.marks.take_frames.Goals as goal

pub loop-frames-preserved-in-Some : goal.loop-frames-preserved-in-Some
loop-frames-preserved-in-Some c =
    let inv = c.loop-frames.invariant in
    let place = c.args.place in
    let all = c.loop-frames.frames in
    let left = c.pop.new.self in
    let frame = c.in-Some.frame in
    let is = c.in-Some.ensures.some in
    let test = c.loop-frames-test.true in
    let len = c.len.ensures in
    let low : place ≤ length left = omega (arith, test, len, ap length is, length-append left (frame ∷ [])) in
    record {
      frames = sym (take-append-le place left (frame ∷ []) low) ∙ sym (ap (take place) is) ∙ inv.frames;
      turns = λ before was.
          let now = with_turns (drop place left) before in
          c.take_turn.ensures now (inv.turns before was ∙ last_turn place left all frame before low is);
    }

pub loop-frames-smaller-in-Some : goal.loop-frames-smaller-in-Some
loop-frames-smaller-in-Some c =
    let left = c.pop.new.self in
    let is = c.in-Some.ensures.some in
    omega (arith, ap length is, length-append left (c.in-Some.frame ∷ []))
