use Rattle.std.proofs.Common.{◌≡◌, ℕ, List, drop, length, take}
use Rattle.mesh_post.specs.Refused.{with_turns}
use Rattle.mesh_post.proofs.marks.take_frames.Given as goal

abbrev pub invariant-loop-frames : goal.invariant-loop-frames
invariant-loop-frames l = record {
  frames : take l.place l.frames ≡ take l.place l.fn.frames;
  turns : (before : List ℕ) → l.fn.turns.items ≡ with_turns (drop l.place l.fn.frames) before → l.turns.items ≡ with_turns (drop l.place l.frames) before;
}

abbrev pub decreases-loop-frames : goal.decreases-loop-frames
decreases-loop-frames l = length l.frames
