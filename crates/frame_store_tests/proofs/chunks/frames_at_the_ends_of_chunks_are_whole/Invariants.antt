-- The store stays one.
use Rattle.frame_store.specs.Store.{IsStore}
use Rattle.frame_store_tests.proofs.chunks.frames_at_the_ends_of_chunks_are_whole.Given as goal

abbrev pub invariant-loop-place : goal.invariant-loop-place
invariant-loop-place g l = IsStore l.store.older l.store.grown

abbrev pub invariant-loop-place-2 : goal.invariant-loop-place-2
invariant-loop-place-2 g l = IsStore l.store.older l.store.grown
