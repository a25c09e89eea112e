-- The store stays one.
use Rattle.frame_store.specs.Store.{IsStore}
use Rattle.frame_store_tests.proofs.limits.the_frame_after_the_last_one_is_refused.Given as goal

abbrev pub invariant-loop : goal.invariant-loop
invariant-loop g l = IsStore l.store.older l.store.grown
