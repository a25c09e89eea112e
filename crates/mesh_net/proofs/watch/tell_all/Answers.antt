use Rattle.std.proofs.Common.{◌≡◌, ◌+◌, ◌∷◌, ℕ, List, drop, slice_index_or, arith}
use Rattle.mesh_model.specs.Net.Limits.{scenario_setup}
use Rattle.mesh_net.proofs.LanSteps.{rest_is, rest_none}
use Rattle.mesh_net.proofs.WatchLemmas.{telling_begins, telling_ends, telling_goes}
use Rattle.mesh_post.proofs.Midway.{grew_both, grew_none}
use Rattle.mesh_net.proofs.watch.tell_all.Goals as goal

pub loop-place-init : goal.loop-place-init
loop-place-init g c = record {
  told = λ nodes before all stands. telling_begins (scenario_setup g.A.Algo.queries) c.args.now nodes before c.args.told.now c.args.log.now c.args.places.now stands;
  grew = grew_none c.args.log.now;
}

pub loop-place-preserved : goal.loop-place-preserved
loop-place-preserved g c =
    let i = c.loop-place.place-index in
    let places : List ℕ = c.args.places.now in
    let place : ℕ = slice_index_or places i 0 in
    let split : drop i places ≡ place ∷ drop (i + 1) places = rest_is places i (omega arith) in
    record {
      told = λ nodes before all stands.
          let t = c.loop-place.invariant.told nodes before all stands in
          telling_goes (scenario_setup g.A.Algo.queries) c.args.now nodes before c.loop-place.told c.tell_at.new.told c.args.log.now c.loop-place.log c.tell_at.new.log places (drop i places) (drop (i + 1) places) place split t
          (c.in_ok-tell_at.ensures.told nodes _ all t.told.stands);
      grew = grew_both c.args.log.now c.loop-place.log c.tell_at.new.log c.loop-place.invariant.grew c.tell_at.ensures.grew;
    }

pub returns-clause-told : goal.returns-clause-told
returns-clause-told g c = λ nodes before all stands.
    let i = c.loop-place.place-index in
    let places : List ℕ = c.args.places.now in
    telling_ends (scenario_setup g.A.Algo.queries) c.args.now nodes before c.loop-place.told c.args.log.now c.loop-place.log places (drop i places) (rest_none places i (omega arith)) (c.loop-place.invariant.told nodes before all stands)

pub returns-in_err-tell_at-clause-grew : goal.returns-in_err-tell_at-clause-grew
returns-in_err-tell_at-clause-grew g c =
    grew_both c.args.log.now c.loop-place.log c.tell_at.new.log c.loop-place.invariant.grew c.tell_at.ensures.grew
