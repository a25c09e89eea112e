use Rattle.std.proofs.Common.{rules, arith}
use Rattle.mesh_model.specs.Run.Generated.{later_commits, ok_tables}
use Rattle.mesh_scene.proofs.CountLemmas.{found-at, sum-next}
use Rattle.mesh_scene.proofs.scene.Scene.counts.Goals as goal

pub loop-place-preserved : goal.loop-place-preserved
loop-place-preserved g c =
    let loop = c.loop-place.invariant in
    let place = c.loop-place.place in
    record {
      commits = λ state stands.
          let nodes = state.mesh.nodes in
          let there = found-at nodes place (omega (arith, c.loop-place-test.true, c.len-place-end.ensures state.choice state.clock state.mesh stands.net_is)) in
          let counts = c.in_ok-counts.ensures state there.0 stands there.1 in
          omega (arith, loop.commits state stands, c.from-commits.ensures, counts.0, sum-next later_commits nodes place there.0 there.1);
      ok = λ state stands.
          let nodes = state.mesh.nodes in
          let there = found-at nodes place (omega (arith, c.loop-place-test.true, c.len-place-end.ensures state.choice state.clock state.mesh stands.net_is)) in
          let counts = c.in_ok-counts.ensures state there.0 stands there.1 in
          omega (arith, loop.ok state stands, counts.1, sum-next (ok_tables state.algorithm state.clock) nodes place there.0 there.1);
      few_commits = search rules;
      few_ok = search rules;
    }
