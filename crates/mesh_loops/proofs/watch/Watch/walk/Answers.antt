use Rattle.std.proofs.Common.{◌≡◌, ◌∙◌, ◌++◌, ◌+◌, ◌-◌, Some, ap, arith, false, option_map, rules, suc, sym}
use Rattle.mesh_model.specs.Loops.Routes.{walk_to}
use Rattle.mesh_model.specs.Routes.Addresses.{same_mac}
use Rattle.mesh_loops.specs.Changed.{found_from, nexts_at}
use Rattle.mesh_loops.proofs.WalkLemmas.{goes_on}
use Rattle.mesh_loops.proofs.watch.Watch.walk.Goals as goal

pub loop-preserved : goal.loop-preserved
loop-preserved c =
    let next = nexts_at c.args.self.now c.args.when c.args.start.orig in
    let leads : next c.loop.node ≡ Some c.in-Some.next = search rules in
    let differ : same_mac c.in-Some.next c.args.start.node ≡ false = search rules in
    let steps = c.len-end.result - (c.loop.counter + 1) in
    let fewer : c.len-end.result - c.loop.counter ≡ suc steps = omega (arith, c.loop-test.true) in (
      goes_on next c.args.start.node (found_from c.args.self.now c.args.when c.args.start) c.loop.nodes (c.len-end.result - c.loop.counter) steps c.loop.node fewer c.loop.invariant.0 c.in-Some.next leads differ
          ∙ ap (λ nodes. option_map (λ rest. nodes ++ rest) (walk_to next c.args.start.node steps c.in-Some.next)) (sym c.in_ok-push.ensures.ok),
      c.loop.invariant.1,
    )
