use Rattle.std.proofs.Common.{◌≡◌, ◌∙◌, ◌++◌, [], ap, drop, sym}
use Rattle.std.proofs.lemmas.List.{append-nil, drop_all}
use Rattle.mesh_loops.specs.Changed.{changed_loops}
use Rattle.mesh_loops.proofs.ChangedLemmas.{found_loops}
use Rattle.mesh_loops.proofs.NotedLemmas.{complete}
use Rattle.mesh_loops.proofs.watch.Watch.changed_loops.Goals as goal

pub returns : goal.returns
returns c =
    λ calls stands.
    let kept = c.args.self.now in
    let when = c.args.when in
    let heads = c.in_ok-heads.heads.keys in
    let loops = c.loop-head.loops in
    let items = c.as_slice-head-items.result.now in
    let none : drop c.loop-head.head-index items ≡ [] = drop_all c.loop-head.head-index items c.loop-head-test.false in
    sym (c.loop-head.invariant ∙ ap (λ rest. loops ++ changed_loops kept when rest) none ∙ append-nil loops)
    ∙ ap (changed_loops kept when) c.as_slice-head-items.ensures.keys
    ∙ found_loops kept calls stands when heads c.in_ok-heads.ensures.ordered (complete kept when heads (c.in_ok-heads.ensures.noted stands.among))
