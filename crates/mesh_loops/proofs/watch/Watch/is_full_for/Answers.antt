use Rattle.std.proofs.Common.{◌≡◌, is_some, false, true, rules, subst, sym}
use Rattle.std.specs.Map.{lookup}
use Rattle.mesh_loops.specs.Changed.{pair_of}
use Rattle.mesh_model.specs.Loops.Routes.{same_pair}
use Rattle.mesh_loops.specs.Watch.{Kept, WatchStands}
use Rattle.mesh_loops.proofs.SetLemmas.{full_for, not_full_for}
use Rattle.mesh_loops.proofs.watch.Watch.is_full_for.Goals as goal

pub returns-then-not-contains_key : goal.returns-then-not-contains_key
returns-then-not-contains_key c =
    λ calls stands.
    let kept : Kept = record { routes = c.self.inside.routes.entries; before = c.self.inside.before.entries } in
    let absent : is_some (lookup (same_pair (pair_of c.args.orig c.args.node)) kept.routes) ≡ false = search rules in
    full_for kept calls (pair_of c.args.orig c.args.node) (subst (λ k. WatchStands k calls) (sym c.self.view_is) stands) c.len.ensures.unique c.len.result c.len.ensures.len absent

pub returns-else-not-contains_key : goal.returns-else-not-contains_key
returns-else-not-contains_key c =
    λ calls stands.
    let kept : Kept = record { routes = c.self.inside.routes.entries; before = c.self.inside.before.entries } in
    let there : is_some (lookup (same_pair (pair_of c.args.orig c.args.node)) kept.routes) ≡ true = search rules in
    not_full_for kept calls (pair_of c.args.orig c.args.node) (subst (λ k. WatchStands k calls) (sym c.self.view_is) stands) c.contains_key.result (search rules) there
