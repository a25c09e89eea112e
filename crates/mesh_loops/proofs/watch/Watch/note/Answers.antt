use Rattle.std.proofs.Common.{◌≡◌, ◌∙◌, None, Some, IsSome, ap, ap₂, cond, rules, subst, sym}
use Rattle.std.specs.Map.{lookup}
use Rattle.std.specs.Option.{option_flatten}
use Rattle.mesh_model.specs.Loops.Routes.{same_pair}
use Rattle.mesh_loops.specs.Watch.{Kept, WatchStands}
use Rattle.mesh_loops.proofs.SetLemmas.{first_set, set_again}
use Rattle.mesh_loops.proofs.watch.Watch.note.Goals as goal

pub returns-then-not-contains_key-clause-ok : goal.returns-then-not-contains_key-clause-ok
returns-then-not-contains_key-clause-ok c =
    λ calls moment stands.
    let pair = c.args.pair in
    let kept : Kept = record { routes = c.self.inside.routes.entries; before = c.self.inside.before.entries } in
    let after : Kept = record { routes = c.insert.new.self.entries; before = c.insert-then-not-contains_key.new.self.entries } in
    let put = rw c.unwrap.ensures at c.insert-then-not-contains_key.ensures in
    let absent : lookup (same_pair pair) kept.before ≡ None = search rules in
    first_set kept calls moment pair c.args.next (subst (λ k. WatchStands k calls) (sym c.self.view_is) stands) after c.in_ok-old.ensures.updates.0
    (λ q.
    put.updates.0 q
    ∙ ap₂ (λ next es. cond (same_pair pair q) (Some next) (lookup (same_pair q) es)) (c.flatten.ensures ∙ ap option_flatten c.in_ok-old.ensures.old) c.reserve.ensures.entries) absent

pub returns-else-not-contains_key-clause-ok : goal.returns-else-not-contains_key-clause-ok
returns-else-not-contains_key-clause-ok c =
    λ calls moment stands.
    let pair = c.args.pair in
    let kept : Kept = record { routes = c.self.inside.routes.entries; before = c.self.inside.before.entries } in
    let after : Kept = record { routes = c.insert.new.self.entries; before = c.reserve.new.self.entries } in
    let there : IsSome (lookup (same_pair pair) kept.before) = search rules in
    set_again kept calls moment pair c.args.next (subst (λ k. WatchStands k calls) (sym c.self.view_is) stands) after c.in_ok-old.ensures.updates.0 c.reserve.ensures.entries there
