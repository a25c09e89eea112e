use Rattle.std.proofs.Common.{◌≡◌, ◌∙◌, None, Some, ap, rules, subst, true}
use Rattle.std.specs.List.{best_of, list_any}
use Rattle.mesh_model.specs.Routes.Addresses.{is_smaller}
use Rattle.mesh_loops.specs.Changed.{found_from, pair_of}
use Rattle.mesh_model.specs.Loops.Routes.{same_pair}
use Rattle.mesh_loops.proofs.NotedLemmas.{is_among, least_noted, none_noted}
use Rattle.mesh_loops.proofs.watch.Watch.add_head.Goals as goal

pub returns-in_ok-insert-clause-noted : goal.returns-in_ok-insert-clause-noted
returns-in_ok-insert-clause-noted c =
    λ are_kept.
    let pair = c.args.pair in
    let heads = c.insert.new.self.keys in
    let found : found_from c.args.self.now c.args.when pair ≡ Some c.in-Some.nodes = search rules in
    least_noted c.args.self.now c.args.when are_kept heads pair c.in-Some.nodes found
    (subst (λ node. list_any (same_pair (pair_of pair.orig node)) heads ≡ true) (c.least_of.ensures ∙ ap (best_of is_smaller pair.node) c.as_slice.ensures)
    (is_among c.args.heads.now.keys heads (pair_of pair.orig c.least_of.result) c.in_ok-insert.ensures.updates.0))

pub returns-in_default-clause-noted : goal.returns-in_default-clause-noted
returns-in_default-clause-noted c =
    λ are_kept.
    let none : found_from c.args.self.now c.args.when c.args.pair ≡ None = search rules in
    none_noted c.args.self.now c.args.when are_kept c.args.heads.now.keys c.args.pair none
