use Rattle.std.proofs.Common.{◌≡◌, List, [], Option, Some, None, cond, ap, rules, subst, sym, ◌∙◌}
use Rattle.std.specs.Map.{lookup, set_value}
use Rattle.std.specs.Option.{option_map_or}
use Rattle.mesh_base.specs.declared.address.Mac.{Mac}
use Rattle.mesh_model.specs.Routes.Addresses.{same_mac}
use Rattle.mesh_told.specs.Told.{Table, TableStands}
use Rattle.mesh_told.specs.declared.node_routes.NodeRoutes.{NodeRoutes}
use Rattle.mesh_told.specs.declared.node_routes.Seen.{Seen}
use Rattle.mesh_model.specs.declared.route_line.RouteLine.{RouteLine}
use Rattle.mesh_told.proofs.NodeLemmas.{all_stand, one_updated}
use Rattle.mesh_told.proofs.told_routes.ToldRoutes.tell.Goals as goal

-- what a node keeps, if it keeps anything, stands for these lines
abbrev KeptStands : Mac → List RouteLine → Option NodeRoutes → Type 0
KeptStands node told o =
    TableStands node (option_map_or (λ (routes : NodeRoutes). routes.next.entries) o []) (option_map_or (λ (routes : NodeRoutes). routes.seen.items) o []) told

pub returns-in_ok-tell-in-Some-clause-ok : goal.returns-in_ok-tell-in-Some-clause-ok
returns-in_ok-tell-in-Some-clause-ok c = λ told stands.
    let old = c.args.self.now.nodes.entries in
    let found : lookup (same_mac c.args.node) old ≡ Some c.in-Some.routes.now = search rules in
    let new = (c.get_mut.follows.lender c.tell.new.self).entries in
    let written : new ≡ set_value (same_mac c.args.node) old c.tell.new.self = search rules in
    let before : KeptStands c.args.node told (Some c.in-Some.routes.now) = subst (KeptStands c.args.node told) found (stands.each c.args.node) in
    record { each = all_stand c.args.now c.args.node c.args.rows.now told old new c.tell.new.self (one_updated old new c.args.node c.in-Some.routes.now c.tell.new.self found written) stands.each (c.in_ok-tell-in-Some.ensures.ok told before) }

pub returns-in_ok-tell-in-Some-clause-told : goal.returns-in_ok-tell-in-Some-clause-told
returns-in_ok-tell-in-Some-clause-told c = λ told stands.
    let old = c.args.self.now.nodes.entries in
    let found : lookup (same_mac c.args.node) old ≡ Some c.in-Some.routes.now = search rules in
    c.in_ok-tell-in-Some.ensures.told told (subst (KeptStands c.args.node told) found (stands.each c.args.node))

pub returns-in_ok-insert-in-None-clause-ok : goal.returns-in_ok-insert-in-None-clause-ok
returns-in_ok-insert-in-None-clause-ok c = λ told stands.
    let old = c.args.self.now.nodes.entries in
    let new = c.insert.new.self.entries in
    let absent : lookup (same_mac c.args.node) old ≡ None = search rules in
    let same : c.get_mut.follows.lender-at-none.entries ≡ old = search rules in
    let empty : TableStands c.args.node [] [] told = subst (KeptStands c.args.node told) absent (stands.each c.args.node) in
    let before : KeptStands c.args.node told (Some c.new-routes.result) = subst (λ (es : Table). TableStands c.args.node es c.new-routes.result.seen.items told) (sym c.new-routes.ensures.next) (subst (λ (ss : List Seen). TableStands c.args.node [] ss told) (sym c.new-routes.ensures.seen) empty) in
    let updates : (q : Mac) → lookup (same_mac q) new ≡ cond (same_mac c.args.node q) (Some c.tell-in-None.new.self) (lookup (same_mac q) old) = λ q.
    c.in_ok-insert-in-None.ensures.updates.0 q ∙ ap (λ es. cond (same_mac c.args.node q) (Some c.tell-in-None.new.self) (lookup (same_mac q) es)) same in
    record { each = all_stand c.args.now c.args.node c.args.rows.now told old new c.tell-in-None.new.self updates stands.each (c.in_ok-tell-in-None.ensures.ok told before) }

pub returns-in_ok-insert-in-None-clause-told : goal.returns-in_ok-insert-in-None-clause-told
returns-in_ok-insert-in-None-clause-told c = λ told stands.
    let absent : lookup (same_mac c.args.node) c.args.self.now.nodes.entries ≡ None = search rules in
    let empty : TableStands c.args.node [] [] told = subst (KeptStands c.args.node told) absent (stands.each c.args.node) in
    let before : KeptStands c.args.node told (Some c.new-routes.result) = subst (λ (es : Table). TableStands c.args.node es c.new-routes.result.seen.items told) (sym c.new-routes.ensures.next) (subst (λ (ss : List Seen). TableStands c.args.node [] ss told) (sym c.new-routes.ensures.seen) empty) in
    c.in_ok-tell-in-None.ensures.told told before
