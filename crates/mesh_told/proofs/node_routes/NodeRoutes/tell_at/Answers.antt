use Rattle.std.proofs.Common.{◌≡◌, ◌++◌, ◌∷◌, [], Option, None, Some, ap, append-nil, subst, sym, ◌∙◌}
use Rattle.mesh_base.specs.declared.address.Mac.{Mac}
use Rattle.mesh_model.specs.declared.route_line.RouteLine.{RouteLine}
use Rattle.mesh_told.specs.Told.{line_for}
use Rattle.mesh_told.proofs.PlaceLemmas.{at_place, due_next, no_events, none_due_same, one_event, set_place}
use Rattle.mesh_told.proofs.node_routes.NodeRoutes.tell_at.Goals as goal

pub returns-in_default-line_for-clause-set : goal.returns-in_default-line_for-clause-set
returns-in_default-line_for-clause-set c = λ front back orig told is at.
    let here = at_place c.args.self.now.next.entries front back (orig, told) (c.in-Some.orig.now, c.in-Some.told.now) c.args.place is at (sym c.in-Some.ensures.entry) in
    let P : Mac × Option Mac → Type 0 = λ e. line_for c.args.now c.args.node c.args.rows.now e.0 e.1 ≡ None in
    let none : line_for c.args.now c.args.node c.args.rows.now orig told ≡ None = subst P (sym here) (sym c.line_for.ensures ∙ c.in_default-line_for.is) in
    is ∙ ap (λ (t : Option Mac). front ++ (orig, t) ∷ back) (none_due_same c.args.now c.args.node c.args.rows.now orig told none)

pub returns-in_default-line_for-clause-told : goal.returns-in_default-line_for-clause-told
returns-in_default-line_for-clause-told c = λ front back orig told is at.
    let here = at_place c.args.self.now.next.entries front back (orig, told) (c.in-Some.orig.now, c.in-Some.told.now) c.args.place is at (sym c.in-Some.ensures.entry) in
    let P : Mac × Option Mac → Type 0 = λ e. line_for c.args.now c.args.node c.args.rows.now e.0 e.1 ≡ None in
    let none : line_for c.args.now c.args.node c.args.rows.now orig told ≡ None = subst P (sym here) (sym c.line_for.ensures ∙ c.in_default-line_for.is) in
    sym (append-nil c.args.log.now) ∙ ap (λ es. c.args.log.now ++ es) (sym (no_events c.args.now c.args.node c.args.rows.now orig told none))

pub returns-in-Some-get_index_mut-clause-set : goal.returns-in-Some-get_index_mut-clause-set
returns-in-Some-get_index_mut-clause-set c = λ front back orig told is at.
    let line : RouteLine = c.in-Some-line_for.line in
    let here = at_place c.args.self.now.next.entries front back (orig, told) (c.in-Some.orig.now, c.in-Some.told.now) c.args.place is at (sym c.in-Some.ensures.entry) in
    let P : Mac × Option Mac → Type 0 = λ e. line_for c.args.now c.args.node c.args.rows.now e.0 e.1 ≡ Some line in
    let due : line_for c.args.now c.args.node c.args.rows.now orig told ≡ Some line = subst P (sym here) (sym c.line_for.ensures ∙ c.in-Some-line_for.is) in
    set_place c.args.self.now.next.entries front back orig told line.next _ c.args.place is at (due_next c.args.now c.args.node c.args.rows.now orig told line due)

pub returns-in-Some-get_index_mut-clause-told : goal.returns-in-Some-get_index_mut-clause-told
returns-in-Some-get_index_mut-clause-told c = λ front back orig told is at.
    let line : RouteLine = c.in-Some-line_for.line in
    let here = at_place c.args.self.now.next.entries front back (orig, told) (c.in-Some.orig.now, c.in-Some.told.now) c.args.place is at (sym c.in-Some.ensures.entry) in
    let P : Mac × Option Mac → Type 0 = λ e. line_for c.args.now c.args.node c.args.rows.now e.0 e.1 ≡ Some line in
    let due : line_for c.args.now c.args.node c.args.rows.now orig told ≡ Some line = subst P (sym here) (sym c.line_for.ensures ∙ c.in-Some-line_for.is) in
    c.in_ok-push.ensures.ok ∙ ap (λ e. c.args.log.now ++ e ∷ []) c.route_event.ensures ∙ ap (λ es. c.args.log.now ++ es) (sym (one_event c.args.now c.args.node c.args.rows.now orig told line due))
