use Rattle.std.proofs.Common.{◌≡◌, ◌∙◌, List, Some, ap, ap₂, length, option_map, refl, slice_get, sym, rules}
use Rattle.std.proofs.lemmas.Option.{slice_get_read}
use Rattle.mesh_laws.proofs.MacLemmas.{same_exact}
use Rattle.mesh_told.specs.Told.{seen_of}
use Rattle.mesh_told.specs.declared.node_routes.Seen.{Seen}
use Rattle.mesh_told.proofs.NextLemmas.{one_next, same_next_is}
use Rattle.mesh_told.proofs.node_routes.NodeRoutes.is_seen_at.Goals as goal

pub returns-then-eq : goal.returns-then-eq
returns-then-eq c = λ same.
    let seen = c.in-Some-Some.seen.now in
    let row = c.in-Some-Some.row.now in
    let all : c.deref.result.now ≡ c.args.self.now.seen.items = search rules in
    let one : seen.orig ≡ row.orig = same_exact seen.orig row.orig (sym c.eq.ensures ∙ c.if-eq.true) in
    let on : seen.next ≡ row.next = one_next seen.next row.next (sym (same_next_is seen.next row.next) ∙ sym c.eq-then-eq.ensures ∙ same) in
    let kept : slice_get c.deref.result.now c.args.place ≡ Some seen = slice_get_read c.deref.result.now (length c.deref.result.now) c.args.place seen refl (search rules) c.in-Some-Some.ensures.lookup.1 in
    let given : slice_get c.args.rows.now c.args.place ≡ Some row = slice_get_read c.args.rows.now (length c.args.rows.now) c.args.place row refl (search rules) c.in-Some-Some.ensures'.lookup.1 in
    ap (λ (ss : List Seen). slice_get ss c.args.place) (sym all) ∙ kept ∙ ap₂ (λ a b. Some (record { orig = a; next = b })) one on ∙ sym (ap (option_map seen_of) given)
