use Rattle.std.proofs.Common.{◌≡◌, None, Some, option_and_then, option_map, rules, ap, ◌∙◌, sym}
use Rattle.std.specs.Map.{lookup}
use Rattle.std.specs.Ordering.{eq_by_cmp}
use Rattle.mesh_model.specs.contracts.service.PairOrd.TheImpl.Laws.{matches_eq-law}
use Rattle.mesh_model.specs.declared.service.ArpRow.{ArpRow}
use Rattle.mesh_model.specs.declared.service.Pair.{Pair}
use Rattle.mesh_model.specs.Services.ArpTable.{pair_order}
use Rattle.mesh_dat.proofs.CacheLemmas.{kept_row, looked_up, row_address, row_kept}
use Rattle.mesh_dat.proofs.cache.Cache.lookup.Goals as goal

pub returns-in_err-get : goal.returns-in_err-get
returns-in_err-get c =
    λ learned stands.
    let pair : Pair = record { ip = c.args.ip; vid = c.args.vid } in
    let kept = c.args.self.now in
    let absent : lookup (eq_by_cmp pair_order pair) kept ≡ None = sym (looked_up _ matches_eq-law pair kept) ∙ search rules in
    c.from_residual.ensures
    ∙ sym (ap (λ o. option_map (λ (row : ArpRow). row.mac) (option_and_then (kept_row c.args.now pair) o)) absent)
    ∙ ap (option_map (λ (row : ArpRow). row.mac)) (row_kept kept learned c.args.now stands pair)
    ∙ row_address learned c.args.now c.args.ip c.args.vid

pub returns-in_err-row : goal.returns-in_err-row
returns-in_err-row c =
    λ learned stands.
    let pair : Pair = record { ip = c.args.ip; vid = c.args.vid } in
    let kept = c.args.self.now in
    let found : lookup (eq_by_cmp pair_order pair) kept ≡ Some c.in_ok-get.field-0.now = sym (looked_up _ matches_eq-law pair kept) ∙ search rules in
    let none : kept_row c.args.now pair c.in_ok-get.field-0.now ≡ None = sym c.row.ensures ∙ search rules in
    c.from_residual-in_err-row.ensures
    ∙ sym (ap (λ o. option_map (λ (row : ArpRow). row.mac) (option_and_then (kept_row c.args.now pair) o)) found ∙ ap (option_map (λ (row : ArpRow). row.mac)) none)
    ∙ ap (option_map (λ (row : ArpRow). row.mac)) (row_kept kept learned c.args.now stands pair)
    ∙ row_address learned c.args.now c.args.ip c.args.vid

pub returns : goal.returns
returns c =
    λ learned stands.
    let pair : Pair = record { ip = c.args.ip; vid = c.args.vid } in
    let kept = c.args.self.now in
    let found : lookup (eq_by_cmp pair_order pair) kept ≡ Some c.in_ok-get.field-0.now = sym (looked_up _ matches_eq-law pair kept) ∙ search rules in
    let some : kept_row c.args.now pair c.in_ok-get.field-0.now ≡ Some c.in_ok-row.row = sym c.row.ensures ∙ search rules in
    sym (ap (λ o. option_map (λ (row : ArpRow). row.mac) (option_and_then (kept_row c.args.now pair) o)) found ∙ ap (option_map (λ (row : ArpRow). row.mac)) some)
    ∙ ap (option_map (λ (row : ArpRow). row.mac)) (row_kept kept learned c.args.now stands pair)
    ∙ row_address learned c.args.now c.args.ip c.args.vid
