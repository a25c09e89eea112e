use Rattle.std.proofs.Common.{rules, ap, ◌∙◌, ◌≡◌, Some}
use Rattle.std.specs.Map.{lookup, set_value}
use Rattle.std.proofs.lemmas.Map.Steps.{set_value_same}
use Rattle.std.proofs.lemmas.Result.{err_from_is_err_and}
use Rattle.mesh_model.specs.Routes.Addresses.{same_mac}
use Rattle.mesh_model.specs.Tables.Gathered.{Gathered}
use Rattle.tt_global.specs.declared.known.KnownTable.{KnownTable}
use Rattle.tt_global.proofs.globals.Globals.gather.Goals as goal

pub returns-in_err-note-in-Grow-clause-err : goal.returns-in_err-note-in-Grow-clause-err
returns-in_err-note-in-Grow-clause-err c =
    let old = c.args.self.now in
    let known = c.in-Some.known.now in
    let row : Gathered → KnownTable = λ gathered. record { byte = known.byte; sums = known.sums; held = known.held; gathered = gathered } in
    let found : lookup (same_mac c.args.orig) old ≡ Some known = search rules in
    let written : (c.get_mut.follows.lender (row c.note.new.self)).entries ≡ set_value (same_mac c.args.orig) old (row c.note.new.self) = search rules in
    let error = err_from_is_err_and c.from_residual.result c.from_residual.ensures.1 in
    rw error.1 (written ∙ ap (λ g. set_value (same_mac c.args.orig) old (row g)) c.in_err-note-in-Grow.ensures.err ∙ set_value_same (same_mac c.args.orig) old known found)
