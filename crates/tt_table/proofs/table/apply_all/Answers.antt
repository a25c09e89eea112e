use Rattle.std.proofs.Common.{◌+◌, length, subst, sym, arith}
use Rattle.mesh_model.specs.Tables.Strict.{additions, deletions}
use Rattle.tt_table.specs.Sums.{AreTotalsOf}
use Rattle.tt_table.proofs.NamedSums.{few_from}
use Rattle.tt_table.proofs.StrictLemmas.{between, halves_counted}
use Rattle.tt_table.proofs.TotalsLemmas.{less_few, still_named, totals_renamed}
use Rattle.tt_table.proofs.table.apply_all.Goals as goal

pub follow_all-requires : goal.follow_all-requires
follow_all-requires g c =
    let cs = c.args.changes.now in
    let rows = c.name_all.new.self.rows in
    let totals = totals_renamed c.args.sums.now.rows rows c.args.entries.now.entries c.in_ok-name_all.ensures.totals c.requires.totals in
    let here = subst (AreTotalsOf rows) (sym c.in_ok-reserve.ensures.entries) totals in
    let few = few_from (length cs) rows c.reserve.new.self.entries here c.in_ok-reserve.ensures.fits in
    let counted = halves_counted cs in
    record { few = less_few (length cs) (length (deletions cs)) rows (omega (arith, counted)) few }

pub follow_all-requires-2 : goal.follow_all-requires-2
follow_all-requires-2 g c =
    let cs = c.args.changes.now in
    let rows = c.name_all.new.self.rows in
    let totals = totals_renamed c.args.sums.now.rows rows c.args.entries.now.entries c.in_ok-name_all.ensures.totals c.requires.totals in
    let here = subst (AreTotalsOf rows) (sym c.in_ok-reserve.ensures.entries) totals in
    let few = few_from (length cs) rows c.reserve.new.self.entries here c.in_ok-reserve.ensures.fits in
    let counted = halves_counted cs in
    record { few = c.follow_all.ensures.few (length (additions cs)) (less_few (length cs) (length (additions cs) + length (deletions cs)) rows (omega (arith, counted)) few) }

pub returns-clause-totals : goal.returns-clause-totals
returns-clause-totals g c =
    let cs = c.args.changes.now in
    let start = c.reserve.new.self.entries in
    let rows = c.name_all.new.self.rows in
    let named = c.in_ok-name_all.ensures.ok in
    let totals = totals_renamed c.args.sums.now.rows rows c.args.entries.now.entries c.in_ok-name_all.ensures.totals c.requires.totals in
    let here = subst (AreTotalsOf rows) (sym c.in_ok-reserve.ensures.entries) totals in
    let halves = between cs start c.apply.new.self.entries c.in_default.ensures.outcome in
    c.follow_all-2.ensures.totals halves.middle c.apply.new.self.entries
    (c.follow_all.ensures.totals start halves.middle here named halves.deleted)
    (still_named rows c.follow_all.new.self.rows cs c.follow_all.ensures.names named) halves.added

pub returns-clause-steps : goal.returns-clause-steps
returns-clause-steps g c =
    let counted = halves_counted c.args.changes.now in
    let first = c.follow_all.ensures.steps in
    let second = c.follow_all-2.ensures.steps in
    omega (arith, counted, first, second)
