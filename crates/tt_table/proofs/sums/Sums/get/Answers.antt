use Rattle.std.proofs.Common.{◌∙◌, sym, ap}
use Rattle.tt_table.specs.Places.{IsThere}
use Rattle.tt_table.specs.Sums.{row_key}
use Rattle.std.specs.Ordering.{nat_cmp}
use Rattle.tt_table.proofs.SumsLemmas.{sum_there, sum_in_gap}
use Rattle.tt_table.proofs.sums.Sums.get.Goals as goal

pub returns-in-Ok : goal.returns-in-Ok
returns-in-Ok c =
    let there : IsThere nat_cmp row_key c.args.vid.0 c.self.inside.rows.items c.in-Ok.place = rw (← c.self.view_is) at c.in-Ok.ensures.there in
    rw (← c.self.view_is) (ap (λ r. r.sum) c.index.ensures ∙ sym (sum_there c.args.vid c.self.inside.rows.items c.in-Ok.place c.index.result.now there))

pub returns-in-Err : goal.returns-in-Err
returns-in-Err c = sym (sum_in_gap c.args.vid c.args.self.now.rows c.in-Err.field-0 c.in-Err.ensures.gap)
