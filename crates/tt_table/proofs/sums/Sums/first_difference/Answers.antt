use Rattle.std.proofs.Common.{◌∙◌, ap, sym, option_map}
use Rattle.mesh_model.specs.Tables.Differences.{difference_at}
use Rattle.tt_table.specs.Sums.{named_sums}
use Rattle.tt_table.proofs.DifferenceLemmas.{least_named}
use Rattle.tt_table.proofs.sums.Sums.first_difference.Goals as goal

pub returns-in_err-vid : goal.returns-in_err-vid
returns-in_err-vid c =
    let least = c.lesser.ensures ∙ least_named (named_sums c.args.self.now) (named_sums c.args.told.now) _ _ c.first_other.ensures c.first_other-2.ensures in
    c.from_residual.ensures ∙ ap (option_map (difference_at (named_sums c.args.self.now) (named_sums c.args.told.now))) (sym c.in_err-vid.was ∙ least)

pub returns : goal.returns
returns c =
    let least = c.lesser.ensures ∙ least_named (named_sums c.args.self.now) (named_sums c.args.told.now) _ _ c.first_other.ensures c.first_other-2.ensures in
    rw (c.get.ensures, c.get-2.ensures) (ap (option_map (difference_at (named_sums c.args.self.now) (named_sums c.args.told.now))) (sym c.in_ok-vid.was ∙ least))
