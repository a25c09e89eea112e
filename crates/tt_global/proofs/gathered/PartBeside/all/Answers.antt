use Rattle.std.proofs.Common.{◌∙◌, ◌++◌, [], ap, sym, unwrap_or}
use Rattle.mesh_model.specs.Tables.Gathered.{records_at}
use Rattle.tt_global.proofs.PartLemmas.{records_more}
use Rattle.tt_global.proofs.gathered.PartBeside.all.Goals as goal

pub loop-number-preserved : goal.loop-number-preserved
loop-number-preserved c =
    c.in_ok-add_to.ensures ∙ ap (λ l. l ++ unwrap_or (records_at c.loop-number.number c.args.self.now) []) c.loop-number.invariant ∙ sym (records_more c.args.self.now c.loop-number.number)
