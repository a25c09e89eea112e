use Rattle.std.proofs.Common.{sym, ◌∙◌}
use Rattle.mesh_show.proofs.RowLemmas.{flags_named}
use Rattle.mesh_show.proofs.seen.Seen.group_at.Goals as goal

pub returns : goal.returns
returns g c = λ me log stands. sym (flags_named _ _ (sym c.in_ok-orig.was ∙ c.mc_at.ensures.at_place me log stands))
