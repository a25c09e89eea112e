-- Named under a signature by `unfolding cuts_on_literals`, it lets a scenario in which packets are cut compute, where it
-- is written out.
use Rattle.std.specs.Prelude.{⊤}
use Rattle.mesh_model.specs.Acts.FactRows.{fact_acts, fact_round_acts}
use Rattle.mesh_rows.proofs.FragmentsOnLiterals.{fragments_on_literals}
use Rattle.mesh_rows.proofs.NetOnLiterals.{net_on_literals}

unfoldable pub cuts_on_literals : ⊤
unfolding fact_acts fact_round_acts fragments_on_literals net_on_literals
cuts_on_literals = tt
