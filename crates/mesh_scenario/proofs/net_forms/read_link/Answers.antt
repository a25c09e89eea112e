use Rattle.std.proofs.Common.{arith}
use Rattle.std.proofs.lemmas.Grind.{common_steps}
use Rattle.mesh_scenario.proofs.OptionsLemmas.{Refuses-options}
use Rattle.mesh_scenario.proofs.net_forms.read_link.Goals as goal

pub returns-in_err-options-clause-refused : goal.returns-in_err-options-clause-refused
returns-in_err-options-clause-refused c = grind (arith, common_steps, Refuses-options)
