use Rattle.mesh_laws.proofs.ChoiceLemmas.{best_is_greatest, none_leads_the_late, stable_stays}
use Rattle.mesh_laws.proofs.service_laws.a_choice_keeps_its_policy.Goals as goal

pub returns : goal.returns
returns c = record { best = best_is_greatest; late = none_leads_the_late; stable = stable_stays }
