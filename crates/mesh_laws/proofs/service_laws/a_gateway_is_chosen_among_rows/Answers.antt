use Rattle.mesh_laws.proofs.ChoiceLemmas.{any_is_chosen, chosen_is_among}
use Rattle.mesh_laws.proofs.service_laws.a_gateway_is_chosen_among_rows.Goals as goal

pub returns : goal.returns
returns c = record { among = chosen_is_among; any = any_is_chosen }
