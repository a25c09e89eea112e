use Rattle.mesh_laws.proofs.PresentLemmas.{sorted_present}
use Rattle.mesh_laws.proofs.present_laws.present_clients_are_in_key_order.Goals as goal

pub returns : goal.returns
returns c = sorted_present
