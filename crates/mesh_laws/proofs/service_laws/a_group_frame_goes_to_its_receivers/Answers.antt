use Rattle.mesh_laws.proofs.ReceiverLemmas.{group_goes_to_receivers, group_is_flooded, receivers_ascend}
use Rattle.mesh_laws.proofs.service_laws.a_group_frame_goes_to_its_receivers.Goals as goal

pub returns : goal.returns
returns c = record { each = group_goes_to_receivers; flooded = group_is_flooded; order = receivers_ascend }
