use Rattle.mesh_laws.proofs.LanLemmas.{puts_as_holder}
use Rattle.mesh_laws.proofs.lan_laws.a_group_frame_is_put_by_its_holder.Goals as goal

pub returns : goal.returns
returns c = puts_as_holder
