use Rattle.mesh_laws.proofs.KeptOrder.{keeps_key_order}
use Rattle.mesh_laws.proofs.table_laws.changes_keep_the_key_order.Goals as goal

pub returns : goal.returns
returns c = keeps_key_order
