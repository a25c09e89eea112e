use Rattle.mesh_v.proofs.KeyLemmas.{keys_named}
use Rattle.mesh_v.proofs.laws.keys_come_from_heads.Goals as goal

pub returns : goal.returns
returns c = λ me log stands. keys_named me c.args._v.now log stands
