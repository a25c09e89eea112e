use Rattle.mesh_iv.proofs.KeyLemmas.{keys_named}
use Rattle.mesh_iv.proofs.laws.keys_come_from_ogms.Goals as goal

pub returns : goal.returns
returns c = λ me log stands. keys_named me c.args._iv.now log stands
