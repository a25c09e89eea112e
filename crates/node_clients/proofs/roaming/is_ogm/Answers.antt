use Rattle.std.proofs.lemmas.Bool.{eqb-true}
use Rattle.node_clients.proofs.OgmFrames.{iv_names_none, v_names_none}
use Rattle.node_clients.proofs.roaming.is_ogm.Goals as goal

pub returns-then-kind-eq-IV_OGM : goal.returns-then-kind-eq-IV_OGM
returns-then-kind-eq-IV_OGM c = λ is me now. iv_names_none me now c.args.bytes.now (eqb-true _ _ is)

pub returns-else-kind-eq-IV_OGM : goal.returns-else-kind-eq-IV_OGM
returns-else-kind-eq-IV_OGM c = λ is me now. v_names_none me now c.args.bytes.now (eqb-true _ _ is)
