-- Named under a signature by `unfolding pictures_on_literals`, it lets pictures and the network compute, where they are
-- written out.
use Rattle.std.specs.Prelude.{⊤}
use Rattle.serde_json.proofs.OnLiterals.{serde_json_on_literals}
use Rattle.mesh_model.specs.Text.Pictures.{network_text}
use Rattle.mesh_rows.proofs.NetOnLiterals.{net_on_literals}

unfoldable pub pictures_on_literals : ⊤
unfolding serde_json_on_literals network_text net_on_literals
pictures_on_literals = tt
