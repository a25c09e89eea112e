-- Named under a signature by `unfolding fragments_on_literals`, it lets the room of fragments compute on packets and parts
-- that are written out.
use Rattle.std.specs.Prelude.{⊤}
use lib.Utf8.{encode}
use Rattle.mesh_model.specs.Fragments.Assembly.{whole_of}
use Rattle.mesh_model.specs.Packets.Bodies.{pieces}
use Rattle.mesh_model.specs.Packets.FirstPacket.{first_packet}

unfoldable pub fragments_on_literals : ⊤
unfolding encode whole_of pieces first_packet
fragments_on_literals = tt
