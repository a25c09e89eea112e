-- Named under a signature by `unfolding services_on_literals`, it lets the rooms of bridges and services compute on
-- calls and frames that are written out.
use Rattle.std.specs.Prelude.{⊤}
use lib.Utf8.{encode}
use Rattle.mesh_model.specs.Packets.FactMessages.{facts_within}
use Rattle.mesh_model.specs.Packets.LanFrames.{lan_message_of}
use Rattle.mesh_model.specs.Services.ArpTable.{node_place, pair_place}
use Rattle.mesh_model.specs.Services.Parts.{fact_pieces}
use Rattle.mesh_model.specs.Tables.Checksum.{crc32c}

unfoldable pub services_on_literals : ⊤
unfolding encode facts_within fact_pieces lan_message_of node_place pair_place crc32c
services_on_literals = tt
