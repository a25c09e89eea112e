-- Named under a signature by `unfolding decode_on_literals`, it lets the text of `decode` compute on hex digits that are
-- written out.
use Rattle.std.specs.Prelude.{⊤}
use Rattle.std.specs.Fmt.{digits}
use lib.Utf8.{encode}
use Rattle.hex.specs.Hex.{decode_pairs, encode_with}
use Rattle.mesh_model.specs.Packets.Containers.{first_containers, containers_of}
use Rattle.mesh_model.specs.Packets.Bodies.{pieces}
use Rattle.mesh_model.specs.Text.Tables.{sum_text, vid_text, vlan_line}
use Rattle.mesh_model.specs.Packets.FirstPacket.{first_packet}
use Rattle.mesh_model.specs.Text.PacketLines.{packet_line}
use Rattle.mesh_model.specs.Text.ContainerLines.{plain_line, gateway_line, roaming_line, multicast_line, table_start, part_start, change_line}
use Rattle.mesh_model.specs.Packets.LinkFrame.{frame_within, link_frame}
use Rattle.mesh_model.specs.Text.Decode.{bad_packet_line, bad_container_line, rest_line, decode_text}

unfoldable pub decode_on_literals : ⊤
unfolding encode digits decode_pairs encode_with first_containers containers_of pieces sum_text vid_text vlan_line
    first_packet packet_line plain_line gateway_line roaming_line multicast_line table_start part_start change_line
    bad_packet_line bad_container_line rest_line frame_within link_frame decode_text
decode_on_literals = tt
