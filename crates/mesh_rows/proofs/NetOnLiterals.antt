-- Named under a signature by `unfolding net_on_literals`, it lets a scenario with links compute, where it is written
-- out.
use Rattle.std.specs.Prelude.{⊤}
use Rattle.std.specs.Fmt.{digits}
use lib.Utf8.{encode}
use Rattle.std.specs.Str.{chars, is_utf8}
use Rattle.hex.specs.Hex.{encode_with}
use Rattle.mesh_model.specs.Acts.ArpRows.{arp_here, passed_unicast4, question_acts}
use Rattle.mesh_model.specs.Acts.FactRows.{fact_acts, fact_round_acts, get_acts}
use Rattle.mesh_model.specs.Acts.FrameRows.{broadcast_acts, frame_acts, here_acts, passed_frame}
use Rattle.mesh_model.specs.Acts.GroupRows.{call_acts, group_acts}
use Rattle.mesh_model.specs.Acts.ProbeRows.{icmp_here, passed_icmp, session_acts}
use Rattle.mesh_model.specs.Acts.Rows.{message_acts, ogm_acts, packet_acts, packets_acts, tick_acts}
use Rattle.mesh_model.specs.Acts.TableRows.{other_containers, own_answer}
use Rattle.mesh_model.specs.Net.Runs.{going_on}
use Rattle.mesh_model.specs.Packets.Bodies.{pieces}
use Rattle.mesh_model.specs.Packets.Containers.{first_containers, containers_of}
use Rattle.mesh_model.specs.Packets.FirstPacket.{first_packet}
use Rattle.mesh_model.specs.Packets.LanFrames.{lan_message_of}
use Rattle.mesh_model.specs.Packets.LinkFrame.{frame_within, link_frame}
use Rattle.mesh_model.specs.Scenario.Commands.{command_of_line}
use Rattle.mesh_model.specs.Text.GlobalTables.{entry_line, global_header, global_line, mark_line}
use Rattle.mesh_model.specs.Text.Claims.{claim_header, claim_line}
use Rattle.mesh_model.specs.Text.Events.{client_frame_line, event_line, ip_text}
use Rattle.mesh_model.specs.Text.Routes.{route_text}
use Rattle.mesh_model.specs.Text.Services.{address_header, address_line, fact_header, fact_line, gateway_header, gateway_line, group_header, groups_line, joined_line}
use Rattle.mesh_model.specs.Text.Tables.{age_text, flags_text, local_header, local_line, sum_text, vid_text, vlan_line}
use Rattle.mesh_rows.proofs.RoutesOnLiterals.{routes_on_literals}
use Rattle.mesh_rows.proofs.TablesOnLiterals.{tables_on_literals}

unfoldable pub net_on_literals : ⊤
unfolding encode digits chars is_utf8 encode_with message_acts tick_acts ogm_acts packet_acts packets_acts
    broadcast_acts frame_acts here_acts passed_frame icmp_here passed_icmp session_acts other_containers own_answer entry_line global_header global_line mark_line
    pieces first_containers containers_of first_packet frame_within link_frame routes_on_literals tables_on_literals going_on command_of_line client_frame_line event_line age_text flags_text
    local_header local_line sum_text vid_text vlan_line lan_message_of claim_header claim_line ip_text group_acts call_acts
    arp_here passed_unicast4 question_acts address_header address_line gateway_header gateway_line group_header groups_line joined_line
    fact_acts fact_round_acts get_acts fact_header fact_line route_text
net_on_literals = tt
