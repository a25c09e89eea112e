-- Messages of the distributed ARP table. The main word is `seen_arp`.
use Rattle.mesh_model.specs.Packets.ArpMessages as messages
use Rattle.mesh_messages.specs.declared.arp.ArpMessage.{ArpMessage}

-- a message as the definitions have it
abbrev pub seen_arp : ArpMessage → messages.ArpMessage
seen_arp message = record {
  vid = message.vid;
  operation = message.operation;
  sender = message.sender;
  sender_ip = message.sender_ip;
  target = message.target;
  target_ip = message.target_ip;
}
