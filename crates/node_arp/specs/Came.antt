-- What a packet of the distributed ARP table brings, as the definitions see it. The main word is
-- `seen_came`.
use Rattle.mesh_messages.specs.Arp.{seen_arp}
use Rattle.mesh_model.specs.Packets.ArpMessages as messages
use Rattle.node_arp.specs.declared.came.ArpCame.{ArpCame}
use Rattle.node_arp.specs.declared.came.ArpCame.TheVariants.{Puts, Asks, Tells}

-- what is brought
abbrev pub seen_came : ArpCame → messages.ArpCame
seen_came (Puts message) = messages.Puts (seen_arp message)
seen_came (Asks message) = messages.Asks (seen_arp message)
seen_came (Tells message) = messages.Tells (seen_arp message)
