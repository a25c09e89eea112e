-- Packets and containers in bytes. The main words are `shapes`, the table of packets, in Shapes,
-- `IsPacket`, the grammar of packets, in Layout, `first_packet`, the same computed, in FirstPacket,
-- `containers_of`, in Containers, `content_of`, in Contents, `link_frame`, in LinkFrame, and, of
-- what packets and LANs carry, `client_frame_of`, in Payload, `arp_message_of`, in ArpMessages,
-- `fact_message_of`, in FactMessages, `picture_of_bytes`, in Pictures, and `lan_message_of`, in
-- LanFrames.
pub mod Numbers
pub mod Ethernet
pub mod Payload
pub mod Shapes
pub mod Layout
pub mod FirstPacket
pub mod Containers
pub mod Bodies
pub mod BodySpellings
pub mod Contents
pub mod LinkFrame
pub mod ArpMessages
pub mod FactMessages
pub mod Pictures
pub mod LanFrames
