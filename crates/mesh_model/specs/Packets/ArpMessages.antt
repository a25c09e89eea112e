-- The messages of the distributed ARP table: ARP over Ethernet and IPv4, in 28 bytes. A question is
-- operation 1, an answer operation 2. A packet of the table tells by its subtype whether a pair is
-- to be kept, is asked for, or is told. The main words are `arp_spelling` and `arp_came`.
use Rattle.std.specs.Prelude.{ℕ, ◌==◌, ◌&&◌, Bool, List, [], ◌∷◌, ◌++◌, length, take, drop, bytes_eq, Option, Some, None, option_and_then, if◌then◌else◌}
use Rattle.byteorder.specs.Endian.{big_bytes, big_number}
use Rattle.mesh_base.specs.declared.address.Mac.{Mac}
use Rattle.mesh_base.specs.declared.client.Vid.{Vid}
use Rattle.mesh_model.specs.Packets.Ethernet.{EtherFrame, address_in, ether_frame_of, ether_spelling}
use Rattle.mesh_model.specs.Packets.Numbers.{arp_ethertype, cache_reply_subtype, dht_get_subtype, dht_put_subtype}

-- an operation, and the address and the IP address of the one that asks or tells, and of the other
pub record ArpMessage : Type 0 where
  pub vid : Vid
  pub operation : ℕ
  pub sender : Mac
  pub sender_ip : ℕ
  pub target : Mac
  pub target_ip : ℕ

-- the operations
abbrev pub arp_request : ℕ
arp_request = 1

abbrev pub arp_reply : ℕ
arp_reply = 2

-- the bytes before the operation: Ethernet, IPv4, and the sizes of their addresses
abbrev pub arp_front : List ℕ
arp_front = 0 ∷ 1 ∷ 8 ∷ 0 ∷ 6 ∷ 4 ∷ []

-- the bytes of a message
abbrev pub arp_size : ℕ
arp_size = 28

-- how a message is spelled behind its type
abbrev pub arp_body : ArpMessage → List ℕ
arp_body m = arp_front ++ big_bytes 2 m.operation ++ m.sender.0 ++ big_bytes 4 m.sender_ip
    ++ m.target.0 ++ big_bytes 4 m.target_ip

-- how a message from one address to another is spelled
abbrev pub arp_spelling : Mac → Mac → ArpMessage → List ℕ
arp_spelling dst src m = ether_spelling arp_ethertype
    (record { dst = dst; src = src; vid = m.vid; rest = arp_body m })

-- whether bytes are a message's body
abbrev pub is_arp_body : List ℕ → Bool
is_arp_body rest = (length rest == arp_size) && bytes_eq (take 6 rest) arp_front

-- the message of a frame
abbrev pub arp_in : EtherFrame → Option ArpMessage
arp_in frame = if is_arp_body frame.rest then Some (record {
  vid = frame.vid;
  operation = big_number 2 (drop 6 frame.rest);
  sender = address_in 8 frame.rest;
  sender_ip = big_number 4 (drop 14 frame.rest);
  target = address_in 18 frame.rest;
  target_ip = big_number 4 (drop 24 frame.rest);
}) else None

-- the message that bytes are, where they are one
abbrev pub arp_message_of : List ℕ → Option ArpMessage
arp_message_of bytes = option_and_then arp_in (ether_frame_of arp_ethertype bytes)

-- what a packet of the table brings: a pair to keep, a question for one, or an answer
pub data ArpCame : Type 0 where
  Puts : ArpMessage → ArpCame
  Asks : ArpMessage → ArpCame
  Tells : ArpMessage → ArpCame

-- what a message under a subtype brings, where its operation fits
abbrev pub came_under : ℕ → ArpMessage → Option ArpCame
came_under subtype m =
    if (subtype == dht_put_subtype) && (m.operation == arp_reply) then Some (Puts m)
    else if (subtype == dht_get_subtype) && (m.operation == arp_request) then Some (Asks m)
    else if (subtype == cache_reply_subtype) && (m.operation == arp_reply) then Some (Tells m)
    else None

-- what a packet with a subtype and these bytes brings, where it is one of the table
abbrev pub arp_came : ℕ → List ℕ → Option ArpCame
arp_came subtype bytes = option_and_then (came_under subtype) (arp_message_of bytes)
