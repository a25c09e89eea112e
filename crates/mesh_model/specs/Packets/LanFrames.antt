-- Frames on a LAN, as bytes. A client frame is spelled as a packet carries it. The frames by which
-- gateways agree begin with ff:43:05, a byte for their type and the number of the LAN in two bytes;
-- the gateway's address follows, then 0x88b6. A claim and an unclaim go on with the client's
-- address and the wire number of its VLAN, an announcement with how many claims the gateway holds,
-- in four bytes. The main words are `claim_spelling` and `lan_message_of`.
use Rattle.std.specs.Prelude.{ℕ, ◌+◌, ◌==◌, ◌&&◌, ◌||◌, nat_le, Bool, List, [], ◌∷◌, ◌++◌, length, drop, take, bytes_eq, slice_index, Option, Some, None, if◌then◌else◌}
use Rattle.byteorder.specs.Endian.{big_bytes}
use Rattle.mesh_base.specs.declared.address.Mac.{Mac}
use Rattle.mesh_base.specs.declared.client.Key.{Key}
use Rattle.mesh_model.specs.Packets.Bodies.{key_of_bytes, key_size}
use Rattle.mesh_model.specs.Packets.BodySpellings.{key_spelling}
use Rattle.mesh_model.specs.Packets.Numbers.{claim_ethertype}
use Rattle.mesh_model.specs.Packets.Ethernet.{address_in, addresses_size, begin_type}
use Rattle.mesh_model.specs.Packets.Payload.{ClientFrame, client_frame_of}

-- the first bytes of a gateway's frame
abbrev pub gateway_mark : List ℕ
gateway_mark = 0xff ∷ 0x43 ∷ 0x05 ∷ []

-- the types of such a frame
abbrev pub claim_type : ℕ
claim_type = 0

abbrev pub unclaim_type : ℕ
unclaim_type = 1

abbrev pub announce_type : ℕ
announce_type = 2

-- how the front of a gateway's frame is spelled, by its type and the number of its LAN
abbrev pub gateway_front : ℕ → ℕ → Mac → List ℕ
gateway_front kind lan me = gateway_mark ++ kind ∷ big_bytes 2 lan ++ me.0
    ++ big_bytes 2 claim_ethertype

-- how a claim is spelled, or for `claim` false an unclaim
abbrev pub claim_spelling : Bool → ℕ → Mac → Key → List ℕ
claim_spelling claim lan me key =
    gateway_front (if claim then claim_type else unclaim_type) lan me ++ key_spelling key

-- how an announcement is spelled
abbrev pub announce_spelling : ℕ → Mac → ℕ → List ℕ
announce_spelling lan me count = gateway_front announce_type lan me ++ big_bytes 4 count

-- what a frame on a LAN is: a claim or an unclaim of a key by its sender, a client frame, or nothing
-- that a gateway looks at, as an announcement is
pub data LanMessage : Type 0 where
  Claims : (claim : Bool) → (sender : Mac) → (key : Key) → LanMessage
  Carries : ClientFrame → LanMessage
  Nothing : LanMessage

-- the bytes before what a gateway's frame tells
abbrev pub front_size : ℕ
front_size = 14

-- whether bytes begin as a gateway's frame
abbrev pub is_of_gateway : List ℕ → Bool
is_of_gateway bytes = bytes_eq (take 3 bytes) gateway_mark
    && begin_type claim_ethertype (drop addresses_size bytes)

-- whether a gateway's frame is a claim or an unclaim, and whole
abbrev pub is_claiming : List ℕ → Bool
is_claiming bytes = (slice_index bytes 3 == claim_type || slice_index bytes 3 == unclaim_type)
    && nat_le (front_size + key_size) (length bytes)

-- the claim or unclaim that a gateway's frame is
abbrev pub claim_in : List ℕ → LanMessage
claim_in bytes = if is_claiming bytes
    then Claims (slice_index bytes 3 == claim_type) (address_in 6 bytes)
    (key_of_bytes (drop front_size bytes))
    else Nothing

-- the client frame that a frame on a LAN is, where it is one
abbrev pub carried_by : Option ClientFrame → LanMessage
carried_by None = Nothing
carried_by (Some frame) = Carries frame

-- what a frame on a LAN is
unfoldable pub lan_message_of : List ℕ → LanMessage
lan_message_of bytes =
    if is_of_gateway bytes then claim_in bytes else carried_by (client_frame_of bytes)

-- the client frame that bytes on a LAN are
abbrev pub client_frame_in : LanMessage → Option ClientFrame
client_frame_in (Claims claim sender key) = None
client_frame_in (Carries frame) = Some frame
client_frame_in Nothing = None
