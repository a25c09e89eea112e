-- A client frame as a packet carries it: an Ethernet frame of type 0x88b5, of which the text is the
-- rest. Bytes that aren't so are no client frame. The main words are `payload_spelling` and
-- `client_frame_of`.
use Rattle.std.specs.Prelude.{ℕ, List, Option, option_map}
use Rattle.mesh_base.specs.declared.address.Mac.{Mac}
use Rattle.mesh_base.specs.declared.client.Vid.{Vid}
use Rattle.mesh_model.specs.Packets.Ethernet.{EtherFrame, ether_frame_of, ether_spelling}
use Rattle.mesh_model.specs.Packets.Numbers.{client_ethertype}

-- a client frame: where it goes, where it comes from, its VLAN, and its text
pub record ClientFrame : Type 0 where
  pub dst : Mac
  pub src : Mac
  pub vid : Vid
  pub text : List ℕ

-- the Ethernet frame that a client frame is
abbrev pub ether_frame : ClientFrame → EtherFrame
ether_frame frame =
    record { dst = frame.dst; src = frame.src; vid = frame.vid; rest = frame.text }

-- the client frame that an Ethernet frame of its type is
abbrev pub client_frame : EtherFrame → ClientFrame
client_frame frame =
    record { dst = frame.dst; src = frame.src; vid = frame.vid; text = frame.rest }

-- how a client frame is spelled
abbrev pub payload_spelling : ClientFrame → List ℕ
payload_spelling frame = ether_spelling client_ethertype (ether_frame frame)

-- the client frame that bytes are, where they are one
abbrev pub client_frame_of : List ℕ → Option ClientFrame
client_frame_of bytes = option_map client_frame (ether_frame_of client_ethertype bytes)
