-- What a link frame holds: packets in order, and what ends them. After an originator message the
-- next packet follows while further bytes begin with the same type byte and the version, and hold a
-- whole header. Other bytes after a packet are a rest that isn't read. Nothing follows what begins
-- no packet, a container that is cut, and one that is too short for its type. The main word is
-- `link_frame`.
use Rattle.std.specs.Prelude.{ℕ, zero, suc, ◌==◌, ◌&&◌, ◌||◌, nat_le, Bool, List, [], ◌∷◌, length, slice_index, Option, Some, None, Result, Ok, Err, if◌then◌else◌}
use Rattle.mesh_model.specs.declared.link_frame.Ending.{Ending}
use Rattle.mesh_model.specs.declared.link_frame.Ending.TheVariants.{Rest, BadPacket, BadContainer}
use Rattle.mesh_model.specs.declared.link_frame.NoPacket.{NoPacket}
use Rattle.mesh_model.specs.declared.link_frame.TvlvErr.{TvlvErr}
use Rattle.mesh_model.specs.Packets.Numbers.{compat_version, iv_ogm_type, ogm2_type}
use Rattle.mesh_model.specs.Packets.Shapes.{Shape, TailKind, header_size, shape_of}
use Rattle.mesh_model.specs.Packets.Shapes.TailKind.{containers, all_the_rest, nothing}
use Rattle.mesh_model.specs.Packets.FirstPacket.{Packet, Front, first_packet}
use Rattle.mesh_model.specs.Packets.Contents.{flaw_of}

-- the packets of a link frame, and what ends them
pub record LinkFrame : Type 0 where
  pub packets : List Packet
  pub ending : Ending

-- a link frame of one packet more at its front
abbrev pub put_before : Packet → LinkFrame → LinkFrame
put_before packet frame =
    record { packets = packet ∷ frame.packets; ending = frame.ending }

-- a link frame without packets
abbrev pub only_ending : Ending → LinkFrame
only_ending ending = record { packets = []; ending = ending }

-- why a tail of this kind can't be read to its end
abbrev pub tail_flaw : TailKind → List ℕ → Option TvlvErr
tail_flaw containers tail = flaw_of tail
tail_flaw all_the_rest tail = None
tail_flaw nothing tail = None

-- why the containers of a packet can't be read to their end
abbrev pub packet_flaw : Packet → Option TvlvErr
packet_flaw packet = tail_flaw (shape_of packet.head).tail packet.tail

-- whether bytes begin with the type byte of a shape and the version, and hold a whole header
abbrev pub begin_header : Shape → List ℕ → Bool
begin_header shape bytes = (slice_index bytes 0 == shape.kind)
    && (slice_index bytes 1 == compat_version) && nat_le (header_size shape) (length bytes)

-- whether a packet of this shape is an originator message, and these bytes after it are a further
-- one
abbrev pub is_followed : Shape → List ℕ → Bool
is_followed shape rest =
    (shape.kind == iv_ogm_type || shape.kind == ogm2_type) && begin_header shape rest

-- what is behind a packet with this flaw and these bytes after it, where `further` reads on
abbrev pub behind : (List ℕ → LinkFrame) → Front → Option TvlvErr → LinkFrame
behind further front (Some flaw) = only_ending (BadContainer flaw)
behind further front None = if is_followed (shape_of front.packet.head) front.rest
    then further front.rest else only_ending (Rest (length front.rest))

-- the link frame of bytes that begin with this packet, or with none
abbrev pub frame_from : (List ℕ → LinkFrame) → Result Front NoPacket → LinkFrame
frame_from further (Ok front) =
    put_before front.packet (behind further front (packet_flaw front.packet))
frame_from further (Err cause) = only_ending (BadPacket cause)

-- the link frame of bytes, of which at most so many packets are read
unfoldable pub frame_within : ℕ → List ℕ → LinkFrame
frame_within zero bytes = only_ending (Rest (length bytes))
frame_within (suc more) bytes = frame_from (frame_within more) (first_packet bytes)

-- the link frame that bytes are, which hold fewer packets than one more than there are bytes
unfoldable pub link_frame : List ℕ → LinkFrame
link_frame bytes = frame_within (suc (length bytes)) bytes
