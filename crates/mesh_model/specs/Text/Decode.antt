-- The text of `decode`: the lines of the packets of a link frame in order, and the line of what
-- ends them. A packet has a line, and its containers have theirs, up to the first that is cut or
-- too short. The line of a rest tells its length, and there is none where nothing is left. Each
-- other ending is a line `bad` with the cause. The main word is `decode_text`.
use Rattle.std.specs.Prelude.{ℕ, List, [], ◌∷◌, ◌++◌, length, flat_map, codes, nat_eq, if◌then◌else◌}
use Rattle.std.specs.List.{concat}
use Rattle.mesh_model.specs.declared.link_frame.Ending.{Ending}
use Rattle.mesh_model.specs.declared.link_frame.Ending.TheVariants.{Rest, BadPacket, BadContainer}
use Rattle.mesh_model.specs.declared.link_frame.NoPacket.{NoPacket}
use Rattle.mesh_model.specs.declared.link_frame.NoPacket.TheVariants.{Short, Version, Kind, Length}
use Rattle.mesh_model.specs.declared.link_frame.TvlvErr.{TvlvErr}
use Rattle.mesh_model.specs.declared.link_frame.TvlvErr.TheVariants.{Cut, BadLength}
use Rattle.mesh_model.specs.Packets.Shapes.{TailKind, shape_of}
use Rattle.mesh_model.specs.Packets.Shapes.TailKind.{containers, all_the_rest, nothing}
use Rattle.mesh_model.specs.Packets.FirstPacket.{Packet}
use Rattle.mesh_model.specs.Packets.Contents.{sound_containers}
use Rattle.mesh_model.specs.Packets.LinkFrame.{LinkFrame, link_frame}
use Rattle.mesh_model.specs.Text.PacketLines.{line_of, named_number, packet_line}
use Rattle.mesh_model.specs.Text.ContainerLines.{container_lines}

-- the line of bytes that begin no packet
unfoldable pub bad_packet_line : NoPacket → List ℕ
bad_packet_line (Short have need) = line_of
    (codes "bad short" ∷ named_number (codes " have=") have ∷ named_number (codes " need=") need
    ∷ [])
bad_packet_line (Version version) = line_of (named_number (codes "bad version ") version ∷ [])
bad_packet_line (Kind kind) = line_of (named_number (codes "bad kind ") kind ∷ [])
bad_packet_line (Length told left) = line_of
    (codes "bad length" ∷ named_number (codes " told=") told ∷ named_number (codes " left=") left
    ∷ [])

-- the line of a container that is cut, at its place behind the first, or too short for its type
unfoldable pub bad_container_line : TvlvErr → List ℕ
bad_container_line (Cut place) = line_of
    (codes "bad cut" ∷ named_number (codes " place=") place ∷ [])
bad_container_line (BadLength kind len) = line_of
    (codes "bad badlength" ∷ named_number (codes " kind=") kind ∷ named_number (codes " len=") len
    ∷ [])

-- the line of so many bytes after a packet
unfoldable pub rest_line : ℕ → List ℕ
rest_line len = line_of (named_number (codes "rest ") len ∷ [])

-- the line of what ends the packets, or none
abbrev pub ending_lines : Ending → List (List ℕ)
ending_lines (Rest len) = if nat_eq len 0 then [] else rest_line len ∷ []
ending_lines (BadPacket cause) = bad_packet_line cause ∷ []
ending_lines (BadContainer flaw) = bad_container_line flaw ∷ []

-- the lines of a tail of this kind
abbrev pub tail_lines : TailKind → List ℕ → List (List ℕ)
tail_lines containers tail = flat_map container_lines (sound_containers tail)
tail_lines all_the_rest tail = []
tail_lines nothing tail = []

-- the lines of a packet
abbrev pub packet_lines : Packet → List (List ℕ)
packet_lines packet = packet_line packet.head (length packet.tail)
    ∷ tail_lines (shape_of packet.head).tail packet.tail

-- the lines of a link frame
abbrev pub frame_lines : LinkFrame → List (List ℕ)
frame_lines frame = flat_map packet_lines frame.packets ++ ending_lines frame.ending

-- the lines that `decode` prints of bytes
abbrev pub decode_lines : List ℕ → List (List ℕ)
decode_lines bytes = frame_lines (link_frame bytes)

-- what `decode` prints of bytes
unfoldable pub decode_text : List ℕ → List ℕ
decode_text bytes = concat (decode_lines bytes)
