-- The packet that is computed from bytes is the packet of the grammar, the computed refusal is the
-- first cause, a link frame goes on behind its first packet, and a `bad` line is the last.
use Rattle.std.specs.Prelude.{◌≡◌, ◌↔◌, ℕ, ◌<◌, ◌^◌, ◌-◌, suc, List, length, take, drop, slice_get, codes, All, Some, Ok, Err}
use Rattle.mesh_model.specs.declared.packet.Head.{Head}
use Rattle.mesh_model.specs.declared.link_frame.NoPacket.{NoPacket}
use Rattle.mesh_model.specs.Packets.Layout.{IsPacket}
use Rattle.mesh_model.specs.Packets.FirstPacket.{Front, first_packet}
use Rattle.mesh_model.specs.Packets.LinkFrame.{link_frame, frame_from}
use Rattle.mesh_model.specs.Text.Decode.{decode_lines}
use Rattle.mesh_laws.specs.Causes.{HasNoPacket}

-- a list of bytes
abbrev pub AreBytes : List ℕ → Type 0
AreBytes bytes = All (λ byte. byte < 2 ^ 8) bytes

-- a packet that bytes begin with is computed from them
abbrev pub PacketsAreFound : Type 0
PacketsAreFound = (bytes : List ℕ) (head : Head) (tail : List ℕ) (used : ℕ)
    → IsPacket bytes head tail used
    → first_packet bytes
    ≡ Ok (record { packet = record { head = head; tail = tail }; rest = drop used bytes })

-- a packet that is computed from bytes is one that they begin with
abbrev pub FoundPacketsAreRight : Type 0
FoundPacketsAreRight = (bytes : List ℕ) (front : Front) → AreBytes bytes
    → first_packet bytes ≡ Ok front
    → IsPacket bytes front.packet.head front.packet.tail (length bytes - length front.rest)

-- a refusal is computed from bytes exactly where it is the first cause
abbrev pub RefusalsAreFirst : Type 0
RefusalsAreFirst = (bytes : List ℕ) (cause : NoPacket) → AreBytes bytes
    → (first_packet bytes ≡ Err cause) ↔ HasNoPacket bytes cause

-- a link frame is its first packet and what follows it, however many packets there are
abbrev pub FramesGoOn : Type 0
FramesGoOn = (bytes : List ℕ) → link_frame bytes ≡ frame_from link_frame (first_packet bytes)

-- a line of a refusal
abbrev pub IsBad : List ℕ → Type 0
IsBad line = take 4 line ≡ codes "bad "

-- a `bad` line is the last, so there is one at most
abbrev pub BadIsLast : Type 0
BadIsLast = (bytes line : List ℕ) (i : ℕ) → slice_get (decode_lines bytes) i ≡ Some line
    → IsBad line → suc i ≡ length (decode_lines bytes)
