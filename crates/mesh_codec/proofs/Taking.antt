-- A link frame whose packets are taken one after the other.
use Rattle.std.proofs.Common.{◌≡◌, ℕ, List, sym, ap, ◌∙◌, Option, None, Ok, Err}
use Rattle.mesh_model.specs.declared.link_frame.Ending.{Ending}
use Rattle.mesh_model.specs.declared.link_frame.Ending.TheVariants.{BadPacket}
use Rattle.mesh_model.specs.declared.link_frame.NoPacket.{NoPacket}
use Rattle.mesh_model.specs.Packets.FirstPacket.{Front, first_packet}
use Rattle.mesh_model.specs.Packets.LinkFrame.{LinkFrame, link_frame, only_ending, put_before, behind, packet_flaw, frame_from}
use Rattle.mesh_laws.proofs.FrameLemmas.{link_frame-first}
use Rattle.mesh_codec.specs.Frames.{frame_left}

-- a packet is taken
pub taken : (whole new : LinkFrame) (bytes : List ℕ) (ending : Option Ending) (front : Front) → whole ≡ frame_left bytes ending → ending ≡ None
    → first_packet bytes ≡ Ok front → new ≡ behind link_frame front (packet_flaw front.packet) → whole ≡ put_before front.packet new
taken whole new bytes ending front is none found left =
    is ∙ ap (frame_left bytes) none ∙ link_frame-first bytes ∙ ap (frame_from link_frame) found ∙ ap (put_before front.packet) (sym left)

-- none is left
pub refused : (whole : LinkFrame) (bytes : List ℕ) (ending : Option Ending) (cause : NoPacket) → whole ≡ frame_left bytes ending → ending ≡ None
    → first_packet bytes ≡ Err cause → whole ≡ only_ending (BadPacket cause)
refused whole bytes ending cause is none found =
    is ∙ ap (frame_left bytes) none ∙ link_frame-first bytes ∙ ap (frame_from link_frame) found
