-- What was read of bytes can be written again.
use Rattle.std.proofs.Common.{◌≡◌, ℕ, List, Result, Ok, Err, IfOk, length, ◌-◌}
use Rattle.mesh_model.specs.declared.link_frame.NoPacket.{NoPacket}
use Rattle.mesh_model.specs.Packets.FirstPacket.{first_packet}
use Rattle.mesh_model.specs.Packets.Layout.{HasSpelling}
use Rattle.mesh_laws.specs.PacketLaws.{AreBytes}
use Rattle.mesh_codec.specs.declared.first_packet.Front.{Front}
use Rattle.mesh_codec.specs.Inner.Reading.{seen_front}
use Rattle.mesh_codec.proofs.Decoded.{right_answer}
use Rattle.mesh_codec.proofs.Written.{can_be_written}

pub found_written : (bytes : List ℕ) (found : Result Front NoPacket) → AreBytes bytes → IfOk found (λ f. first_packet bytes ≡ Ok (seen_front f)) → IfOk found (λ f. HasSpelling f.packet.head f.packet.tail.now)
found_written bytes (Ok f) small is =
    let front = seen_front f in
    (can_be_written bytes front.packet.head front.packet.tail (length bytes - length front.rest) (right_answer bytes front small is)).0
found_written bytes (Err cause) small is = tt
