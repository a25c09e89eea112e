-- What `decode` answers: the packet that the bytes begin with, or the first cause for which they
-- begin none. The main word is `HasCause`.
use Rattle.std.specs.Prelude.{◌≡◌, ℕ, List}
use Rattle.std.specs.Borrow.{Bor}
use Rattle.mesh_model.specs.declared.packet.Head.{Head}
use Rattle.mesh_model.specs.declared.link_frame.NoPacket.{NoPacket}
use Rattle.mesh_model.specs.declared.link_frame.NoPacket.TheVariants as no_packet
use Rattle.mesh_laws.specs.Causes.{HasNoPacket}
use Rattle.mesh_codec.specs.declared.failure.CodecErr.{CodecErr}
use Rattle.mesh_codec.specs.declared.failure.CodecErr.TheVariants.{Short, Version, Kind, Length, Long, Tail, Memory}

-- what was answered is this head and tail, with so many bytes used
abbrev pub IsSame : Head × Bor (List ℕ) × ℕ → Head → List ℕ → ℕ → Type 0
IsSame packet head tail used =
    (packet.0 ≡ head) × (packet.1.now ≡ tail) × (packet.2 ≡ used)

-- the error for a cause
abbrev pub error_of : NoPacket → CodecErr
error_of (no_packet.Short have need) = Short have need
error_of (no_packet.Version version) = Version version
error_of (no_packet.Kind kind) = Kind kind
error_of (no_packet.Length told left) = Length told left

-- the bytes begin no packet, and this is the first cause
abbrev pub HasCause : List ℕ → CodecErr → Type 0
HasCause bytes (Short have need) = HasNoPacket bytes (no_packet.Short have need)
HasCause bytes (Version version) = HasNoPacket bytes (no_packet.Version version)
HasCause bytes (Kind kind) = HasNoPacket bytes (no_packet.Kind kind)
HasCause bytes (Length told left) = HasNoPacket bytes (no_packet.Length told left)
HasCause bytes (Long len) = ⊥
HasCause bytes (Tail len) = ⊥
HasCause bytes Memory = ⊥
