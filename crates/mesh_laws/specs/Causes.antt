-- The first cause for which bytes begin no packet, as facts of the bytes: there are fewer than two,
-- the version byte is another, no kind has the type byte, there are fewer than the header has, or
-- the told length passes the end. The main word is `HasNoPacket`.
use Rattle.std.specs.Prelude.{◌≡◌, ◌≢◌, ◌⊎◌, ℕ, ◌<◌, List, length, Option, Some, None, slice_get, option_map, option_and_then}
use Rattle.mesh_model.specs.declared.packet.Head.{Head}
use Rattle.mesh_model.specs.declared.link_frame.NoPacket.{NoPacket}
use Rattle.mesh_model.specs.declared.link_frame.NoPacket.TheVariants.{Short, Version, Kind, Length}
use Rattle.mesh_model.specs.Packets.Numbers.{compat_version}
use Rattle.mesh_model.specs.Packets.Shapes.{Shape, header_size, prefix_size, shape_of, shape_of_type}
use Rattle.mesh_model.specs.Packets.Shapes.TailKind.{containers}
use Rattle.mesh_model.specs.Packets.Layout.{header_of, BeginWith}

-- the version byte is there, and is the right one
abbrev pub HasVersion : List ℕ → Type 0
HasVersion bytes = slice_get bytes 1 ≡ Some compat_version

-- the shape that the type byte tells, where there is one
abbrev pub told_shape : List ℕ → Option Shape
told_shape bytes = option_and_then shape_of_type (slice_get bytes 0)

-- so many bytes are needed next: type and version, then the header that they tell
abbrev pub IsNeeded : List ℕ → ℕ → Type 0
IsNeeded bytes need = (need ≡ prefix_size)
    ⊎ (HasVersion bytes × (option_map header_size (told_shape bytes) ≡ Some need))

-- there are fewer bytes than are needed
pub record IsShort (bytes : List ℕ) (have need : ℕ) : Type 0 where
  pub have_is : have ≡ length bytes
  pub needed : IsNeeded bytes need
  pub fewer : have < need

-- the header is whole, and tells more bytes of containers than are left after it
pub record TellsTooMuch (bytes : List ℕ) (told left : ℕ) : Type 0 where
  pub head : Head
  pub after : List ℕ
  pub header : BeginWith bytes (header_of head told) after
  pub tail_is : (shape_of head).tail ≡ containers
  pub left_is : left ≡ length after
  pub more : left < told

-- the bytes begin no packet, and this is the first cause
abbrev pub HasNoPacket : List ℕ → NoPacket → Type 0
HasNoPacket bytes (Short have need) = IsShort bytes have need
HasNoPacket bytes (Version version) =
    (slice_get bytes 1 ≡ Some version) × (version ≢ compat_version)
HasNoPacket bytes (Kind kind) =
    HasVersion bytes × (slice_get bytes 0 ≡ Some kind) × (shape_of_type kind ≡ None)
HasNoPacket bytes (Length told left) = TellsTooMuch bytes told left
