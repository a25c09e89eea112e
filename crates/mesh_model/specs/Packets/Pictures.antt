-- What a node tells of itself in the fact store: its picture. In bytes it is the number of its
-- neighbours 1; of each its address 6 and its metric 4; the number of its clients 1; and of each
-- its address 6 and wire number 2. Numbers have their higher byte first. Bytes are a picture where
-- nothing is missing and nothing follows, whatever the two numbers are. The main words are
-- `picture_spelling` and `picture_of_bytes`.
use Rattle.std.specs.Prelude.{ℕ, ◌+◌, ◌*◌, ◌==◌, Bool, List, ◌∷◌, ◌++◌, length, take, drop, map, flat_map, slice_index, Option, Some, None, if◌then◌else◌}
use Rattle.byteorder.specs.Endian.{big_bytes, big_number}
use Rattle.mesh_base.specs.declared.address.Mac.{Mac}
use Rattle.mesh_base.specs.declared.client.Key.{Key}
use Rattle.mesh_model.specs.Packets.Bodies.{key_of_bytes, key_size, whole_pieces}
use Rattle.mesh_model.specs.Packets.BodySpellings.{key_spelling}

-- the neighbours of a node, each with the metric of the route to it, and the node's clients
pub record Picture : Type 0 where
  pub neighbours : List (Mac × ℕ)
  pub clients : List Key

-- ---- spelling

-- how a neighbour is spelled
abbrev pub neighbour_spelling : Mac × ℕ → List ℕ
neighbour_spelling neighbour = neighbour.0.0 ++ big_bytes 4 neighbour.1

-- how a picture is spelled
abbrev pub picture_spelling : Picture → List ℕ
picture_spelling picture = length picture.neighbours
    ∷ flat_map neighbour_spelling picture.neighbours
    ++ length picture.clients ∷ flat_map key_spelling picture.clients

-- ---- reading

-- the bytes of a neighbour
abbrev pub neighbour_size : ℕ
neighbour_size = 10

-- a neighbour: address 6, metric 4
abbrev pub neighbour_of_bytes : List ℕ → Mac × ℕ
neighbour_of_bytes bytes = (record { 0 = take 6 bytes }, big_number 4 (drop 6 bytes))

-- the number of neighbours that bytes tell; a byte that isn't there counts as 0
abbrev pub told_neighbours : List ℕ → ℕ
told_neighbours bytes = slice_index bytes 0

-- where the number of clients stands, behind the neighbours that are told
abbrev pub clients_place : List ℕ → ℕ
clients_place bytes = 1 + neighbour_size * told_neighbours bytes

-- the number of clients that bytes tell; a byte that isn't there counts as 0
abbrev pub told_clients : List ℕ → ℕ
told_clients bytes = slice_index bytes (clients_place bytes)

-- whether bytes are as long as both numbers tell
abbrev pub has_told_length : List ℕ → Bool
has_told_length bytes =
    length bytes == (clients_place bytes + (1 + key_size * told_clients bytes))

-- the picture in bytes that are as long as they tell
abbrev pub picture_in : List ℕ → Picture
picture_in bytes = record {
  neighbours = map neighbour_of_bytes (whole_pieces neighbour_size
      (take (neighbour_size * told_neighbours bytes) (drop 1 bytes)));
  clients = map key_of_bytes (whole_pieces key_size (drop (clients_place bytes + 1) bytes));
}

-- the picture that bytes are, where they are one
abbrev pub picture_of_bytes : List ℕ → Option Picture
picture_of_bytes bytes = if has_told_length bytes then Some (picture_in bytes) else None
