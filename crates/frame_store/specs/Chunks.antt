-- Places in chunks. A place names the chunk, its first byte there, and how many bytes there are; so
-- the bytes of a frame stand in one chunk. The main word is `bytes_at`.
use Rattle.std.specs.Prelude.{◌≡◌, ◌<◌, ◌≤◌, ◌+◌, ℕ, List, [], length, take, drop, slice_index_or}
use Rattle.frame_store.specs.declared.place.Place.{Place}
use Rattle.frame_store.specs.Filling.{Filling}

-- the chunk of a number, from 0; one that isn't there holds nothing
abbrev pub chunk_at : List Filling → ℕ → Filling
chunk_at chunks number = slice_index_or chunks number (record { bytes = []; size = 0 })

-- the bytes at a place
abbrev pub bytes_at : List Filling → Place → List ℕ
bytes_at chunks place = take place.len (drop place.start (chunk_at chunks place.chunk).bytes)

-- a place names bytes that are there
pub record IsWithin (chunks : List Filling) (place : Place) : Type 0 where
  pub begun : place.chunk < length chunks
  pub filled : place.start + place.len ≤ length (chunk_at chunks place.chunk).bytes

-- what is at places of the first chunks is at the same places of the second
abbrev pub Extends : List Filling → List Filling → Type 0
Extends chunks others = (place : Place) → IsWithin chunks place →
    IsWithin others place × (bytes_at others place ≡ bytes_at chunks place)
