-- How the two parts of a store belong together. No invariant of a type can say it, since a lent
-- tail holds one part and the lent frame the other; so each call asks for it and ensures it. The
-- main words are `IsStore` and, while a frame is lent, `IsTail`.
use Rattle.std.specs.Prelude.{◌≡◌, ◌<◌, ◌≤◌, ◌+◌, ◌*◌, ◌⊎◌, ℕ, [], length, All, sum_by}
use Rattle.std.specs.Vec.{vec_capacity}
use Rattle.frame_store.specs.declared.grown.Grown.{Grown}
use Rattle.frame_store.specs.declared.older.Older.{Older}
use Rattle.frame_store.specs.declared.place.Place.{Place}
use Rattle.frame_store.specs.Chunks.{IsWithin}
use Rattle.frame_store.specs.Filling.{rest}
use Rattle.frame_store.specs.Frames.{bytes_limit, chunks, frames, frames_limit, last_chunk, newest}

-- the least size of a chunk
abbrev pub chunk_size : ℕ
chunk_size = 1048576

-- how many chunks find room in each list of chunks, which the limit on bytes keeps below
abbrev pub spine : ℕ
spine = 1026

-- both lists of chunks have room for all that can come
pub record IsReady (older : Older) (grown : Grown) : Type 0 where
  pub closed : spine ≤ vec_capacity older.closed
  pub younger : spine ≤ vec_capacity grown.younger

-- how many chunks were begun
abbrev pub begun : Older → Grown → ℕ
begun older grown = length older.closed.items + length grown.younger.items

-- a frame stands on one side of the beginning of what is staged
abbrev pub IsApart : Older → Place → Type 0
IsApart older place = (place.chunk ≡ length older.closed.items) →
    (place.start + place.len ≤ length older.last.bytes) ⊎ (length older.last.bytes ≤ place.start)

-- any two neighbouring chunks hold more bytes than one of the least size: so of so many bytes in
-- all, so many chunks were begun at most
abbrev pub AreFilled : Older → Grown → ℕ → Type 0
AreFilled older grown total =
    begun older grown * (chunk_size + 1) + length (newest older grown).bytes
    ≤ 2 * total + (chunk_size + 1)

-- the chunks of a store, whatever frames are in them
pub record AreChunks (older : Older) (grown : Grown) : Type 0 where
  -- what is staged finds room in the last older chunk, and the newest one holds what fills it
  pub fits : length older.last.bytes + length grown.staged.bytes ≤ older.last.size
  pub holds : length (newest older grown).bytes ≤ (newest older grown).size
  -- there is room to stage what the newest chunk takes, and what the one aside will take
  pub stages : rest (last_chunk grown.younger.items older.last) ≤ grown.staged.size
  pub stages_aside : grown.aside.size ≤ grown.staged.size
  -- a chunk has the least size or more, but for the one of no bytes that a store begins with
  pub large : 0 < begun older grown → chunk_size ≤ (newest older grown).size
  pub large_aside : 0 < grown.aside.size → chunk_size ≤ grown.aside.size
  pub unused : grown.aside.bytes ≡ []

-- the parts are those of a store
pub record IsStore (older : Older) (grown : Grown) : Type 0 where
  pub stand : AreChunks older grown
  pub kept : All (IsWithin (chunks older grown)) grown.index.items
  pub apart : All (IsApart older) grown.index.items
  pub filled : AreFilled older grown grown.total
  pub total : grown.total ≡ sum_by length (frames older grown)
  pub few : length grown.index.items ≤ frames_limit
  pub small : grown.total ≤ bytes_limit
  pub ready : 0 < vec_capacity grown.index → IsReady older grown

-- the parts are those of a store of which a frame is lent
pub record IsTail (older : Older) (grown : Grown) : Type 0 where
  pub store : IsStore older grown
  pub ready : IsReady older grown
