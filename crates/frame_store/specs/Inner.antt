-- What the steps of a push and of a reserve leave. No public clause cites this file.
use Rattle.std.specs.Prelude.{◌≡◌, ◌<◌, ◌≤◌, ◌+◌, ◌⊎◌, ℕ, List, [], length}
use Rattle.std.specs.Vec.{vec_capacity}
use Rattle.frame_store.specs.declared.grown.Grown.{Grown}
use Rattle.frame_store.specs.declared.older.Older.{Older}
use Rattle.frame_store.specs.declared.place.Place.{Place}
use Rattle.frame_store.specs.Chunks.{bytes_at, Extends, IsWithin}
use Rattle.frame_store.specs.Filling.{Filling}
use Rattle.frame_store.specs.Frames.{chunks, spare_bytes}
use Rattle.frame_store.specs.Store.{AreChunks, AreFilled, chunk_size, IsApart, IsReady}

-- bytes were written behind all others, at a place, and what was there stays
pub record HasWritten (older : Older) (old new : Grown) (bytes : List ℕ) (place : Place)
    : Type 0 where
  pub stand : AreChunks older new
  pub extends : Extends (chunks older old) (chunks older new)
  pub within : IsWithin (chunks older new) place
  pub there : bytes_at (chunks older new) place ≡ bytes
  pub apart : IsApart older place
  pub filled : AreFilled older new (old.total + length bytes)
  pub ready : IsReady older new
  pub spare : spare_bytes older old ≤ spare_bytes older new + length bytes
  pub index : new.index ≡ old.index
  pub total : new.total ≡ old.total

-- there may be more room, and else all is as before
pub record IsRoomier (old new : Grown) : Type 0 where
  pub staged : new.staged.bytes ≡ old.staged.bytes
  pub stages : old.staged.size ≤ new.staged.size
  pub younger : new.younger.items ≡ old.younger.items
  pub begins : vec_capacity old.younger ≤ vec_capacity new.younger
  pub aside : new.aside ≡ old.aside
  pub index : new.index.items ≡ old.index.items
  pub names : vec_capacity old.index ≤ vec_capacity new.index
  pub total : new.total ≡ old.total

-- the chunk aside is the one that was taken, or it stays since it holds less
abbrev pub IsTaken : Filling → Filling → Filling → ℕ → Type 0
IsTaken old new chunk len = ((chunk.size ≡ old.size) × (new.size ≡ 0) × (new.bytes ≡ []))
    ⊎ ((old.size < len) × (new ≡ old))

-- a chunk was taken that holds so many bytes, and there is room to stage what else it takes
pub record IsFresh (old new : Grown) (len : ℕ) (chunk : Filling) : Type 0 where
  pub empty : chunk.bytes ≡ []
  pub holds : len ≤ chunk.size
  pub large : chunk_size ≤ chunk.size
  pub stages : chunk.size ≤ len + new.staged.size
  pub staged : new.staged.bytes ≡ old.staged.bytes
  pub more : old.staged.size ≤ new.staged.size
  pub younger : new.younger ≡ old.younger
  -- the one aside is taken, or stays since it is too small
  pub aside : IsTaken old.aside new.aside chunk len
  pub index : new.index ≡ old.index
  pub total : new.total ≡ old.total
