-- What a store is seen as: the list of its frames, and how many more frames and bytes find room
-- without more memory. A store keeps 4,194,304 frames and 536,870,912 bytes of them at most. The
-- main word is `frames`.
use Rattle.std.specs.Prelude.{◌<◌, ◌≤◌, ◌+◌, ◌-◌, ◌++◌, ◌∷◌, ◌⊎◌, ℕ, List, length, map, max, slice_index_or, sum_by}
use Rattle.std.specs.Vec.{vec_len, vec_capacity}
use Rattle.frame_store.specs.declared.grown.Grown.{Grown}
use Rattle.frame_store.specs.declared.older.Older.{Older}
use Rattle.frame_store.specs.Chunks.{bytes_at}
use Rattle.frame_store.specs.Filling.{Filling, rest}

-- the last older chunk, with what is staged behind its bytes
abbrev pub with_staged : Older → Grown → Filling
with_staged older grown =
    record { bytes = older.last.bytes ++ grown.staged.bytes; size = older.last.size }

-- all chunks, in the order in which they were begun
abbrev pub chunks : Older → Grown → List Filling
chunks older grown = older.closed.items ++ with_staged older grown ∷ grown.younger.items

-- the frames, in the order in which they were pushed
abbrev pub frames : Older → Grown → List (List ℕ)
frames older grown = map (bytes_at (chunks older grown)) grown.index.items

-- the last of chunks, or another where there are none
abbrev pub last_chunk : List Filling → Filling → Filling
last_chunk younger other = slice_index_or younger (length younger - 1) other

-- the chunk that was begun last
abbrev pub newest : Older → Grown → Filling
newest older grown = last_chunk grown.younger.items (with_staged older grown)

-- how many more frames find room
abbrev pub spare_frames : Grown → ℕ
spare_frames grown = vec_capacity grown.index - vec_len grown.index

-- how many more bytes find room: in the newest chunk, or in the one that stands aside
abbrev pub spare_bytes : Older → Grown → ℕ
spare_bytes older grown = max (rest (newest older grown)) grown.aside.size

-- the most frames
abbrev pub frames_limit : ℕ
frames_limit = 4194304

-- the most bytes of frames
abbrev pub bytes_limit : ℕ
bytes_limit = 536870912

-- one more frame, of so many bytes, would pass a limit
abbrev pub Passes : List (List ℕ) → ℕ → Type 0
Passes list n = (frames_limit ≤ length list) ⊎ (bytes_limit < sum_by length list + n)
