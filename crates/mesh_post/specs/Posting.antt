-- How link frames that were sent are kept, in the order of sending: for each frame a word says its
-- link, and how far its sending is behind the base of its block. Where that is too far, the sending
-- stands apart. The main word is `posted_from`.
use Rattle.std.specs.Prelude.{◌≡◌, ℕ, suc, ◌+◌, ◌/◌, ◌%◌, ◌<◌, nat_lt, List, [], ◌∷◌, slice_get, slice_index_or, Some, unwrap_or, if◌then◌else◌}
use Rattle.std.specs.BTreeMap.{BTreeMap, get}
use Rattle.std.specs.Ordering.{nat_cmp}
use Rattle.mesh_post.specs.declared.posted.Posted.{Posted}

-- how many links a word can tell apart
abbrev pub links_told : ℕ
links_told = 512

-- how many sendings a base can tell apart
abbrev pub sendings_told : ℕ
sendings_told = 8388608

-- how many frames a block has
abbrev pub block_size : ℕ
block_size = 64

-- a sending that is so far behind its base, or further, stands apart
abbrev pub far_behind : ℕ
far_behind = 127

-- the sending of the frame at a place, which is so far behind its base
abbrev pub sending_by : (base : ℕ) → (far : BTreeMap ℕ ℕ) → (place behind : ℕ) → ℕ
sending_by base far place behind =
    if nat_lt behind far_behind then base + behind else unwrap_or (get nat_cmp far place) 0

-- the frame whose word stands at a place
abbrev pub posted_at : (bases : List ℕ) → (far : BTreeMap ℕ ℕ) → (place word : ℕ) → Posted
posted_at bases far place word = record {
  link = word % links_told;
  sending = sending_by (slice_index_or bases (place / block_size) 0) far place (word / links_told);
}

-- the frames whose words stand from a place on
abbrev pub posted_from : (bases : List ℕ) → (far : BTreeMap ℕ ℕ) → (place : ℕ) → List ℕ
    → List Posted
posted_from bases far place [] = []
posted_from bases far place (word ∷ words) =
    posted_at bases far place word ∷ posted_from bases far (suc place) words

-- each base is a sending that can be told
abbrev pub AreTold : List ℕ → Type 0
AreTold bases = (block base : ℕ) → slice_get bases block ≡ Some base → base < sendings_told
