-- What a net keeps of the sendings before the step under way: their bytes in a store of frames, and
-- their roots beside it, in the same order. The main word is `kept_sendings`.
use Rattle.std.specs.Prelude.{◌≡◌, ℕ, List, [], ◌∷◌, length}
use Rattle.frame_store.specs.declared.store.FrameStore.{FrameStore}
use Rattle.frame_store.specs.Frames.{frames}
use Rattle.frame_store.specs.Store.{IsStore}
use Rattle.mesh_post.specs.declared.row.Sending.{Sending}

-- sendings of these bytes and these roots
abbrev pub sendings_of : List (List ℕ) → List ℕ → List Sending
sendings_of [] roots = []
sendings_of (bytes ∷ more) [] = []
sendings_of (bytes ∷ more) (root ∷ roots) =
    record { root = root; bytes = bytes } ∷ sendings_of more roots

-- the sendings whose bytes stand in a store, with these roots
abbrev pub kept_sendings : FrameStore → List ℕ → List Sending
kept_sendings store roots = sendings_of (frames store.older store.grown) roots

-- each frame of a store has its root
pub record IsKept (store : FrameStore) (roots : List ℕ) : Type 0 where
  pub stands : IsStore store.older store.grown
  pub count : length roots ≡ length (frames store.older store.grown)
