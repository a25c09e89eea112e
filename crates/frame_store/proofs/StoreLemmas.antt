-- That a store stays one, and its frames, through a push and where what grew is brought to the
-- older chunks.
use Rattle.std.proofs.Common.{◌≡◌, ℕ, ◌+◌, ◌-◌, ◌<◌, ◌≤◌, List, [], ◌∷◌, ◌++◌, inl, inr, length, map, All, refl, ◌∙◌, arith, append_assoc, append-nil}
use Rattle.frame_store.proofs.ChunksLemmas.{last_pushed, youngest_at}
use Rattle.std.proofs.lemmas.Bool.{cases_lt}
use Rattle.std.proofs.lemmas.Grind.{common_steps}
use Rattle.std.proofs.lemmas.List.{map-append}
use Rattle.std.proofs.lemmas.List.Elements.{All-head, All-push, All-tail, All-weaker}
use Rattle.std.proofs.lemmas.List.Sums.{sum_by_push}
use Rattle.frame_store.specs.declared.grown.Grown.{Grown}
use Rattle.frame_store.specs.declared.older.Older.{Older}
use Rattle.frame_store.specs.declared.place.Place.{Place}
use Rattle.frame_store.specs.Chunks.{bytes_at, Extends, IsWithin}
use Rattle.frame_store.specs.Filling.{Filling}
use Rattle.frame_store.specs.Frames.{bytes_limit, chunks, frames, frames_limit, last_chunk, newest, Passes, with_staged}
use Rattle.frame_store.specs.Inner.{HasWritten, IsRoomier}
use Rattle.frame_store.specs.Store.{AreChunks, begun, IsApart, IsReady, IsStore, IsTail}

-- what is at places stays where chunks extend others
pub same_frames : (xs ys : List Filling) (places : List Place) → All (IsWithin xs) places
    → Extends xs ys → map (bytes_at ys) places ≡ map (bytes_at xs) places
same_frames xs ys [] kept extends = refl
same_frames xs ys (place ∷ places) kept extends =
    let here = (extends place (All-head (IsWithin xs) place places kept)).1 in
    let others = same_frames xs ys places (All-tail (IsWithin xs) place places kept) extends in
    cc

-- a frame stands behind the others
pub pushed : (older : Older) (old mid new : Grown) (bytes : List ℕ) (place : Place)
    → IsStore older old → HasWritten older old mid bytes place
    → new.staged ≡ mid.staged → new.younger ≡ mid.younger
    → new.index.items ≡ mid.index.items ++ place ∷ []
    → frames older new ≡ frames older old ++ bytes ∷ []
pushed older old mid new bytes place store wrote staged younger index =
    let same : chunks older new ≡ chunks older mid = rw (staged, younger) refl in
    let before = same_frames (chunks older old) (chunks older mid) old.index.items store.kept
    wrote.extends in
    rw (same, index, wrote.index, map-append) (rw (before, wrote.there) refl)

-- the chunks are those of a store where they are those of another
same_chunks : (older : Older) (old new : Grown) → AreChunks older old
    → new.staged.bytes ≡ old.staged.bytes → old.staged.size ≤ new.staged.size
    → new.younger.items ≡ old.younger.items → new.aside ≡ old.aside → AreChunks older new
same_chunks older old new stand staged more younger aside = record {
  fits = rw staged stand.fits;
  holds = rw (younger, staged) stand.holds;
  stages = rw younger (omega (arith, stand.stages));
  stages_aside = rw aside (omega (arith, stand.stages_aside));
  large = rw (younger, staged) stand.large;
  large_aside = rw aside stand.large_aside;
  unused = rw aside stand.unused;
}

-- more room leaves a store one, with its frames
pub roomier : (older : Older) (old new : Grown) → IsTail older old → IsRoomier old new
    → IsTail older new × (frames older new ≡ frames older old)
roomier older old new tail more =
    let same : chunks older new ≡ chunks older old = rw (more.staged, more.younger) refl in
    let list : frames older new ≡ frames older old = rw (same, more.index) refl in
    let ready : IsReady older new = record {
      closed = tail.ready.closed;
      younger = omega (arith, tail.ready.younger, more.begins);
    } in (
      record {
        ready = ready;
        store = record {
          stand = same_chunks older old new tail.store.stand more.staged more.stages more.younger
              more.aside;
          kept = rw (same, more.index) tail.store.kept;
          apart = rw more.index tail.store.apart;
          filled = rw (more.younger, more.staged, more.total) tail.store.filled;
          total = rw (list, more.total) tail.store.total;
          few = rw more.index tail.store.few;
          small = rw more.total tail.store.small;
          ready = λ _. ready;
        };
      },
      list,
    )

-- what doesn't reach a limit is below it
below : (limit n : ℕ) → (limit ≤ n → ⊥) → n < limit
below limit n h = elim (cases_lt n limit) [ inl lt ↦ lt | inr le ↦ absurd (h le) ]

-- what doesn't pass a limit is at most that
at_most : (n limit : ℕ) → (limit < n → ⊥) → n ≤ limit
at_most n limit h = elim (cases_lt limit n) [ inl lt ↦ absurd (h lt) | inr le ↦ le ]

-- a store with one more frame is one
pub stays : (older : Older) (old mid new : Grown) (bytes : List ℕ) (place : Place)
    → IsStore older old → (Passes (frames older old) (length bytes) → ⊥)
    → HasWritten older old mid bytes place
    → new.staged ≡ mid.staged → new.younger ≡ mid.younger → new.aside ≡ mid.aside
    → new.index.items ≡ mid.index.items ++ place ∷ []
    → new.total ≡ mid.total + length bytes
    → IsTail older new
stays older old mid new bytes place store within wrote staged younger aside index total =
    let same : chunks older new ≡ chunks older mid = rw (staged, younger) refl in
    let list : frames older new ≡ frames older old ++ bytes ∷ []
    = pushed older old mid new bytes place store wrote staged younger index in
    let ready : IsReady older new = record {
      closed = wrote.ready.closed;
      younger = rw younger wrote.ready.younger;
    } in
    let count : length (frames older old) ≡ length old.index.items = grind (arith, common_steps) in
    let few : length old.index.items < frames_limit
    = below frames_limit _ (λ h. within (inl (rw count h))) in
    let small : old.total + length bytes ≤ bytes_limit
    = at_most _ bytes_limit (λ h. within (inr (rw store.total at h))) in
    let there : All (IsWithin (chunks older mid)) old.index.items
    = All-weaker (IsWithin (chunks older old)) (IsWithin (chunks older mid))
    (λ p w. (wrote.extends p w).0) old.index.items store.kept in
    record {
      ready = ready;
      store = record {
        stand = same_chunks older mid new wrote.stand (rw staged refl) (rw staged (omega arith))
            (rw younger refl) aside;
        kept = rw (same, index, wrote.index) (All-push (IsWithin (chunks older mid)) old.index.items
            place there wrote.within);
        apart = rw (index, wrote.index) (All-push (IsApart older) old.index.items place store.apart
            wrote.apart);
        filled = rw (younger, staged, total, wrote.total) wrote.filled;
        total = rw (
          list,
          sum_by_push (length {A = ℕ}) (frames older old) bytes,
          total,
          wrote.total,
          store.total,
        ) refl;
        few = rw (index, wrote.index) (grind (arith, common_steps, few));
        small = rw (total, wrote.total) small;
        ready = λ _. ready;
      };
    }

-- the older chunks with what grew are the chunks that there were
settled_chunks : (older now : Older) (old new : Grown) (front : List Filling) (y : Filling)
    → old.younger.items ≡ front ++ y ∷ []
    → now.closed.items ≡ older.closed.items ++ with_staged older old ∷ front
    → now.last ≡ y → new.staged.bytes ≡ [] → new.younger.items ≡ []
    → chunks now new ≡ chunks older old
settled_chunks older now old new front y before closed last staged younger =
    rw (before, closed, last, staged, younger, append-nil)
    (append_assoc older.closed.items (with_staged older old ∷ front) (y ∷ []))

-- bringing what grew to the older chunks, of which there are younger ones
pub settles : (older now : Older) (old new : Grown) (front : List Filling) (y : Filling)
    → IsStore older old → IsReady now new
    → old.younger.items ≡ front ++ y ∷ []
    → now.closed.items ≡ older.closed.items ++ with_staged older old ∷ front
    → now.last ≡ y
    → new.staged.bytes ≡ [] → new.staged.size ≡ old.staged.size → new.younger.items ≡ []
    → new.aside ≡ old.aside → new.index ≡ old.index → new.total ≡ old.total
    → IsStore now new
settles older now old new front y store ready before closed last staged size younger aside index
    total =
    let same : chunks now new ≡ chunks older old
    = settled_chunks older now old new front y before closed last staged younger in
    let list : frames now new ≡ frames older old = rw (same, index) refl in
    let was : newest older old ≡ y = rw before (last_pushed front y (with_staged older old)) in
    let was_alone : last_chunk old.younger.items older.last ≡ y
    = rw before (last_pushed front y older.last) in
    let is : newest now new ≡ y = rw (younger, staged, last, append-nil) refl in
    let all : length now.closed.items ≡ begun older old
    = rw (closed, before) (grind (arith, common_steps)) in
    let many : begun now new ≡ begun older old = rw younger (omega (arith, all)) in
    record {
      stand = record {
        fits = rw (staged, last) (omega (arith, rw was at store.stand.holds));
        holds = rw is (rw was at store.stand.holds);
        stages = rw (younger, last, size) (rw was_alone at store.stand.stages);
        stages_aside = rw (aside, size) store.stand.stages_aside;
        large = λ h. rw is (rw was at (store.stand.large (rw many at h)));
        large_aside = rw aside store.stand.large_aside;
        unused = rw aside store.stand.unused;
      };
      kept = rw (same, index) store.kept;
      apart = rw index (All-weaker (IsWithin (chunks older old)) (IsApart now)
          (λ p w e. inl (rw last
          (let there = youngest_at older.closed.items front old.younger.items
          (with_staged older old) y p.chunk before (e ∙ all) in
          rw there.1 at w.filled))) old.index.items store.kept);
      filled = rw (is, many, total) (rw was at store.filled);
      total = rw (list, total) store.total;
      few = rw index store.few;
      small = rw total store.small;
      ready = λ _. ready;
    }
