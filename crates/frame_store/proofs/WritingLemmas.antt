-- What the three ways to write bytes leave of the chunks.
use Rattle.std.proofs.Common.{◌≡◌, ℕ, zero, suc, ◌*◌, ◌+◌, ◌-◌, ◌<◌, ◌≤◌, List, [], ◌∷◌, ◌++◌, inl, inr, max, length, refl, ◌∙◌, arith, append_assoc}
use Rattle.std.proofs.Math.Seq.{get_or-append_seam}
use Rattle.std.proofs.lemmas.Grind.{common_steps}
use Rattle.frame_store.specs.declared.grown.Grown.{Grown}
use Rattle.frame_store.specs.declared.older.Older.{Older}
use Rattle.frame_store.specs.declared.place.Place.{Place}
use Rattle.frame_store.specs.Chunks.{chunk_at}
use Rattle.frame_store.specs.Filling.{Filling, rest}
use Rattle.frame_store.specs.Frames.{chunks, last_chunk, newest, with_staged}
use Rattle.frame_store.specs.Inner.{HasWritten, IsFresh, IsTaken}
use Rattle.frame_store.specs.Store.{AreChunks, AreFilled, begun, chunk_size, IsReady}
use Rattle.frame_store.proofs.ChunksLemmas.{extends_more, extends_youngest, last_pushed, youngest_at}

-- the youngest chunk takes the bytes
pub lengthens : (older : Older) (old new : Grown) (front : List Filling) (c d : Filling)
    (bytes : List ℕ) (place : Place)
    → AreChunks older old → AreFilled older old old.total → IsReady older new
    → old.younger.items ≡ front ++ c ∷ [] → new.younger.items ≡ front ++ d ∷ []
    → d ≡ record { bytes = c.bytes ++ bytes; size = c.size }
    → length bytes ≤ rest (newest older old)
    → new.staged ≡ old.staged → new.aside ≡ old.aside
    → new.index ≡ old.index → new.total ≡ old.total
    → place.chunk ≡ length older.closed.items + length old.younger.items
    → place.start ≡ length c.bytes → place.len ≡ length bytes
    → HasWritten older old new bytes place
lengthens older old new front c d bytes place stand filled ready before after e fits staged aside
    index total at from len =
    let was : newest older old ≡ c = rw before (last_pushed front c (with_staged older old)) in
    let is : newest older new ≡ d = rw after (last_pushed front d (with_staged older new)) in
    let was_alone : last_chunk old.younger.items older.last ≡ c
    = rw before (last_pushed front c older.last) in
    let alone : last_chunk new.younger.items older.last ≡ d
    = rw after (last_pushed front d older.last) in
    let size : d.size ≡ c.size = cc in
    let more : d.bytes ≡ c.bytes ++ bytes = cc in
    let long : length d.bytes ≡ length c.bytes + length bytes = grind (arith, common_steps) in
    let many : length new.younger.items ≡ length old.younger.items = grind (arith, common_steps) in
    let some_pushed : 0 < length old.younger.items = grind (arith, common_steps) in
    let there : (place.chunk < length (chunks older new))
    × (chunk_at (chunks older new) place.chunk ≡ d)
    = youngest_at older.closed.items front new.younger.items (with_staged older new) d
    place.chunk after (omega arith) in
    record {
      stand = record {
        fits = rw staged stand.fits;
        holds = rw (is, long, size) (omega (arith, rw was at stand.holds, rw was at fits));
        stages = rw (alone, staged, size) (omega (arith, long, rw was_alone at stand.stages));
        stages_aside = rw (aside, staged) stand.stages_aside;
        large = λ h. rw (is, size) (rw was at (stand.large (omega (arith, many, h))));
        large_aside = rw aside stand.large_aside;
        unused = rw aside stand.unused;
      };
      extends = rw staged (extends_youngest older.closed.items front old.younger.items
          new.younger.items
          (with_staged older old) c d bytes before after more);
      within = record { begun = there.0; filled = rw (there.1, long) (omega arith) };
      there = rw (there.1, more, from, len) (grind (arith, common_steps));
      apart = λ h. absurd (omega (arith, some_pushed));
      filled = rw (is, long, many) (omega (arith, rw was at filled));
      ready = ready;
      spare = rw (is, aside, size, was, long) (omega arith);
      index = index;
      total = total;
    }

-- the chunk aside holds no byte, and has its size, where it was taken or stays
taken : (old new c : Filling) (len staged : ℕ) → IsTaken old new c len
    → old.size ≤ staged → (0 < old.size → chunk_size ≤ old.size) → old.bytes ≡ []
    → (new.size ≤ staged) × (0 < new.size → chunk_size ≤ new.size) × (new.bytes ≡ [])
taken old new c len staged (inl t) fits large unused =
    (omega (arith, t.1), λ h. absurd (omega (arith, t.1)), t.2)
taken old new c len staged (inr t) fits large unused = rw t.1 (fits, large, unused)

-- what finds room in a chunk that is begun, or in the one that stays aside, found room before
taken_spare : (old new c : Filling) (len room : ℕ) → IsTaken old new c len → room < len
    → max room old.size ≤ max (c.size - len) new.size + len
taken_spare old new c len room (inl t) h = omega (arith, t.0)
taken_spare old new c len room (inr t) h = rw t.1 (omega arith)

-- chunks are filled where one more is begun with bytes that didn't fit the newest one
one_more : (n f size b total : ℕ) → (0 < n → chunk_size ≤ size) → size - f < b
    → n * (chunk_size + 1) + f ≤ 2 * total + (chunk_size + 1)
    → (n + 1) * (chunk_size + 1) + b ≤ 2 * (total + b) + (chunk_size + 1)
one_more zero f size b total large longer h = omega arith
one_more (suc n) f size b total large longer h = omega (arith, large (omega arith))

-- a chunk is begun with the bytes
pub begins : (older : Older) (old mid new : Grown) (c d : Filling) (bytes : List ℕ) (place : Place)
    → AreChunks older old → AreFilled older old old.total → IsReady older new
    → rest (newest older old) < length bytes
    → IsFresh old mid (length bytes) c
    → d ≡ record { bytes = c.bytes ++ bytes; size = c.size }
    → new.younger.items ≡ mid.younger.items ++ d ∷ []
    → new.staged ≡ mid.staged → new.aside ≡ mid.aside
    → new.index ≡ mid.index → new.total ≡ mid.total
    → place.chunk ≡ length older.closed.items + length mid.younger.items + 1
    → place.start ≡ 0 → place.len ≡ length bytes
    → HasWritten older old new bytes place
begins older old mid new c d bytes place stand filled ready longer fresh e after staged aside
    index total at from len =
    let size : d.size ≡ c.size = cc in
    let bare : d.bytes ≡ bytes = cc (fresh.empty) in
    let grew : new.younger.items ≡ old.younger.items ++ d ∷ [] = rw (← fresh.younger) after in
    let is : newest older new ≡ d
    = rw grew (last_pushed old.younger.items d (with_staged older new)) in
    let alone : last_chunk new.younger.items older.last ≡ d
    = rw grew (last_pushed old.younger.items d older.last) in
    let many : length new.younger.items ≡ length old.younger.items + 1
    = grind (arith, common_steps) in
    let behind : chunks older new ≡ chunks older old ++ d ∷ []
    = rw (
      grew,
      staged,
      fresh.staged,
      append_assoc older.closed.items (with_staged older old ∷ old.younger.items) (d ∷ []),
    ) refl in
    let others : length (chunks older old)
    ≡ length older.closed.items + length mid.younger.items + 1
    = rw fresh.younger (grind (arith, common_steps)) in
    let there : (place.chunk < length (chunks older new))
    × (chunk_at (chunks older new) place.chunk ≡ d)
    = rw (behind, at, ← others)
    (grind (arith, common_steps), get_or-append_seam (chunks older old) d [] _) in
    let left : (new.aside.size ≤ new.staged.size) × (0 < new.aside.size → chunk_size ≤ new.aside.size)
    × (new.aside.bytes ≡ [])
    = rw (aside, staged) (taken old.aside mid.aside c (length bytes) mid.staged.size fresh.aside
    (omega (arith, stand.stages_aside, fresh.more)) stand.large_aside stand.unused) in
    record {
      stand = record {
        fits = rw (staged, fresh.staged) stand.fits;
        holds = rw (is, size, bare) fresh.holds;
        stages = rw (alone, staged, size, bare) (omega (arith, fresh.stages));
        stages_aside = left.0;
        large = λ h. rw (is, size) fresh.large;
        large_aside = left.1;
        unused = left.2;
      };
      extends = rw behind (extends_more (chunks older old) d);
      within = record { begun = there.0; filled = rw (there.1, bare) (omega arith) };
      there = rw (there.1, bare, from, len) (grind (arith, common_steps));
      apart = λ h. absurd (omega arith);
      filled = rw (is, bare, many) (omega (
        arith,
        one_more (begun older old) (length (newest older old).bytes)
            (newest older old).size (length bytes) old.total stand.large longer filled,
      ));
      ready = ready;
      spare = rw (is, aside, size, bare)
          (taken_spare old.aside mid.aside c (length bytes) (rest (newest older old)) fresh.aside
          longer);
      index = index ∙ fresh.index;
      total = total ∙ fresh.total;
    }
