-- Places in chunks of which the last one takes more, or behind which one is begun.
use Rattle.std.proofs.Common.{◌≡◌, ℕ, ◌+◌, ◌-◌, ◌<◌, ◌≤◌, List, [], ◌∷◌, ◌++◌, length, take, drop, arith, append_assoc}
use Rattle.std.proofs.Math.Seq.{get_or-append_seam}
use Rattle.std.proofs.lemmas.Grind.{common_steps}
use Rattle.frame_store.specs.Chunks.{chunk_at, Extends}
use Rattle.frame_store.specs.Filling.{Filling}
use Rattle.frame_store.specs.Frames.{last_chunk}

-- the last of chunks is the one that was put behind the others
pub last_pushed : (xs : List Filling) (c other : Filling) → last_chunk (xs ++ c ∷ []) other ≡ c
last_pushed xs c other = grind (arith, common_steps)

-- bytes that stand in the front of a list stand in it
pub part_of_front : (xs more : List ℕ) (start len : ℕ) → start + len ≤ length xs
    → take len (drop start (xs ++ more)) ≡ take len (drop start xs)
part_of_front xs more start len h = grind (arith, common_steps)

-- a chunk behind the others leaves their places
pub extends_more : (xs : List Filling) (c : Filling) → Extends xs (xs ++ c ∷ [])
extends_more xs c place w = grind (arith, common_steps, w.begun, w.filled)

-- the last chunk takes more behind its bytes
pub extends_last : (xs : List Filling) (c d : Filling) (more : List ℕ)
    → d.bytes ≡ c.bytes ++ more → Extends (xs ++ c ∷ []) (xs ++ d ∷ [])
extends_last xs c d more e place w =
    grind (arith, common_steps, part_of_front, w.begun, w.filled, e)

-- the same where chunks stand in front
pub extends_youngest : (closed front old new : List Filling) (w c d : Filling) (more : List ℕ)
    → old ≡ front ++ c ∷ [] → new ≡ front ++ d ∷ [] → d.bytes ≡ c.bytes ++ more
    → Extends (closed ++ w ∷ old) (closed ++ w ∷ new)
extends_youngest closed front old new w c d more e f g =
    rw (
      e,
      f,
      ← append_assoc closed (w ∷ front) (c ∷ []),
      ← append_assoc closed (w ∷ front) (d ∷ []),
    )
    (extends_last (closed ++ w ∷ front) c d more g)

-- the youngest chunk stands at the number of those before it
pub youngest_at : (closed front new : List Filling) (w d : Filling) (n : ℕ)
    → new ≡ front ++ d ∷ [] → n ≡ length closed + length new
    → (n < length (closed ++ w ∷ new)) × (chunk_at (closed ++ w ∷ new) n ≡ d)
youngest_at closed front new w d n e f =
    rw (e, ← append_assoc closed (w ∷ front) (d ∷ []))
    (let m : n ≡ length (closed ++ w ∷ front) = grind (arith, common_steps, e, f) in
    rw m (grind (arith, common_steps), get_or-append_seam (closed ++ w ∷ front) d [] _))
