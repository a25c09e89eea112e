-- Where a key stands in a list whose keys rise, or would stand. No public clause cites this file.
-- The main words are `IsThere` and `IsGap`.
use Rattle.std.specs.Prelude.{◌≡◌, ℕ, ◌<◌, ◌≤◌, List, length, slice_index_or}
use Rattle.std.specs.declared.cmp.Ordering.{Ordering}
use Rattle.std.specs.declared.cmp.Ordering.TheVariants.{Less, Greater}

-- the items before a place have lesser keys
abbrev pub AreBelow : {K X : Type 0} → (K → K → Ordering) → (X → K) → K → List X → ℕ → Type 0
AreBelow {K} {X} order key k items place =
    (i : ℕ) (other : X) → i < place → order (key (slice_index_or items i other)) k ≡ Less

-- the items from a place on have greater keys
abbrev pub AreAbove : {K X : Type 0} → (K → K → Ordering) → (X → K) → K → List X → ℕ → Type 0
AreAbove {K} {X} order key k items place = (i : ℕ) (other : X) → place ≤ i → i < length items →
    order (key (slice_index_or items i other)) k ≡ Greater

-- the item at a place has the key
pub record IsThere {K X : Type 0} (order : K → K → Ordering) (key : X → K) (k : K)
    (items : List X) (place : ℕ) : Type 0 where
  pub within : place < length items
  pub below : AreBelow order key k items place
  pub same : (other : X) → key (slice_index_or items place other) ≡ k

-- no item has the key, and one with it would stand at a place
pub record IsGap {K X : Type 0} (order : K → K → Ordering) (key : X → K) (k : K)
    (items : List X) (place : ℕ) : Type 0 where
  pub within : place ≤ length items
  pub below : AreBelow order key k items place
  pub above : AreAbove order key k items place
