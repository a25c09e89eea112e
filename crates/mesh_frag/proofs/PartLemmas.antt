-- What the parts of a packet that came say of its bytes.
use Rattle.std.proofs.Common.{◌≡◌, ◌<◌, ◌≤◌, ◌+◌, ◌^◌, ◌⊎◌, inl, inr, ℕ, zero, suc, Bool, true, false, cond, nat_eq, List, [], ◌∷◌, ◌++◌, length, Option, None, Some, IfSome, IsSome, option_map, option_and_then, refl, sym, ap, ap₂, ◌∙◌, subst, arith, length-append}
use Rattle.std.specs.List.{IsDistinct}
use Rattle.std.specs.Map.{keys_of, lookup}
use Rattle.std.specs.Option.{option_or}
use Rattle.std.proofs.lemmas.Bool.{false≢true, cases_lt, eqb-true, eq-eqb, ne_eqb}
use Rattle.std.proofs.lemmas.Map.Entries.{length-keys_of}
use Rattle.std.proofs.lemmas.Map.Made.{is_some-lookup}
use Rattle.std.proofs.lemmas.Map.Steps.{length-le_from_distinct_below}
use Rattle.mesh_model.specs.Fragments.Assembly.{bytes_below, if_so_many, whole_at, whole_of, whole_within}
use Rattle.mesh_frag.specs.Kept.{ArePlaces}

-- the parts that came, by place
abbrev Tails : Type 0
Tails = List (ℕ × List ℕ)

-- ---- places
-- places of one byte, each once, are few
pub few_places : (parts : Tails) → ArePlaces parts → IsDistinct nat_eq (keys_of parts) → length parts ≤ 256
few_places parts are once =
    subst (λ n. n ≤ 256) (length-keys_of parts)
    (length-le_from_distinct_below (keys_of parts) 256 once (λ q any. are q (is_some-lookup (nat_eq q) parts ∙ any)))

-- what is found in the first entries is found
found_in_front : (test : ℕ → Bool) (front back : Tails) → IsSome (lookup test front) → IsSome (lookup test (front ++ back))
found_in_front test [] back some = absurd (false≢true some)
found_in_front test (e ∷ front) back some =
    elim (test e.0) as (λ b. IsSome (cond b (Some e.1) (lookup test front)) → IsSome (cond b (Some e.1) (lookup test (front ++ back)))) [
      | true ↦ λ found. found
      | false ↦ found_in_front test front back
    ] some

-- the first of places are places
pub fewer : (front back : Tails) → ArePlaces (front ++ back) → ArePlaces front
fewer front back are = λ place found. are place (found_in_front (nat_eq place) front back found)

-- and so are they with one more
pub more : (parts new : Tails) (place : ℕ) (tail : List ℕ) → place < 2 ^ 8
    → ((q : ℕ) → lookup (nat_eq q) new ≡ cond (nat_eq place q) (Some tail) (lookup (nat_eq q) parts)) → ArePlaces parts → ArePlaces new
more parts new place tail small updates are = λ q found. go q (nat_eq place q) refl (subst IsSome (updates q) found)
  where
    go : (q : ℕ) (b : Bool) → nat_eq place q ≡ b → IsSome (cond b (Some tail) (lookup (nat_eq q) parts)) → q < 2 ^ 8
    go q true is found = subst (λ n. n < 2 ^ 8) (eqb-true place q is) small
    go q false other found = are q found

-- ---- bytes
-- the tails of some places with one more, where all are there
abbrev joined : Option (List ℕ) → Option (List ℕ) → Option (List ℕ)
joined below tail = option_and_then (λ bytes. option_map (λ more. bytes ++ more) tail) below

joined_none : (below : Option (List ℕ)) → joined below None ≡ None
joined_none None = refl
joined_none (Some bytes) = refl

-- bytes are no longer than themselves, nor than with more behind them
as_long : (bytes : List ℕ) (o : Option (List ℕ)) → o ≡ Some bytes → IfSome o (λ others. length bytes ≤ length others)
as_long bytes o is = let same : length bytes ≤ length bytes = omega arith in subst (λ x. IfSome x (λ others. length bytes ≤ length others)) (sym is) same

still_longer : (bytes : List ℕ) (below tail : Option (List ℕ)) → IfSome below (λ others. length bytes ≤ length others) → IfSome (joined below tail) (λ others. length bytes ≤ length others)
still_longer bytes None tail le = tt
still_longer bytes (Some others) None le = tt
still_longer bytes (Some others) (Some more) le = omega (arith, le, length-append others more)

module _ (parts : Tails) where
  -- where a place is missing, there are no bytes of more places
  pub lacking : (place count : ℕ) → lookup (nat_eq place) parts ≡ None → place < count → bytes_below parts count ≡ None
  lacking place zero none lt = absurd (omega (arith, lt))
  lacking place (suc count) none lt = go (cases_lt place count) (lacking place count none)
    where
      go : (place < count) ⊎ (count ≤ place) → (place < count → bytes_below parts count ≡ None) → bytes_below parts (suc count) ≡ None
      go (inl below) rest = ap (λ bytes. joined bytes (lookup (nat_eq count) parts)) (rest below)
      go (inr above) rest =
          let here : place ≡ count = omega (arith, lt, above) in
          ap (joined (bytes_below parts count)) (subst (λ n. lookup (nat_eq n) parts ≡ None) here none) ∙ joined_none (bytes_below parts count)

  -- the bytes of one place more
  pub one_more : (place : ℕ) (bytes tail : List ℕ) → bytes_below parts place ≡ Some bytes → lookup (nat_eq place) parts ≡ Some tail → bytes_below parts (suc place) ≡ Some (bytes ++ tail)
  one_more place bytes tail below found = ap₂ joined below found

  -- more places have no fewer bytes
  pub longer : (place count : ℕ) (bytes : List ℕ) → bytes_below parts place ≡ Some bytes → place ≤ count → IfSome (bytes_below parts count) (λ others. length bytes ≤ length others)
  longer place zero bytes is le = let here : place ≡ 0 = omega (arith, le) in as_long bytes (bytes_below parts 0) (subst (λ n. bytes_below parts n ≡ Some bytes) here is)
  longer place (suc count) bytes is le = go (cases_lt count place) (longer place count bytes is)
    where
      go : (count < place) ⊎ (place ≤ count) → (place ≤ count → IfSome (bytes_below parts count) (λ others. length bytes ≤ length others)) → IfSome (bytes_below parts (suc count)) (λ others. length bytes ≤ length others)
      go (inl here) rest = let same : place ≡ suc count = omega (arith, le, here) in as_long bytes (bytes_below parts (suc count)) (subst (λ n. bytes_below parts n ≡ Some bytes) same is)
      go (inr below) rest = still_longer bytes (bytes_below parts count) (lookup (nat_eq count) parts) (rest below)

  -- ---- the least count
  module _ (total : ℕ) where
    -- the bytes of so many first places are there, and aren't as long as the packet
    abbrev pub Differ : Option (List ℕ) → Type 0
    Differ bytes = IfSome bytes (λ others. length others ≡ total → ⊥)

    -- then they don't make it whole
    pub not_whole : (bytes : Option (List ℕ)) → Differ bytes → option_and_then (if_so_many total) bytes ≡ None
    not_whole None other = refl
    not_whole (Some bytes) other = ap (λ b. cond b (Some bytes) None) (ne_eqb (length bytes) total other)

    -- and if they are as long, they do
    pub just_whole : (bytes : List ℕ) → length bytes ≡ total → if_so_many total bytes ≡ Some bytes
    just_whole bytes same = ap (λ b. cond b (Some bytes) None) (eq-eqb (length bytes) total same)

    -- where no count makes the packet whole, it isn't
    pub none_whole : (count : ℕ) → ((c : ℕ) → c < count → whole_at total parts (suc c) ≡ None) → whole_within total parts count ≡ None
    none_whole zero none = refl
    none_whole (suc count) none = ap₂ option_or (none_whole count (λ c lt. none c (omega (arith, lt)))) (none count (omega arith))

    -- where one does, it is whole by the first
    pub first_whole : (place count : ℕ) (bytes : List ℕ) → ((c : ℕ) → c < place → whole_at total parts (suc c) ≡ None) → whole_at total parts (suc place) ≡ Some bytes → place < count
        → whole_within total parts count ≡ Some bytes
    first_whole place zero bytes none is lt = absurd (omega (arith, lt))
    first_whole place (suc count) bytes none is lt = go (cases_lt place count) (first_whole place count bytes none is)
      where
        go : (place < count) ⊎ (count ≤ place) → (place < count → whole_within total parts count ≡ Some bytes) → whole_within total parts (suc count) ≡ Some bytes
        go (inl below) rest = ap (λ o. option_or o (whole_at total parts (suc count))) (rest below)
        go (inr above) rest =
            let here : place ≡ count = omega (arith, lt, above) in
            ap (λ o. option_or o (whole_at total parts (suc count))) (none_whole count (λ c below. none c (omega (arith, below, here))))
            ∙ subst (λ n. whole_at total parts (suc n) ≡ Some bytes) here is

    -- ---- the search for it
    -- the first places, so many, are there, so many bytes are left of the packet behind them, and no count up to theirs makes it whole
    pub record FirstPlaces (place left : ℕ) : Type 0 where
      pub bytes : List ℕ
      pub there : bytes_below parts place ≡ Some bytes
      pub left_is : length bytes + left ≡ total
      pub none : (c : ℕ) → c < place → whole_at total parts (suc c) ≡ None

    module _ (place left : ℕ) (first : FirstPlaces place left) where
      -- where they are all, the packet isn't whole
      pub all_looked_at : 16 ≤ place → whole_of total parts ≡ None
      unfolding whole_of
      all_looked_at le = none_whole 16 (λ c lt. first.none c (omega (arith, le, lt)))

      -- nor where the next one is missing
      pub next_missing : lookup (nat_eq place) parts ≡ None → whole_of total parts ≡ None
      unfolding whole_of
      next_missing none = none_whole 16 (λ c lt. go c (cases_lt c place))
        where
          go : (c : ℕ) → (c < place) ⊎ (place ≤ c) → whole_at total parts (suc c) ≡ None
          go c (inl below) = first.none c below
          go c (inr above) = ap (option_and_then (if_so_many total)) (lacking place (suc c) none (omega (arith, above)))

      module _ (tail : List ℕ) (found : lookup (nat_eq place) parts ≡ Some tail) where
        with_next : bytes_below parts (suc place) ≡ Some (first.bytes ++ tail)
        with_next = one_more place first.bytes tail first.there found

        length_then : length (first.bytes ++ tail) + left ≡ total + length tail
        length_then = omega (arith, length-append first.bytes tail, first.left_is)

        -- nor where it is longer than what is left
        pub next_too_long : left < length tail → whole_of total parts ≡ None
        unfolding whole_of
        next_too_long gt = none_whole 16 (λ c lt. go c (cases_lt c place))
          where
            differ : (bytes : Option (List ℕ)) → IfSome bytes (λ others. length (first.bytes ++ tail) ≤ length others) → Differ bytes
            differ None le = tt
            differ (Some bytes) le = λ same. omega (arith, le, same, gt, length_then)

            go : (c : ℕ) → (c < place) ⊎ (place ≤ c) → whole_at total parts (suc c) ≡ None
            go c (inl below) = first.none c below
            go c (inr above) = not_whole (bytes_below parts (suc c)) (differ (bytes_below parts (suc c)) (longer (suc place) (suc c) (first.bytes ++ tail) with_next (omega (arith, above))))

        -- it is where nothing is left then
        pub next_makes_whole : place < 16 → length tail ≡ left → whole_of total parts ≡ bytes_below parts (suc place)
        unfolding whole_of
        next_makes_whole lt same =
            first_whole place 16 (first.bytes ++ tail) first.none
            (ap (option_and_then (if_so_many total)) with_next ∙ just_whole (first.bytes ++ tail) (omega (arith, length_then, same))) lt
            ∙ sym with_next

        -- else one more is looked at
        pub one_further : (rest : ℕ) → rest + length tail ≡ left → 0 < rest → FirstPlaces (suc place) rest
        one_further rest rest_is some = record {
          bytes = first.bytes ++ tail;
          there = with_next;
          left_is = omega (arith, length_then, rest_is);
          none = λ c lt. go c (cases_lt c place) lt;
        }
          where
            here : whole_at total parts (suc place) ≡ None
            here = ap (option_and_then (if_so_many total)) with_next ∙ not_whole (Some (first.bytes ++ tail)) (λ same. omega (arith, length_then, same, rest_is, some))

            go : (c : ℕ) → (c < place) ⊎ (place ≤ c) → c < suc place → whole_at total parts (suc c) ≡ None
            go c (inl below) lt = first.none c below
            go c (inr above) lt = let same : place ≡ c = omega (arith, above, lt) in subst (λ n. whole_at total parts (suc n) ≡ None) same here
