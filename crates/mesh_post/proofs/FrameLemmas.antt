-- Frames as their words say them: how many there are, which stands at a place, and what more words,
-- bases and far sendings add.
use Rattle.std.proofs.Common.{◌≡◌, ℕ, zero, suc, ◌+◌, ◌*◌, ◌/◌, ◌%◌, ◌<◌, ◌≤◌, List, [], ◌∷◌, ◌++◌, length, nat_lt, slice_get, slice_index_or, option_map, unwrap_or, Option, Some, if◌then◌else◌, refl, ap, ◌∙◌, arith}
use Rattle.std.proofs.lemmas.List.{get_or_append_left}
use Rattle.std.proofs.lemmas.Nat.{div-add-mod', div_below, div-mul-add, mod-mul-add, mod_below}
use Rattle.std.proofs.lemmas.Option.{get_or_from_slice_get}
use Rattle.std.specs.BTreeMap.{BTreeMap, get}
use Rattle.std.specs.Ordering.{nat_cmp}
use Rattle.mesh_post.specs.declared.posted.Posted.{Posted}
use Rattle.mesh_post.specs.Posting.{block_size, far_behind, links_told, posted_at, posted_from, sending_by}

-- there are as many frames as words
pub from_length : (bases : List ℕ) (far : BTreeMap ℕ ℕ) (place : ℕ) (words : List ℕ) → length (posted_from bases far place words) ≡ length words
from_length bases far place [] = refl
from_length bases far place (w ∷ words) = ap suc (from_length bases far (suc place) words)

-- the frame at a place is what its word says
from_get : (bases : List ℕ) (far : BTreeMap ℕ ℕ) (place : ℕ) (words : List ℕ) (i : ℕ) → slice_get (posted_from bases far place words) i ≡ option_map (posted_at bases far (place + i)) (slice_get words i)
from_get bases far place [] i = refl
from_get bases far place (w ∷ words) zero = let e : place ≡ place + 0 = omega arith in ap (λ p. Some (posted_at bases far p w)) e
from_get bases far place (w ∷ words) (suc i) =
    let e : suc place + i ≡ place + suc i = omega arith in
    from_get bases far (suc place) words i ∙ ap (λ p. option_map (posted_at bases far p) (slice_get words i)) e

-- one more word is one more frame
from_more : (bases : List ℕ) (far : BTreeMap ℕ ℕ) (place : ℕ) (words : List ℕ) (w : ℕ) → posted_from bases far place (words ++ w ∷ []) ≡ posted_from bases far place words ++ posted_at bases far (place + length words) w ∷ []
from_more bases far place [] w = let e : place ≡ place + 0 = omega arith in ap (λ p. posted_at bases far p w ∷ []) e
from_more bases far place (v ∷ words) w =
    let e : suc place + length words ≡ place + suc (length words) = omega arith in
    ap (λ l. posted_at bases far place v ∷ l) (from_more bases far (suc place) words w ∙ ap (λ p. posted_from bases far (suc place) words ++ posted_at bases far p w ∷ []) e)

-- more bases, and other far sendings of later frames, change no frame
at_grown : (bases more : List ℕ) (far new : BTreeMap ℕ ℕ) (place w : ℕ) → place < block_size * length bases → get nat_cmp new place ≡ get nat_cmp far place
    → posted_at (bases ++ more) new place w ≡ posted_at bases far place w
at_grown bases more far new place w low same =
    let b = get_or_append_left bases more 0 (place / block_size) (div_below place block_size (length bases) (omega arith) (omega (arith, low))) in
    ap (λ base. posted_by base (get nat_cmp new place)) b ∙ ap (posted_by (slice_index_or bases (place / block_size) 0)) same
  where
    posted_by : ℕ → Option ℕ → Posted
    posted_by base found = record {
      link = w % links_told;
      sending = if nat_lt (w / links_told) far_behind then base + w / links_told else unwrap_or found 0;
    }

from_grown : (bases more : List ℕ) (far new : BTreeMap ℕ ℕ) (place : ℕ) (words : List ℕ) → place + length words ≤ block_size * length bases
    → ((other : ℕ) → other < place + length words → get nat_cmp new other ≡ get nat_cmp far other)
    → posted_from (bases ++ more) new place words ≡ posted_from bases far place words
from_grown bases more far new place [] low same = refl
from_grown bases more far new place (w ∷ words) low same =
    let first = at_grown bases more far new place w (omega (arith, low)) (same place (omega arith)) in
    let rest = from_grown bases more far new (suc place) words (omega (arith, low)) (λ other l. same other (omega (arith, l))) in
    ap (λ f. f ∷ posted_from (bases ++ more) new (suc place) words) first ∙ ap (λ l. posted_at bases far place w ∷ l) rest

-- more bases, and far sendings of later places, change none of the frames
pub from_kept : (bases more grown : List ℕ) (far new : BTreeMap ℕ ℕ) (words : List ℕ) → grown ≡ bases ++ more → length words ≤ block_size * length bases
    → ((other : ℕ) → other < length words → get nat_cmp new other ≡ get nat_cmp far other)
    → posted_from grown new 0 words ≡ posted_from bases far 0 words
from_kept bases more grown far new words is low same =
    ap (λ l. posted_from l new 0 words) is
    ∙ from_grown bases more far new 0 words (omega (arith, low)) (λ other l. same other (omega (arith, l)))

-- the frame at a place of all words, and one more behind them
pub all_get : (bases : List ℕ) (far : BTreeMap ℕ ℕ) (words : List ℕ) (i : ℕ) → slice_get (posted_from bases far 0 words) i ≡ option_map (posted_at bases far i) (slice_get words i)
all_get bases far words i = let e : 0 + i ≡ i = omega arith in from_get bases far 0 words i ∙ ap (λ p. option_map (posted_at bases far p) (slice_get words i)) e

pub all_more : (bases : List ℕ) (far : BTreeMap ℕ ℕ) (words : List ℕ) (w : ℕ) → posted_from bases far 0 (words ++ w ∷ []) ≡ posted_from bases far 0 words ++ posted_at bases far (length words) w ∷ []
all_more bases far words w = let e : 0 + length words ≡ length words = omega arith in from_more bases far 0 words w ∙ ap (λ p. posted_from bases far 0 words ++ posted_at bases far p w ∷ []) e

-- a word says the frame of which it is made
pub word_says : (bases : List ℕ) (far : BTreeMap ℕ ℕ) (place base behind : ℕ) (posted : Posted) → posted.link < links_told → slice_get bases (place / block_size) ≡ Some base
    → sending_by base far place behind ≡ posted.sending → posted_at bases far place (behind * links_told + posted.link) ≡ posted
word_says bases far place base behind posted low found is =
    let link = mod-mul-add behind links_told posted.link low in
    let back = div-mul-add behind links_told posted.link low in
    let b = get_or_from_slice_get bases (place / block_size) base 0 found in
    ap (λ l. record { link = l; sending = sending_by (slice_index_or bases (place / block_size) 0) far place ((behind * links_told + posted.link) / links_told) }) link
    ∙ ap (λ s. record { link = posted.link; sending = s }) (ap (λ d. sending_by (slice_index_or bases (place / block_size) 0) far place d) back ∙ ap (λ d. sending_by d far place behind) b ∙ is)

-- a place whose block has its base is among those that the bases reach
pub in_block : (place blocks : ℕ) → place / block_size < blocks → place + 1 ≤ block_size * blocks
in_block place blocks low =
    let d = div-add-mod' place block_size in
    let m = mod_below place block_size (omega arith) in
    omega (arith, d, m, low)
