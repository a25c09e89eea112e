-- How many frames each link carried, as frames are entered.
use Rattle.std.proofs.Common.{◌≡◌, ℕ, zero, suc, ◌≤◌, List, [], ◌∷◌, ◌++◌, length, drop, slice_get, slice_set, Some, refl, sym, ap, ◌∙◌}
use Rattle.std.proofs.lemmas.List.{drop-append-le}
use Rattle.mesh_post.specs.declared.posted.Posted.{Posted}
use Rattle.mesh_post.specs.Refused.{with_turn, with_turns}
use Rattle.mesh_post.proofs.LookUps.{some_one}

-- some frames, and then some more
pub turns_both : (frames more : List Posted) (turns : List ℕ) → with_turns (frames ++ more) turns ≡ with_turns more (with_turns frames turns)
turns_both [] more turns = refl
turns_both (frame ∷ frames) more turns = turns_both frames more (with_turn frame.link turns)

-- the last of the frames from a place on
pub last_turn : (place : ℕ) (frames all : List Posted) (frame : Posted) (turns : List ℕ) → place ≤ length frames → all ≡ frames ++ frame ∷ []
    → with_turns (drop place all) turns ≡ with_turn frame.link (with_turns (drop place frames) turns)
last_turn place frames all frame turns low is =
    ap (λ l. with_turns (drop place l) turns) is
    ∙ ap (λ l. with_turns l turns) (drop-append-le place frames (frame ∷ []) low)
    ∙ turns_both (drop place frames) (frame ∷ []) turns

-- one more frame on a link of which the turn is known
pub turn_known : (turns : List ℕ) (way turn : ℕ) → slice_get turns way ≡ Some turn → slice_set turns way (suc turn) ≡ with_turn way turns
turn_known [] way turn found = refl
turn_known (t ∷ turns) zero turn found = ap (λ n. suc n ∷ turns) (sym (some_one t turn found))
turn_known (t ∷ turns) (suc way) turn found = ap (λ l. t ∷ l) (turn_known turns way turn found)
