-- The links that pass a test, one after another.
use Rattle.std.proofs.Common.{◌≡◌, ℕ, zero, suc, ◌+◌, ◌≤◌, Bool, true, false, cond, List, [], ◌∷◌, drop, length, slice_get, Option, Some, None, option_and_then, is_some, refl, sym, ap, ◌∙◌, arith}
use Rattle.std.specs.List.{filter}
use Rattle.mesh_post.specs.Sent.{if_passes}

-- the rest of a list begins with an item at its place
pub drop_there : {X : Type 0} (xs : List X) (i : ℕ) (x : X) → slice_get xs i ≡ Some x → drop i xs ≡ x ∷ drop (suc i) xs
drop_there [] i x e = cc
drop_there (y ∷ ys) zero x e = ap (λ z. z ∷ ys) (one y x e)
  where
    one : {X : Type 0} (a b : X) → Some a ≡ Some b → a ≡ b
    one a b e = cc
drop_there (y ∷ ys) (suc i) x e = drop_there ys i x e

-- past the end nothing is left
pub drop_past : {X : Type 0} (xs : List X) (i : ℕ) → slice_get xs i ≡ None → (drop i xs ≡ []) × (drop (suc i) xs ≡ [])
drop_past [] zero e = (refl, refl)
drop_past [] (suc i) e = (refl, refl)
drop_past (y ∷ ys) zero e = cc
drop_past (y ∷ ys) (suc i) e = drop_past ys i e

by_test : (test : ℕ → Bool) (way : ℕ) (ws : List ℕ) (b : Bool) → test way ≡ b → ((v : ℕ) → cond b (Some way) None ≡ Some v → filter test (way ∷ ws) ≡ v ∷ filter test ws) × (cond b (Some way) None ≡ None → filter test (way ∷ ws) ≡ filter test ws)
by_test test way ws true e = (λ v p. ap (λ b. cond b (way ∷ filter test ws) (filter test ws)) e ∙ ap (λ w. w ∷ filter test ws) (one way v p), λ p. cc)
  where
    one : (a b : ℕ) → Some a ≡ Some b → a ≡ b
    one a b e = cc
by_test test way ws false e = (λ v p. cc, λ p. ap (λ b. cond b (way ∷ filter test ws) (filter test ws)) e)

-- an item that passes is the next of those that pass; else they stay
next_chosen : (test : ℕ → Bool) (ws : List ℕ) (i : ℕ) (o : Option ℕ) → slice_get ws i ≡ o → ((v : ℕ) → option_and_then (if_passes test) o ≡ Some v → filter test (drop i ws) ≡ v ∷ filter test (drop (suc i) ws)) × (option_and_then (if_passes test) o ≡ None → filter test (drop i ws) ≡ filter test (drop (suc i) ws))
next_chosen test ws i None e = (λ v p. cc, λ p. let d = drop_past ws i e in ap (filter test) (d.0 ∙ sym d.1))
next_chosen test ws i (Some way) e =
    let d = ap (filter test) (drop_there ws i way e) in
    let t = by_test test way (drop (suc i) ws) (test way) refl in
    (λ v p. d ∙ t.0 v p, λ p. d ∙ t.1 p)

next_place : (i : ℕ) → suc i ≡ i + 1
next_place i = omega arith

pub chosen_one : (test : ℕ → Bool) (ws : List ℕ) (i v : ℕ) → option_and_then (if_passes test) (slice_get ws i) ≡ Some v → filter test (drop i ws) ≡ v ∷ filter test (drop (i + 1) ws)
chosen_one test ws i v p = (next_chosen test ws i (slice_get ws i) refl).0 v p ∙ ap (λ k. v ∷ filter test (drop k ws)) (next_place i)

pub chosen_none : (test : ℕ → Bool) (ws : List ℕ) (i : ℕ) → option_and_then (if_passes test) (slice_get ws i) ≡ None → filter test (drop i ws) ≡ filter test (drop (i + 1) ws)
chosen_none test ws i p = (next_chosen test ws i (slice_get ws i) refl).1 p ∙ ap (λ k. filter test (drop k ws)) (next_place i)

pub chosen_end : (test : ℕ → Bool) (ws : List ℕ) → filter test (drop (length ws) ws) ≡ []
chosen_end test ws = ap (filter test) (drop_all ws)
  where
    drop_all : (xs : List ℕ) → drop (length xs) xs ≡ []
    drop_all [] = refl
    drop_all (x ∷ xs) = drop_all xs

pub chosen_count : (test : ℕ → Bool) (ws : List ℕ) (i : ℕ) (o : Option ℕ) (b : Bool) → o ≡ option_and_then (if_passes test) (slice_get ws i) → is_some o ≡ b → length (filter test (drop i ws)) ≡ cond b 1 0 + length (filter test (drop (i + 1) ws))
chosen_count test ws i (Some v) true e s = ap length (chosen_one test ws i v (sym e)) ∙ omega arith
chosen_count test ws i (Some v) false e s = cc
chosen_count test ws i None true e s = cc
chosen_count test ws i None false e s = ap length (chosen_none test ws i (sym e)) ∙ omega arith

pub chosen_last : (test : ℕ → Bool) (ws : List ℕ) (i : ℕ) → i ≤ length ws → length ws ≤ i → filter test (drop i ws) ≡ []
chosen_last test ws i l m = let e : i ≡ length ws = omega (arith, l, m) in ap (λ k. filter test (drop k ws)) e ∙ chosen_end test ws
