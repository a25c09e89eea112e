-- How numbers meet lives: the three facts on which proofs rest, and nothing else of `meeting`.
use Rattle.std.proofs.Common.{◌≡◌, ℕ, ◌+◌, ◌<◌, ◌&&◌, ◌||◌, not, nat_le, Bool, true, false, List, [], ◌∷◌, arith, refl, sym}
use Rattle.std.proofs.lemmas.Bool.{leb-false, true≢false}
use Rattle.mesh_model.specs.Routes.Life.{HeardOgm, is_wild, may_restart, meeting, newest}

-- what is so and may not be isn't so and may be
not_both : (wild may : Bool) → (wild && not may) ≡ true → (wild && may) ≡ false
not_both true true e = absurd (true≢false (sym e))
not_both true false e = refl
not_both false may e = refl

neither : (wild may : Bool) → (wild && not may) ≡ false → (wild && may) ≡ false → wild ≡ false
neither true true timely same = same
neither true false timely same = timely
neither false may timely same = refl

first_not : (below above : Bool) → (below || above) ≡ false → below ≡ false
first_not true above e = e
first_not false above e = refl

module _ (moment number : ℕ) where
  -- without a life a number is on time
  pub meets_nothing : ((meeting moment number []).late ≡ false) × ((meeting moment number []).restart ≡ false)
  unfolding meeting
  meets_nothing = (refl, refl)

  module _ (alive : List HeardOgm) where
    -- a late number is no restart
    pub late_is_none : (meeting moment number alive).late ≡ true → (meeting moment number alive).restart ≡ false
    unfolding meeting
    late_is_none late = not_both (is_wild number alive) (may_restart moment alive) late

  -- a number that isn't wild is less than 64 below the newest
  tame : (alive : List HeardOgm) → is_wild number alive ≡ false → newest alive < number + 64
  tame [] off = omega arith
  tame (h ∷ older) off = leb-false (number + 64) (newest (h ∷ older)) (first_not (nat_le (number + 64) (newest (h ∷ older))) (nat_le (newest (h ∷ older) + 65536) number) off)

  module _ (alive : List HeardOgm) where
    -- a number on time is less than 64 below the newest
    pub meets_near : (meeting moment number alive).late ≡ false → (meeting moment number alive).restart ≡ false → newest alive < number + 64
    unfolding meeting
    meets_near timely same = tame alive (neither (is_wild number alive) (may_restart moment alive) timely same)
