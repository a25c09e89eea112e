-- How the commits of a node stay numbered by its logs, as one goes on and as another begins.
use Rattle.std.proofs.Common.{◌≡◌, ◌⊎◌, inl, inr, ⊎_elim, ℕ, zero, suc, ◌+◌, ◌-◌, ◌%◌, ◌<◌, ◌≤◌, ◌||◌, ◌++◌, nat_eq, nat_le, nat_lt, Bool, true, false, cond, List, [], ◌∷◌, length, slice_get, Option, Some, None, refl, sym, ap, ◌∙◌, subst, arith}
use Rattle.std.specs.Option.{option_or}
use Rattle.std.proofs.lemmas.Bool.{and_from, and_parts, true≢false}
use Rattle.std.proofs.lemmas.Bool.Decides.{nat_tests}
use Rattle.std.proofs.lemmas.List.Folds.{find-append}
use Rattle.std.proofs.lemmas.Option.{slice_get_within}
use Rattle.mesh_model.specs.Commits.Versions.{commit_numbered, first_commit}
use Rattle.mesh_model.specs.Tables.Versions.{Version, next_byte}
use Rattle.tt_local.specs.Runs.{AreNumbered, IsAmong, is_in, is_kept, run_of}
use Rattle.tt_local.specs.declared.run.Run.{Run}
use Rattle.tt_local.proofs.NumberedLemmas.{from_end, newest_or_not}

-- ---- the numbers of a log
pub in_from : (number : ℕ) (run : Run) → run.first ≤ number → number < run.first + run.count → is_in number run ≡ true
in_from number run low high = and_from (nat_le run.first number) (nat_lt (number - run.first) run.count) (grind (arith, nat_tests, low)) (grind (arith, nat_tests, low, high))

pub in_bounds : (number : ℕ) (run : Run) → is_in number run ≡ true → (run.first ≤ number) × (number < run.first + run.count)
in_bounds number run is =
    let p = and_parts (nat_le run.first number) (nat_lt (number - run.first) run.count) is in
    let low : run.first ≤ number = grind (arith, nat_tests, p.0) in
    (low, grind (arith, nat_tests, low, p.1))

-- ---- the log of a number
pub found_among : (number : ℕ) (runs : List Run) (run : Run) → run_of number runs ≡ Some run → IsAmong run runs × (is_in number run ≡ true)
found_among number [] run h = cc
found_among number (r ∷ runs) run h = go (found_among number runs run) (is_in number r) refl h
  where
    go : (run_of number runs ≡ Some run → IsAmong run runs × (is_in number run ≡ true)) → (b : Bool) → is_in number r ≡ b → cond b (Some r) (run_of number runs) ≡ Some run → IsAmong run (r ∷ runs) × (is_in number run ≡ true)
    go before true is found =
        let same : r ≡ run = cc in
        ((0, ap Some same), subst (λ (x : Run). is_in number x ≡ true) same is)
    go before false is found =
        let rest = before found in
        ((suc rest.0.0, rest.0.1), rest.1)

-- a number of no log is of none of them
pub none_among : (number : ℕ) (runs : List Run) (run : Run) → run_of number runs ≡ None → IsAmong run runs → is_in number run ≡ false
none_among number [] run none there = cc
none_among number (r ∷ runs) run none there = go (none_among number runs run) (is_in number r) refl none there
  where
    at : (run_of number runs ≡ None → IsAmong run runs → is_in number run ≡ false) → (place : ℕ) → slice_get (r ∷ runs) place ≡ Some run → is_in number r ≡ false → run_of number runs ≡ None → is_in number run ≡ false
    at before zero h is rest = let same : r ≡ run = cc in subst (λ (x : Run). is_in number x ≡ false) same is
    at before (suc place) h is rest = before rest (place, h)

    go : (run_of number runs ≡ None → IsAmong run runs → is_in number run ≡ false) → (b : Bool) → is_in number r ≡ b → cond b (Some r) (run_of number runs) ≡ None → IsAmong run (r ∷ runs) → is_in number run ≡ false
    go before true is none there = cc
    go before false is none there = at before there.0 there.1 is none

-- where a number is of no log of a longer list
none_split : (number : ℕ) (runs : List Run) (run : Run) → run_of number (runs ++ run ∷ []) ≡ None → (run_of number runs ≡ None) × (is_in number run ≡ false)
none_split number runs run none = go (run_of number runs) (is_in number run) (sym (find-append (λ r. is_in number r) runs (run ∷ [])) ∙ none)
  where
    go : (o : Option Run) (b : Bool) → option_or o (cond b (Some run) None) ≡ None → (o ≡ None) × (b ≡ false)
    go None true h = cc
    go None false h = (refl, refl)
    go (Some r) b h = cc

pub none_join : (number : ℕ) (runs : List Run) (run : Run) → run_of number runs ≡ None → is_in number run ≡ false → run_of number (runs ++ run ∷ []) ≡ None
none_join number runs run none off = find-append (λ r. is_in number r) runs (run ∷ [])
    ∙ ap (λ o. option_or o (cond (is_in number run) (Some run) None)) none ∙ ap (λ b. cond b (Some run) None) off

-- ---- the logs before the last
-- one of them stays
pub place_still : (runs : List Run) (last run : Run) (place : ℕ) → slice_get runs place ≡ Some run → slice_get (runs ++ last ∷ []) place ≡ Some run
place_still [] last run place h = cc
place_still (r ∷ runs) last run zero h = h
place_still (r ∷ runs) last run (suc place) h = place_still runs last run place h

pub there_still : (runs : List Run) (run last : Run) → IsAmong run runs → IsAmong run (runs ++ last ∷ [])
there_still runs run last there = (there.0, place_still runs last run there.0 there.1)

pub last_there : (runs : List Run) (last : Run) → slice_get (runs ++ last ∷ []) (length runs) ≡ Some last
last_there [] last = refl
last_there (r ∷ runs) last = last_there runs last

-- a log of these is the last or one before it
pub among_end : (runs : List Run) (last run : Run) → IsAmong run (runs ++ last ∷ []) → (run ≡ last) ⊎ IsAmong run runs
among_end runs last run there = ⊎_elim (λ p. inl p.1) (λ h. inr (there.0, h)) (from_end runs last run there.0 there.1)

-- each ends before the last begins
pub ends_before : (runs : List Run) (last : Run) (cs : List Version) → AreNumbered (runs ++ last ∷ []) cs → (run : Run) → IsAmong run runs → run.first + run.count ≤ last.first
ends_before runs last cs are run there =
    let within = slice_get_within runs there.0 run there.1 in
    are.ascending there.0 (length runs) run last within (place_still runs last run there.0 there.1) (last_there runs last)

-- ---- one more log
-- logs that end by a number, and another that begins there
ascend_on : (runs : List Run) (last : Run) → ((place later : ℕ) (run next : Run) → place < later → slice_get runs place ≡ Some run → slice_get runs later ≡ Some next → run.first + run.count ≤ next.first)
    → ((run : Run) → IsAmong run runs → run.first + run.count ≤ last.first)
    → (place later : ℕ) (run next : Run) → place < later → slice_get (runs ++ last ∷ []) place ≡ Some run → slice_get (runs ++ last ∷ []) later ≡ Some next → run.first + run.count ≤ next.first
ascend_on runs last before ends place later run next less here there = go (from_end runs last run place here) (from_end runs last next later there)
  where
    go : ((place ≡ length runs) × (run ≡ last)) ⊎ (slice_get runs place ≡ Some run) → ((later ≡ length runs) × (next ≡ last)) ⊎ (slice_get runs later ≡ Some next) → run.first + run.count ≤ next.first
    go (inl p) (inl q) = absurd (omega (arith, less, p.0, q.0))
    go (inl p) (inr h) = let within = slice_get_within runs later next h in absurd (omega (arith, less, p.0, within))
    go (inr g) (inl q) = subst (λ (x : Run). run.first + run.count ≤ x.first) (sym q.1) (ends run (place, g))
    go (inr g) (inr h) = before place later run next less g h

zeroth_on : (runs : List Run) (last : Run) → (run : Run) × (slice_get runs 0 ≡ Some run) × (is_in 0 run ≡ true) → (run : Run) × (slice_get (runs ++ last ∷ []) 0 ≡ Some run) × (is_in 0 run ≡ true)
zeroth_on runs last first = (first.0, place_still runs last first.0 0 first.1, first.2)

-- ---- the log goes on
module _ (runs : List Run) (start count : ℕ) (c : Version) (cs : List Version) where
  abbrev pub was : Run
  was = record { first = start; count = count }

  abbrev pub now : Run
  now = record { first = start; count = count + 1 }

  in_old : length cs ≡ start + count → (number : ℕ) → number < length cs → is_in number now ≡ true → is_in number was ≡ true
  in_old long number below is = let p = in_bounds number now is in in_from number was p.0 (omega (arith, below, long))

  not_old : (number : ℕ) → is_in number now ≡ false → is_in number was ≡ false
  not_old number off = go (is_in number was) refl
    where
      go : (b : Bool) → is_in number was ≡ b → b ≡ false
      go true is = let p = in_bounds number was is in let high = p.1 in absurd (true≢false (sym (in_from number now p.0 (omega (arith, high))) ∙ off))
      go false is = refl

  zeroth_still : (run : Run) × (slice_get (runs ++ was ∷ []) 0 ≡ Some run) × (is_in 0 run ≡ true) → (run : Run) × (slice_get (runs ++ now ∷ []) 0 ≡ Some run) × (is_in 0 run ≡ true)
  zeroth_still first = go (from_end runs was first.0 0 first.1)
    where
      go : ((0 ≡ length runs) × (first.0 ≡ was)) ⊎ (slice_get runs 0 ≡ Some first.0) → (run : Run) × (slice_get (runs ++ now ∷ []) 0 ≡ Some run) × (is_in 0 run ≡ true)
      go (inl p) =
          let there = in_bounds 0 was (subst (λ (x : Run). is_in 0 x ≡ true) p.1 first.2) in
          let high = there.1 in
          (now, subst (λ k. slice_get (runs ++ now ∷ []) k ≡ Some now) (sym p.0) (last_there runs now), in_from 0 now there.0 (omega (arith, high)))
      go (inr h) = (first.0, place_still runs now first.0 0 h, first.2)

  pub goes_on : length cs ≡ start + count → 0 < count → AreNumbered (runs ++ was ∷ []) cs → ((last : Version) → commit_numbered (start + count - 1) cs ≡ Some last → c.byte ≡ next_byte last.byte) → ((number : ℕ) → number < length cs → (v : Version) × (commit_numbered number cs ≡ Some v)) → AreNumbered (runs ++ now ∷ []) (c ∷ cs)
  goes_on long some are next made = record {
    zeroth = zeroth_still are.zeroth;
    begins = λ run version there at. ⊎_elim
        (λ is. first_of now version (are.begins was version (length runs, last_there runs was)) (subst (λ (x : Run). commit_numbered x.first (c ∷ cs) ≡ Some version) is at))
        (λ old. let low = ends_before runs was cs are run old in older_first run version low (are.begins run version (there_still runs run was old)) at)
        (among_end runs now run there);
    within = λ run number version there is at. ⊎_elim
        (λ same. subst (λ (x : Run). version.byte ≡ (number - x.first) % 256) (sym same) (in_last number version (subst (λ (x : Run). is_in number x ≡ true) same is) (newest_or_not c version number cs at)))
        (λ old. let ends = ends_before runs was cs are run old in let high = (in_bounds number run is).1 in
        older number version run (newest_or_not c version number cs at) (omega (arith, ends, high, long)) (are.within run number version (there_still runs run was old) is))
        (among_end runs now run there);
    left_out = λ number version none at.
        let p = none_split number runs now none in
        out number version (are.left_out number version (none_join number runs was p.0 (not_old number p.1))) p.1 (newest_or_not c version number cs at);
    ascending = ascend_on runs now (λ place later run next less here there. are.ascending place later run next less (place_still runs was run place here) (place_still runs was next later there)) (ends_before runs was cs are);
  }
    where
      first_of : (run : Run) (version : Version) → (commit_numbered start cs ≡ Some version → version ≡ first_commit) → commit_numbered start (c ∷ cs) ≡ Some version → version ≡ first_commit
      first_of run version before at = go (newest_or_not c version start cs at)
        where
          go : ((start ≡ length cs) × (version ≡ c)) ⊎ ((start < length cs) × (commit_numbered start cs ≡ Some version)) → version ≡ first_commit
          go (inl p) = let same = p.0 in absurd (omega (arith, same, long, some))
          go (inr p) = before p.1

      older_first : (run : Run) (version : Version) → run.first + run.count ≤ start → (commit_numbered run.first cs ≡ Some version → version ≡ first_commit) → commit_numbered run.first (c ∷ cs) ≡ Some version → version ≡ first_commit
      older_first run version low before at = go (newest_or_not c version run.first cs at)
        where
          go : ((run.first ≡ length cs) × (version ≡ c)) ⊎ ((run.first < length cs) × (commit_numbered run.first cs ≡ Some version)) → version ≡ first_commit
          go (inl p) = let same = p.0 in absurd (omega (arith, same, long, some, low))
          go (inr p) = before p.1

      in_last : (number : ℕ) (version : Version) → is_in number now ≡ true → ((number ≡ length cs) × (version ≡ c)) ⊎ ((number < length cs) × (commit_numbered number cs ≡ Some version)) → version.byte ≡ (number - start) % 256
      in_last number version is (inl p) =
          let there = made (start + count - 1) (omega (arith, long, some)) in
          let low : is_in (start + count - 1) was ≡ true = in_from (start + count - 1) was (omega (arith, some)) (omega (arith, some)) in
          let before : there.0.byte ≡ (start + count - 1 - start) % 256 = are.within was (start + count - 1) there.0 (length runs, last_there runs was) low there.1 in
          let same = p.0 in
          let step : (there.0.byte + 1) % 256 ≡ (number - start) % 256 = omega (arith, before, same, long, some) in
          ap (λ (v : Version). v.byte) p.1 ∙ next there.0 there.1 ∙ step
      in_last number version is (inr p) = are.within was number version (length runs, last_there runs was) (in_old long number p.0 is) p.1

      older : (number : ℕ) (version : Version) (run : Run) → ((number ≡ length cs) × (version ≡ c)) ⊎ ((number < length cs) × (commit_numbered number cs ≡ Some version)) → number < length cs → (commit_numbered number cs ≡ Some version → version.byte ≡ (number - run.first) % 256) → version.byte ≡ (number - run.first) % 256
      older number version run (inl p) below before = let same = p.0 in absurd (omega (arith, below, same))
      older number version run (inr p) below before = before p.1

      out : (number : ℕ) (version : Version) → (commit_numbered number cs ≡ Some version → version ≡ first_commit) → is_in number now ≡ false → ((number ≡ length cs) × (version ≡ c)) ⊎ ((number < length cs) × (commit_numbered number cs ≡ Some version)) → version ≡ first_commit
      out number version before off (inl p) = let same = p.0 in absurd (true≢false (sym (in_from number now (omega (arith, same, long)) (omega (arith, same, long))) ∙ off))
      out number version before off (inr p) = before p.1

-- ---- another log begins
module _ (runs : List Run) (cs : List Version) where
  abbrev pub next : Run
  next = record { first = length cs; count = 1 }

  pub begins_anew : AreNumbered runs cs → ((run : Run) → IsAmong run runs → run.first + run.count ≤ length cs) → ((run : Run) → IsAmong run runs → run.first < length cs) → AreNumbered (runs ++ next ∷ []) (first_commit ∷ cs)
  begins_anew are ends starts = record {
    zeroth = zeroth_on runs next are.zeroth;
    begins = λ run version there at. ⊎_elim
        (λ is. is_first run version (ap (λ (x : Run). x.first) is) (newest_or_not first_commit version run.first cs at))
        (λ old. let low = starts run old in let p = older run.first version low (newest_or_not first_commit version run.first cs at) in are.begins run version old p)
        (among_end runs next run there);
    within = λ run number version there is at. ⊎_elim
        (λ same. in_next run number version same is (newest_or_not first_commit version number cs at))
        (λ old. let low = ends run old in let high = (in_bounds number run is).1 in are.within run number version old is (older number version (omega (arith, low, high)) (newest_or_not first_commit version number cs at)))
        (among_end runs next run there);
    left_out = λ number version none at. out number version (none_split number runs next none).0 (newest_or_not first_commit version number cs at);
    ascending = ascend_on runs next are.ascending ends;
  }
    where
      older : (number : ℕ) (version : Version) → number < length cs → ((number ≡ length cs) × (version ≡ first_commit)) ⊎ ((number < length cs) × (commit_numbered number cs ≡ Some version)) → commit_numbered number cs ≡ Some version
      older number version below (inl p) = let same = p.0 in absurd (omega (arith, below, same))
      older number version below (inr p) = p.1

      is_first : (run : Run) (version : Version) → run.first ≡ length cs → ((run.first ≡ length cs) × (version ≡ first_commit)) ⊎ ((run.first < length cs) × (commit_numbered run.first cs ≡ Some version)) → version ≡ first_commit
      is_first run version same (inl p) = p.1
      is_first run version same (inr p) = let below = p.0 in absurd (omega (arith, below, same))

      in_next : (run : Run) (number : ℕ) (version : Version) → run ≡ next → is_in number run ≡ true → ((number ≡ length cs) × (version ≡ first_commit)) ⊎ ((number < length cs) × (commit_numbered number cs ≡ Some version)) → version.byte ≡ (number - run.first) % 256
      in_next run number version same is (inl p) =
          let at = p.0 in let first = ap (λ (x : Run). x.first) same in
          let zero : (number - run.first) % 256 ≡ 0 = omega (arith, at, first) in
          ap (λ (v : Version). v.byte) p.1 ∙ sym zero
      in_next run number version same is (inr p) =
          let low = (in_bounds number run is).0 in let first = ap (λ (x : Run). x.first) same in let below = p.0 in
          absurd (omega (arith, low, first, below))

      out : (number : ℕ) (version : Version) → run_of number runs ≡ None → ((number ≡ length cs) × (version ≡ first_commit)) ⊎ ((number < length cs) × (commit_numbered number cs ≡ Some version)) → version ≡ first_commit
      out number version none (inl p) = p.1
      out number version none (inr p) = are.left_out number version none p.1

-- ---- a log without a further commit is left out
pub left_off : (runs : List Run) (run : Run) (cs : List Version) → AreNumbered (runs ++ run ∷ []) cs → is_kept run ≡ false → AreNumbered runs cs
left_off runs run cs are off = record {
  zeroth = zeroth_before (from_end runs run are.zeroth.0 0 are.zeroth.1);
  begins = λ other version there at. are.begins other version (there_still runs other run there) at;
  within = λ other number version there is at. are.within other number version (there_still runs other run there) is at;
  left_out = λ number version none at. out number version none at (is_in number run) refl;
  ascending = λ place later other more less here there. are.ascending place later other more less (place_still runs run other place here) (place_still runs run more later there);
}
  where
    far : (nat_eq run.first 0 ≡ false) × (nat_lt 1 run.count ≡ false)
    far = go (nat_eq run.first 0) (nat_lt 1 run.count) off
      where
        go : (b d : Bool) → (b || d) ≡ false → (b ≡ false) × (d ≡ false)
        go true d h = absurd (true≢false h)
        go false true h = absurd (true≢false h)
        go false false h = (refl, refl)

    zeroth_before : ((0 ≡ length runs) × (are.zeroth.0 ≡ run)) ⊎ (slice_get runs 0 ≡ Some are.zeroth.0) → (first : Run) × (slice_get runs 0 ≡ Some first) × (is_in 0 first ≡ true)
    zeroth_before (inl p) =
        let low = (in_bounds 0 run (subst (λ (x : Run). is_in 0 x ≡ true) p.1 are.zeroth.2)).0 in
        let apart = far.0 in
        absurd (grind (arith, nat_tests, low, apart))
    zeroth_before (inr h) = (are.zeroth.0, h, are.zeroth.2)

    out : (number : ℕ) (version : Version) → run_of number runs ≡ None → commit_numbered number cs ≡ Some version → (b : Bool) → is_in number run ≡ b → version ≡ first_commit
    out number version none at true is =
        let p = in_bounds number run is in
        let few : run.count ≤ 1 = (let one = far.1 in grind (arith, nat_tests, one)) in
        let low = p.0 in let high = p.1 in
        let first : number ≡ run.first = omega (arith, low, high, few) in
        are.begins run version (length runs, last_there runs run) (subst (λ k. commit_numbered k cs ≡ Some version) first at)
    out number version none at false is = are.left_out number version (none_join number runs run none is) at
