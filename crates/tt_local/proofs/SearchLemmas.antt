-- The search for the alias of a commit, log by log, among the commits of its byte.
use Rattle.std.proofs.Common.{◌≡◌, ◌⊎◌, inl, inr, ⊎_elim, ℕ, ◌+◌, ◌-◌, ◌*◌, ◌/◌, ◌%◌, ◌<◌, ◌≤◌, Bool, true, false, List, [], ◌∷◌, length, get_or, slice_get, Option, Some, None, min, nat_lt, nat_eq, refl, sym, ap, ◌∙◌, subst, arith}
use Rattle.std.proofs.lemmas.Bool.{eqb-true}
use Rattle.std.proofs.lemmas.Bool.Decides.{nat_tests}
use Rattle.std.proofs.lemmas.Option.{slice_get-get_or, slice_get_within}
use Rattle.mesh_model.specs.Commits.Aliases.{alias_of, are_aliases, last_alias}
use Rattle.mesh_model.specs.Commits.Versions.{commit_numbered, first_commit}
use Rattle.mesh_model.specs.Tables.Versions.{Version}
use Rattle.mesh_laws.proofs.MachineInvariant.{last_numbered, number_below, numbered_kept}
use Rattle.mesh_model.specs.Commits.History.{History}
use Rattle.tt_local.specs.AliasSearch.{AreAliasesAt, HasByte, HasNoneIn, HaveOneByte, IsFoundIn, IsLeastIn}
use Rattle.tt_local.specs.Journal.{JournalStands, JournalView, all_runs, present_run}
use Rattle.tt_local.specs.Runs.{AreNumbered, IsAmong, run_of}
use Rattle.tt_local.specs.declared.run.Run.{Run}
use Rattle.tt_local.proofs.NumberedLemmas.{from_end, number_made}
use Rattle.tt_local.proofs.RunLemmas.{among_end, found_among, in_bounds, in_from, last_there, place_still}
use Rattle.tt_local.proofs.AliasLemmas.{none_before, found_before, until, other_byte}

-- ---- the search log by log
-- the log at a place before that which goes on is one of all
pub record IsWalked (view : JournalView) (place : ℕ) (run : Run) : Type 0 where
  pub at : slice_get view.runs place ≡ Some run
  pub there : IsAmong run (all_runs view)

pub run_walked : (view : JournalView) (runs : List Run) (place : ℕ) (other : Run) → runs ≡ view.runs → place < length runs → IsWalked view place (get_or runs place other)
run_walked view runs place other are within =
    let at = ap (λ rs. slice_get rs place) (sym are) ∙ slice_get-get_or runs place other within in
    record { at = at; there = (place, place_still view.runs (present_run view) (get_or runs place other) place at) }

-- no commit below a number is an alias of that of another
abbrev pub HasNoneBelow : ℕ → ℕ → List Version → Type 0
HasNoneBelow bound number commits = (earlier : ℕ) → earlier < bound → AreAliasesAt false number earlier commits

-- no commit of a log is an alias of that of a number, up to a place in it, of so many
abbrev pub HasNoneTo : ℕ → ℕ → Run → ℕ → List Version → Type 0
HasNoneTo bound count run number commits = (place : ℕ) → place < bound → place < count → AreAliasesAt false number (run.first + place) commits

-- commits of other bytes are no aliases
off_byte : (cs : List Version) (number earlier byte other : ℕ) → HasByte number byte cs → HasByte earlier other cs → (other ≡ byte → ⊥) → AreAliasesAt false number earlier cs
off_byte cs number earlier byte other mine its off = λ one two is at. sym (other_byte one two (λ e. off (sym (its two at) ∙ sym e ∙ mine one is)))

-- the byte of a commit by its place in a log
pub byte_in : (runs : List Run) (cs : List Version) → AreNumbered runs cs → (run : Run) → IsAmong run runs → (place : ℕ) → place < run.count → HasByte (run.first + place) (place % 256) cs
byte_in runs cs numbered run there place below = λ version at.
    numbered.within run (run.first + place) version there (in_from (run.first + place) run (omega arith) (omega (arith, below))) at ∙ ap (λ k. k % 256) (omega arith)

-- a commit of the byte by its place in a log
pub one_byte : (runs : List Run) (cs : List Version) → AreNumbered runs cs → (run : Run) → IsAmong run runs → (number byte round : ℕ) → HasByte number byte cs → byte < 256 → byte + round * 256 < run.count → HaveOneByte number (run.first + (byte + round * 256)) cs
one_byte runs cs numbered run there number byte round mine low within = λ one other is at.
    let same : (byte + round * 256) % 256 ≡ byte = omega (arith, low) in
    mine one is ∙ sym (byte_in runs cs numbered run there (byte + round * 256) within other at ∙ same)

-- the rounds of a log are those that are within it
pub round_within : (count byte round end : ℕ) → end ≡ (count - byte) / 256 + min 1 ((count - byte) % 256) → round < end → byte + round * 256 < count
round_within count byte round end is below = grind (arith, is, below)

pub rounds_all : (count byte round end : ℕ) → end ≡ (count - byte) / 256 + min 1 ((count - byte) % 256) → end ≤ round → count ≤ byte + round * 256
rounds_all count byte round end is past = grind (arith, is, past)

-- none is at a place below the first of the byte
pub none_at_first : (runs : List Run) (cs : List Version) → AreNumbered runs cs → (run : Run) → IsAmong run runs → (number byte bound count : ℕ) → HasByte number byte cs → byte < 256 → bound ≡ byte → count ≤ run.count → HasNoneTo bound count run number cs
none_at_first runs cs numbered run there number byte bound count mine low first few = λ place below within.
    off_byte cs number (run.first + place) byte (place % 256) mine (byte_in runs cs numbered run there place (omega (arith, within, few))) (λ e. absurd (omega (arith, e, below, first, low)))

-- none is at a place below the next of the byte
pub none_at_next : (runs : List Run) (cs : List Version) → AreNumbered runs cs → (run : Run) → IsAmong run runs → (number byte round count : ℕ) → HasByte number byte cs → byte < 256 → count ≤ run.count → AreAliasesAt false number (run.first + (byte + round * 256)) cs → HasNoneTo (byte + round * 256) count run number cs → HasNoneTo (byte + (round + 1) * 256) count run number cs
none_at_next runs cs numbered run there number byte round count mine low few none before = λ place below within.
    ⊎_elim (λ less. before place less within) (⊎_elim
    (λ same. subst (λ k. AreAliasesAt false number (run.first + k) cs) (sym same) none)
    (λ more. off_byte cs number (run.first + place) byte (place % 256) mine (byte_in runs cs numbered run there place (omega (arith, within, few))) (λ e. absurd (omega (arith, e, below, more, low)))))
    (which place (byte + round * 256))
  where
    which : (n m : ℕ) → (n < m) ⊎ ((n ≡ m) ⊎ (m < n))
    which n m = cases (nat_lt n m) refl (nat_eq n m) refl
      where
        cases : (b : Bool) → nat_lt n m ≡ b → (d : Bool) → nat_eq n m ≡ d → (n < m) ⊎ ((n ≡ m) ⊎ (m < n))
        cases true l d e = inl (grind (arith, nat_tests, l))
        cases false l true e = inr (inl (eqb-true n m e))
        cases false l false e = inr (inr (grind (arith, nat_tests, l, e)))

-- none is in a log below a number where none is at the places below it
pub none_in : (cs : List Version) (run : Run) (number bound count end : ℕ) → HasNoneTo bound count run number cs → ((place : ℕ) → run.first + place < end → place < run.count → (place < bound) × (place < count)) → HasNoneIn run end number cs
none_in cs run number bound count end none all = λ earlier is below.
    let p = in_bounds earlier run is in
    let low = p.0 in
    let high = p.1 in
    let place = all (earlier - run.first) (omega (arith, low, below)) (omega (arith, low, high)) in
    subst (λ k. AreAliasesAt false number k cs) (omega (arith, low)) (none (earlier - run.first) place.0 place.1)

-- where there are commits there is commit 0
some_first : (cs : List Version) (number : ℕ) (version : Version) → commit_numbered number cs ≡ Some version → (first : Version) × (commit_numbered 0 cs ≡ Some first)
some_first [] number version at = cc
some_first (c ∷ older) number version at = go older (λ n v h. some_first older n v h)
  where
    go : (rest : List Version) → ((n : ℕ) (v : Version) → commit_numbered n rest ≡ Some v → (first : Version) × (commit_numbered 0 rest ≡ Some first)) → (first : Version) × (commit_numbered 0 (c ∷ rest) ≡ Some first)
    go [] before = (c, last_numbered c [])
    go (d ∷ rest) before = let first = before (length rest) d (last_numbered d rest) in (first.0, numbered_kept c 0 (d ∷ rest) first.0 first.1)

-- where none is in any of the logs, none is below a number: one of no log is commit 0 again
pub none_below : (runs : List Run) (cs : List Version) → AreNumbered runs cs → (bound number : ℕ) → ((run : Run) → IsAmong run runs → HasNoneIn run bound number cs) → HasNoneBelow bound number cs
none_below runs cs numbered bound number none = λ earlier below. go earlier below (run_of earlier runs) refl
  where
    zero_there : (version : Version) → commit_numbered 0 cs ≡ Some version → version ≡ first_commit
    zero_there version at =
        let first = numbered.zeroth in
        let low = (in_bounds 0 first.0 first.2).0 in
        numbered.begins first.0 version (0, first.1) (ap (λ k. commit_numbered k cs) (omega (arith, low)) ∙ at)

    go : (earlier : ℕ) → earlier < bound → (o : Option Run) → run_of earlier runs ≡ o → AreAliasesAt false number earlier cs
    go earlier below (Some run) is = let there = found_among earlier runs run is in none run there.0 earlier there.1 below
    go earlier below None is = λ one other mine at.
        let zero = some_first cs earlier other at in
        none numbered.zeroth.0 (0, numbered.zeroth.1) 0 numbered.zeroth.2 (omega (arith, below)) one zero.0 mine zero.1
        ∙ ap (are_aliases one) (zero_there zero.0 zero.1 ∙ sym (numbered.left_out earlier other is at))

-- the alias in a log is the least of all where none is in the logs before it
pub least_below : (runs : List Run) (cs : List Version) → AreNumbered runs cs → (place : ℕ) (run : Run) → slice_get runs place ≡ Some run → (number earlier : ℕ) → IsFoundIn earlier run number cs → ((before : ℕ) (other : Run) → before < place → slice_get runs before ≡ Some other → HasNoneIn other number number cs) → HasNoneBelow earlier number cs
least_below runs cs numbered place run at number earlier found none = none_below runs cs numbered earlier number (λ other there. go other there.0 there.1 (nat_lt there.0 place) refl (nat_eq there.0 place) refl)
  where
    go : (other : Run) (where_at : ℕ) → slice_get runs where_at ≡ Some other → (b : Bool) → nat_lt where_at place ≡ b → (d : Bool) → nat_eq where_at place ≡ d → HasNoneIn other earlier number cs
    go other where_at there true less d same = λ n is below. let up = found.older in none where_at other (grind (arith, nat_tests, less)) there n is (omega (arith, below, up))
    go other where_at there false less true same =
        let one : Some run ≡ Some other = sym at ∙ ap (slice_get runs) (sym (eqb-true where_at place same)) ∙ there in
        let is : run ≡ other = cc in
        subst (λ r. HasNoneIn r earlier number cs) is found.least
    go other where_at there false less false same = λ n is below.
        let after : place < where_at = grind (arith, nat_tests, less, same) in
        let ends = numbered.ascending place where_at run other after at there in
        let low = (in_bounds n other is).0 in
        let high = (in_bounds earlier run found.there).1 in
        absurd (omega (arith, ends, low, high, below))

-- none was found
pub none_found : (cs : List Version) (number : ℕ) (w : Version) → commit_numbered number cs ≡ Some w → HasNoneBelow number number cs → alias_of number cs ≡ None
none_found cs number w is none =
    let u = until cs number w is in
    ap last_alias u.is ∙ none_before w u.older (λ n v h. sym (none n (subst (λ k. n < k) u.count (number_below n u.older v h)) w v is (u.kept n v h)))

-- one was found
pub one_found : (cs : List Version) (number earlier : ℕ) (w v : Version) → commit_numbered number cs ≡ Some w → commit_numbered earlier cs ≡ Some v → earlier < number → AreAliasesAt true number earlier cs → HasNoneBelow earlier number cs → alias_of number cs ≡ Some earlier
one_found cs number earlier w v is at below are none =
    let u = until cs number w is in
    ap last_alias u.is ∙ found_before w u.older earlier v (u.below earlier v below at) (sym (are w v is at)) (λ n x less h. sym (none n less w x is (u.kept n x h)))

-- ---- the logs of a journal
-- an alias was found in a log before the one that goes on
pub found_before_last : (view : JournalView) (history : History) → JournalStands view history → (place : ℕ) (run : Run) → slice_get view.runs place ≡ Some run → (number earlier : ℕ) → number ≤ length view.past → IsFoundIn earlier run number history.commits
    → ((before : ℕ) (other : Run) → before < place → slice_get view.runs before ≡ Some other → HasNoneIn other number number history.commits) → alias_of number history.commits ≡ Some earlier
found_before_last view history stands place run at number earlier made found none =
    let older = found.older in
    let one = number_made view history stands number made in
    let other = number_made view history stands earlier (omega (arith, older, made)) in
    let within = slice_get_within view.runs place run at in
    one_found history.commits number earlier one.0 other.0 one.1 other.1 older found.alias
    (least_below (all_runs view) history.commits stands.numbered place run (place_still view.runs (present_run view) run place at) number earlier found
    (λ before next less there. ⊎_elim (λ p. let last = p.0 in absurd (omega (arith, last, less, within))) (λ h. none before next less h) (from_end view.runs (present_run view) next before there)))

-- one was found in the one that goes on, or none
pub found_at_last : (view : JournalView) (history : History) → JournalStands view history → (number : ℕ) (found : Option ℕ) → number ≤ length view.past → IsLeastIn found (present_run view) number history.commits
    → ((place : ℕ) (run : Run) → slice_get view.runs place ≡ Some run → HasNoneIn run number number history.commits) → alias_of number history.commits ≡ found
found_at_last view history stands number None made least none =
    let one = number_made view history stands number made in
    none_found history.commits number one.0 one.1
    (none_below (all_runs view) history.commits stands.numbered number number (λ run there. ⊎_elim
    (λ p. subst (λ r. HasNoneIn r number number history.commits) (sym p) least) (λ h. none h.0 run h.1) (among_end view.runs (present_run view) run there)))
found_at_last view history stands number (Some earlier) made found none =
    let older = found.older in
    let one = number_made view history stands number made in
    let other = number_made view history stands earlier (omega (arith, older, made)) in
    one_found history.commits number earlier one.0 other.0 one.1 other.1 older found.alias
    (least_below (all_runs view) history.commits stands.numbered (length view.runs) (present_run view) (last_there view.runs (present_run view)) number earlier found
    (λ before next less there. ⊎_elim (λ p. let last = p.0 in absurd (omega (arith, last, less))) (λ h. none before next h) (from_end view.runs (present_run view) next before there)))

-- none is in one log more
pub none_more : (runs : List Run) (cs : List Version) (number index : ℕ) (run : Run) → slice_get runs index ≡ Some run → HasNoneIn run number number cs → ((place : ℕ) (other : Run) → place < index → slice_get runs place ≡ Some other → HasNoneIn other number number cs)
    → (place : ℕ) (other : Run) → place < index + 1 → slice_get runs place ≡ Some other → HasNoneIn other number number cs
none_more runs cs number index run at none before place other below there = go (nat_eq place index) refl
  where
    go : (b : Bool) → nat_eq place index ≡ b → HasNoneIn other number number cs
    go true is =
        let both : Some run ≡ Some other = sym at ∙ ap (slice_get runs) (sym (eqb-true place index is)) ∙ there in
        let same : run ≡ other = cc in
        subst (λ r. HasNoneIn r number number cs) same none
    go false is = before place other (grind (arith, nat_tests, is, below)) there
