-- What is computed for an OGM that is heard: the row before it, whether it is the first of its number,
-- and its value.
use Rattle.std.proofs.Common.{◌≡◌, ℕ, ◌-◌, ◌≤◌, max, nat_lt, Bool, true, false, cond, not, List, [], ◌∷◌, length, unwrap_or, is_some, IsSome, Option, Some, None, arith, refl, sym, ap, ap₂, ◌∙◌, subst}
use Rattle.std.proofs.lemmas.Bool.{false≢true, lt-ltb, true≢false}
use Rattle.mesh_base.specs.declared.address.Mac.{Mac}
use Rattle.mesh_model.specs.Routes.Addresses.{same_mac}
use Rattle.mesh_model.specs.Routes.AlgorithmIv.{answer_to}
use Rattle.mesh_model.specs.Routes.Hearings.{heard, in_time}
use Rattle.mesh_model.specs.Routes.Queries.{unheard}
use Rattle.mesh_model.specs.Routes.Life.{HeardOgm, life_span, of, since, life, newest, numbers_from, is_first}
use Rattle.mesh_model.specs.Routes.Numbers.{greatest, seen_among, window, window_length}
use Rattle.mesh_model.specs.Routes.Quality.{echoes_from, receive_quality, received_in}
use Rattle.mesh_model.specs.Routes.RouteLog.{RouteLog}
use Rattle.mesh_laws.proofs.WindowLemmas.{among-window, greatest-window, window-cons}
use Rattle.mesh_algo.proofs.LifeLemmas.{numbers-le, next_newest, own_numbers, of_other, of_same}
use Rattle.mesh_algo.proofs.HearingLemmas.{IsMet, touches_life}
use Rattle.mesh_algo.proofs.LifeRows.{before_is_latest, no_life}
use Rattle.mesh_laws.proofs.MacLemmas.{same_exact, same_equiv}
use Rattle.mesh_algo.specs.declared.best.Best.{Best}
use Rattle.mesh_algo.specs.LifeRows.{latest, life_row, newest_by}
use Rattle.mesh_algo.specs.Walk.{walk}
use Rattle.mesh_iv.specs.declared.ogm.OgmCame.{OgmCame}
use Rattle.mesh_algo.specs.declared.life.Life.{Life}
use Rattle.mesh_iv.specs.Came.{ogm_in}
use Rattle.mesh_iv.specs.declared.row.Orig.{Orig}
use Rattle.mesh_iv.specs.Hears.{IsHeard, life_before, lived_at, hearing_of, kept_row}
use Rattle.mesh_iv.specs.Origs.{best_kept, life_in, row_of_life}
use Rattle.mesh_iv.specs.Rows.{blank, path_row, path_score, echo_row}
use Rattle.mesh_iv.specs.Tables.{StandsFor, Tables, path_at}
use Rattle.mesh_iv.specs.Writing.{IsKept, pair_of}
use Rattle.mesh_iv.proofs.HeardRows.{kept_by_row}
use Rattle.mesh_iv.proofs.RowLemmas.{row_best, row_life}
use Rattle.mesh_iv.proofs.StandLemmas.{best_some}
use Rattle.mesh_iv.proofs.StepLemmas.{other_orig, touch_answer}

module _ (me : Mac) (log : RouteLog) (came : OgmCame) where
  abbrev lived : List HeardOgm
  lived = life_before me log came

  abbrev own : HeardOgm
  own = hearing_of me log came

  -- ---- the row before it
  pub kept_none : (row : Option Life) → row ≡ life_row lived → row ≡ None → blank ≡ kept_row came.from lived
  kept_none row e none = kept_by_row came.from [] ∙ ap (λ l. kept_row came.from l) (sym (no_life lived (sym e ∙ none)))

  pub kept_some : (tables : Tables) (row : Option Life) (r : Bool) → IsHeard me tables log came row → is_some row ≡ not r → r ≡ false
      → unwrap_or (path_at me (heard me log) (λ k. echoes_from me k log) (pair_of came)) blank ≡ kept_row came.from lived
  kept_some tables None r is e f = absurd (true≢false (sym (ap not f) ∙ sym e))
  kept_some tables (Some life) r is e f =
      ap (λ b. unwrap_or (cond b (echo_row (echoes_from me came.from log)) (path_row came.from (latest (of came.orig (heard me log))))) blank) (other_orig me log came is.passing)
      ∙ ap (λ l. unwrap_or (path_row came.from l) blank) (sym (before_is_latest own (of came.orig (heard me log)) life (sym is.row_is)))
      ∙ kept_by_row came.from lived

  -- ---- the life that it goes on with
  -- how its number meets the life at its moment
  pub is_met : IsMet own (of came.orig (heard me log))
  is_met = record { late = refl; restart = refl }

  -- the best neighbour of the row is that of the life
  pub kept_is : (tables : Tables) (row : Option Orig) (life : Option Life) (restart : Bool) (kept : Option Best) → StandsFor me tables log → row ≡ row_of_life (lived_at me log came)
      → life ≡ cond restart None (life_in row) → kept ≡ best_kept row → IsKept came life kept tables.paths
  kept_is tables row life restart kept stands row_is life_is is =
      subst (λ l. IsKept came l kept tables.paths) (sym life_is) (record { best_is = λ some. is ∙ go restart row (sym row_is) some })
    where
      go : (b : Bool) (o : Option Orig) → row_of_life (lived_at me log came) ≡ o → IsSome (cond b None (life_in o)) → best_kept o ≡ walk (path_score (newest_by (cond b None (life_in o)))) came.orig None tables.paths
      go true o e some = absurd (false≢true some)
      go false None e some = absurd (false≢true some)
      go false (Some r) e some = row_best (lived_at me log came) r e ∙ sym (best_some me tables log came.moment came.orig r.life stands (row_life (lived_at me log came) r e))

  -- nothing is made of it
  pub touched_answer : (row : Option Life) → row ≡ life_row lived → is_first own lived ≡ false → answer_to own lived ≡ unheard
  touched_answer None e first = absurd (touches_life own (of came.orig (heard me log)) is_met (sym e) first)
  touched_answer (Some row) e first = touch_answer me log came row (sym e) first

  -- ---- its value
  abbrev timed : HeardOgm
  timed = in_time came.moment came.from (ogm_in came) (heard me log)

  -- by a neighbour that isn't the originator
  pub receive_other : same_mac came.from came.orig ≡ false → receive_quality came.moment came.from (heard me log) ≡ receive_quality came.moment came.from (timed ∷ heard me log)
  receive_other e = sym (ap (λ l. received_in came.from (life came.moment l)) (of_other came.from timed (heard me log) (same_equiv.symm came.orig came.from ∙ e)))

  begins : (moment : ℕ) → nat_lt (moment - moment) life_span ≡ true
  begins moment = lt-ltb (moment - moment) life_span (omega arith)

  count_seen : (numbers : List ℕ) (top : ℕ) → greatest numbers ≤ top → length (seen_among (max top (greatest (window numbers))) window_length (window numbers)) ≡ length (seen_among top window_length numbers)
  count_seen numbers top le =
      let g = greatest-window numbers in
      let up : max top (greatest (window numbers)) ≡ top = omega (arith, g, le) in
      ap (λ t. length (seen_among t window_length (window numbers))) up ∙ ap (λ l. length l) (among-window top numbers le)

  -- by the originator itself
  pub receive_own : (newest_then : ℕ) → own.late ≡ false → same_mac came.from came.orig ≡ true → newest_then ≡ max came.seq (newest lived)
      → length (seen_among (max newest_then (greatest (window (came.seq ∷ (kept_row came.from lived).heard)))) window_length (window (came.seq ∷ (kept_row came.from lived).heard)))
      ≡ receive_quality came.moment came.from (timed ∷ heard me log)
  receive_own newest_then timely same top =
      let numbers = numbers_from came.from lived in
      let le = numbers-le came.from lived in
      let within : greatest (came.seq ∷ numbers) ≤ newest_then = omega (arith, le, top) in
      let orig = same_exact came.from came.orig same in
      ap (λ w. length (seen_among (max newest_then (greatest w)) window_length w)) (window-cons came.seq numbers)
      ∙ count_seen (came.seq ∷ numbers) newest_then within
      ∙ ap₂ (λ t l. length (seen_among t window_length l)) (top ∙ sym (next_newest came.from timed lived timely)) (sym (own_numbers came.from timed lived timely (own_from came.from)))
      ∙ sym (ap (λ l. received_in came.from (life came.moment l)) (of_same came.from timed (heard me log) (same_equiv.symm came.orig came.from ∙ same))
      ∙ ap (λ b. received_in came.from (cond b (timed ∷ since timed (of came.from (heard me log))) [])) (begins came.moment)
      ∙ ap (λ o. received_in came.from (timed ∷ since timed (of o (heard me log)))) orig)
    where
      own_from : (k : Mac) → same_mac k k ≡ true
      own_from k = same_equiv.refl k
