-- The tables after an OGM that isn't heard: an echo, or one that changes nothing.
use Rattle.std.proofs.Common.{◌≡◌, ⊎_elim, ℕ, Bool, true, false, cond, ◌&&◌, List, ◌∷◌, unwrap_or, Some, refl, sym, ap, ap₂, ◌∙◌, subst}
use Rattle.std.specs.List.Sorted.{IsStrictlySortedBy}
use Rattle.std.specs.Map.{keys_of, lookup}
use Rattle.std.proofs.lemmas.Bool.{cases_Bool}
use Rattle.mesh_base.specs.declared.address.Mac.{Mac}
use Rattle.mesh_model.specs.Routes.Addresses.{same_mac}
use Rattle.mesh_model.specs.Routes.Hearings.{heard}
use Rattle.mesh_model.specs.Routes.Life.{of}
use Rattle.mesh_model.specs.Routes.Numbers.{window}
use Rattle.mesh_model.specs.Routes.Ogm.{passes, is_echo}
use Rattle.mesh_model.specs.Routes.Quality.{echoes_from, own_ogms}
use Rattle.mesh_model.specs.Routes.RouteLog.{RouteLog}
use Rattle.mesh_laws.proofs.WindowLemmas.{window-cons}
use Rattle.mesh_laws.proofs.MacLemmas.{same_exact, same_equiv}
use Rattle.mesh_algo.specs.LifeRows.{latest}
use Rattle.mesh_algo.specs.Pairs.{pair_order, same_pair}
use Rattle.mesh_iv.specs.declared.ogm.OgmCame.{OgmCame}
use Rattle.mesh_iv.specs.declared.path.Path.{Path}
use Rattle.mesh_algo.specs.declared.pair.Pair.{Pair}
use Rattle.mesh_iv.specs.Came.{ogm_in}
use Rattle.mesh_iv.specs.Hears.{input_of, hearing_of}
use Rattle.mesh_iv.specs.Rows.{blank, five, path_row, echo_row}
use Rattle.mesh_iv.specs.Tables.{BestsStand, Tables, StandsFor, LivesStand, path_at}
use Rattle.mesh_iv.proofs.HeardRows.{unwrapped}

module _ (me : Mac) (log : RouteLog) (came : OgmCame) where
  unheard_is : (tp : ℕ) → passes me (ogm_in came) ≡ false → heard me (input_of came tp ∷ log) ≡ heard me log
  unheard_is tp p = ap (λ b. cond b (hearing_of me log came ∷ heard me log) (heard me log)) p

  echoed : (tp : ℕ) (b : Bool) → is_echo me (own_ogms log) (ogm_in came) ≡ b → (k : Mac) → echoes_from me k (input_of came tp ∷ log) ≡ cond (b && same_mac came.from k) (came.seq ∷ echoes_from me k log) (echoes_from me k log)
  echoed tp b e k = ap (λ x. cond (x && same_mac came.from k) (came.seq ∷ echoes_from me k log) (echoes_from me k log)) e

  -- what is neither heard nor an echo changes nothing
  pub passed_stands : (tp : ℕ) (tables : Tables) → StandsFor me tables log → passes me (ogm_in came) ≡ false → is_echo me (own_ogms log) (ogm_in came) ≡ false → StandsFor me tables (input_of came tp ∷ log)
  passed_stands tp tables stands p e = record {
    me_is = stands.me_is;
    sent_is = stands.sent_is;
    lives_stand = subst (λ l. LivesStand l tables.lives) (sym (unheard_is tp p)) stands.lives_stand;
    paths_stand = record {
      are = λ pair. stands.paths_stand.are pair ∙ sym (ap₂ (λ l f. path_at me l f pair) (unheard_is tp p) (λ i k. echoed tp false e k i));
      rise = stands.paths_stand.rise;
    };
    bests_stand = subst (λ l. BestsStand l tables.bests) (sym (unheard_is tp p)) stands.bests_stand;
  }

  -- the row of an echo, with a number more
  abbrev pub echo_with : Path → Path
  echo_with path = record path { heard = window (came.seq ∷ path.heard) }

  next_row : (echoes : List ℕ) → Some (echo_with (unwrap_or (echo_row echoes) blank)) ≡ echo_row (came.seq ∷ echoes)
  next_row echoes = ap (λ p. Some (echo_with p)) (unwrapped echoes (five (λ back. 0)) (λ none. refl)) ∙ ap (λ w. Some (record { heard = w; values = five (λ back. 0) })) (window-cons came.seq echoes)

  -- an echo has its number in the row of its neighbour
  pub echo_stands : (tp : ℕ) (old new : Tables) (row : Path) → StandsFor me old log → passes me (ogm_in came) ≡ false → is_echo me (own_ogms log) (ogm_in came) ≡ true
      → new.me ≡ old.me → new.sent ≡ old.sent → new.lives ≡ old.lives → new.bests ≡ old.bests
      → row ≡ echo_with (unwrap_or (echo_row (echoes_from me came.from log)) blank)
      → ((pair : Pair) → lookup (same_pair pair) new.paths ≡ cond (same_pair (record { orig = me; from = came.from }) pair) (Some row) (lookup (same_pair pair) old.paths))
      → IsStrictlySortedBy pair_order (keys_of new.paths) → StandsFor me new (input_of came tp ∷ log)
  echo_stands tp old new row stands p e same_me same_sent same_lives same_bests row_is updated sorted = record {
    me_is = same_me ∙ stands.me_is;
    sent_is = same_sent ∙ stands.sent_is;
    lives_stand = subst (λ l. LivesStand l new.lives) (sym (unheard_is tp p)) (subst (λ l. LivesStand (heard me log) l) (sym same_lives) stands.lives_stand);
    paths_stand = record {
      are = λ pair. updated pair ∙ next pair ∙ sym (ap₂ (λ l f. path_at me l f pair) (unheard_is tp p) (λ i k. echoed tp true e k i));
      rise = sorted;
    };
    bests_stand = subst (λ l. BestsStand l new.bests) (sym (unheard_is tp p)) (subst (λ bs. BestsStand (heard me log) bs) (sym same_bests) stands.bests_stand);
  }
    where
      on_path : (pair : Pair) (b : Bool) (f : Mac → List ℕ) → same_mac pair.orig me ≡ b → path_at me (heard me log) f pair ≡ cond b (echo_row (f pair.from)) (path_row pair.from (latest (of pair.orig (heard me log))))
      on_path pair b f t = ap (λ x. cond x (echo_row (f pair.from)) (path_row pair.from (latest (of pair.orig (heard me log))))) t

      written : (pair : Pair) → same_mac came.from pair.from ≡ true → Some row ≡ echo_row (came.seq ∷ echoes_from me pair.from log)
      written pair s = ap (λ r. Some r) row_is ∙ next_row (echoes_from me came.from log) ∙ ap (λ k. echo_row (came.seq ∷ echoes_from me k log)) (same_exact came.from pair.from s)

      at_me : (pair : Pair) → same_mac pair.orig me ≡ true → cond (true && same_mac came.from pair.from) (Some row) (lookup (same_pair pair) old.paths) ≡ path_at me (heard me log) (λ k. cond (true && same_mac came.from k) (came.seq ∷ echoes_from me k log) (echoes_from me k log)) pair
      at_me pair t =
          ⊎_elim (λ s. ap (λ b. cond b (Some row) (lookup (same_pair pair) old.paths)) s ∙ written pair s
          ∙ sym (ap (λ b. echo_row (cond b (came.seq ∷ echoes_from me pair.from log) (echoes_from me pair.from log))) s))
          (λ s. ap (λ b. cond b (Some row) (lookup (same_pair pair) old.paths)) s ∙ stands.paths_stand.are pair ∙ on_path pair true (λ k. echoes_from me k log) t
          ∙ sym (ap (λ b. echo_row (cond b (came.seq ∷ echoes_from me pair.from log) (echoes_from me pair.from log))) s))
          (cases_Bool (same_mac came.from pair.from))
          ∙ sym (on_path pair true (λ k. cond (true && same_mac came.from k) (came.seq ∷ echoes_from me k log) (echoes_from me k log)) t)

      next : (pair : Pair) → cond (same_pair (record { orig = me; from = came.from }) pair) (Some row) (lookup (same_pair pair) old.paths)
          ≡ path_at me (heard me log) (λ k. cond (true && same_mac came.from k) (came.seq ∷ echoes_from me k log) (echoes_from me k log)) pair
      next pair =
          ⊎_elim (λ t. ap (λ b. cond (b && same_mac came.from pair.from) (Some row) (lookup (same_pair pair) old.paths)) (same_equiv.symm me pair.orig ∙ t) ∙ at_me pair t)
          (λ t. ap (λ b. cond (b && same_mac came.from pair.from) (Some row) (lookup (same_pair pair) old.paths)) (same_equiv.symm me pair.orig ∙ t)
          ∙ stands.paths_stand.are pair ∙ on_path pair false (λ k. echoes_from me k log) t
          ∙ sym (on_path pair false (λ k. cond (true && same_mac came.from k) (came.seq ∷ echoes_from me k log) (echoes_from me k log)) t))
          (cases_Bool (same_mac pair.orig me))
