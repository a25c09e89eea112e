-- The best of the originators whose tables have a client, looked at one after another.
use Rattle.std.proofs.Common.{◌≡◌, ◌≤◌, ℕ, zero, suc, ◌+◌, Bool, true, false, cond, List, [], ◌∷◌, drop, filter, length, slice_get, Option, Some, None, arith, sym, ap, subst, ◌∙◌}
use Rattle.std.proofs.Math.ListN.{drop_of_length-le}
use Rattle.std.proofs.lemmas.Option.{slice_get_within}
use Rattle.mesh_base.specs.declared.address.Mac.{Mac}
use Rattle.mesh_base.specs.declared.client.Key.{Key}
use Rattle.mesh_model.specs.Knowledge.Addressee.{best_holder}
use Rattle.mesh_model.specs.Knowledge.Known.{Knowledge}
use Rattle.mesh_model.specs.Routes.BestRoute.{better}
use Rattle.mesh_model.specs.Routes.Queries.{Queries}
use Rattle.mesh_model.specs.Tables.Known.{holders_by, known_by, names, originators_by}
use Rattle.mesh_algo.proofs.BestLemmas.{best_after, best_in_turn}

-- a list from a place on begins with what is there
drop_at : (ks : List Mac) (i : ℕ) (k : Mac) → slice_get ks i ≡ Some k → drop i ks ≡ k ∷ drop (suc i) ks
drop_at [] i k e = absurd (let lt = slice_get_within [] i k e in omega (arith, lt))
drop_at (j ∷ ks) zero k e = cc
drop_at (j ∷ ks) (suc i) k e = drop_at ks i k e

filter_short : (p : Mac → Bool) (ks : List Mac) → length (filter p ks) ≤ length ks
filter_short p [] = omega arith
filter_short p (k ∷ ks) = by (p k) (filter_short p ks)
  where
    by : (b : Bool) → length (filter p ks) ≤ length ks → length (cond b (k ∷ filter p ks) (filter p ks)) ≤ length (k ∷ ks)
    by true le = omega (arith, le)
    by false le = omega (arith, le)

module _ (q : Queries) (known : Knowledge) (now : ℕ) (key : Key) where
  -- the originators whose tables have the client
  abbrev holders : List Mac
  holders = holders_by known.tables key

  -- the best of what is best before and of those that are live from a place on
  abbrev best_from : Option Mac → ℕ → Option Mac
  best_from before i = best_after (q.metric known.routes now) before (filter (q.live known.routes now) (drop i holders))

  -- those before a place were looked at
  pub record IsWalked (before : Option Mac) (i end : ℕ) : Type 0 where
    pub rest : best_from before i ≡ best_holder q known now key
    pub end_is : end ≡ length (originators_by known.tables)

  pub walk_begins : (end : ℕ) → end ≡ length (originators_by known.tables) → IsWalked None 0 end
  walk_begins end is = record {
    rest = best_in_turn (q.metric known.routes now) (filter (q.live known.routes now) holders);
    end_is = is;
  }

  -- one that is live, or not
  walk_goes_on : (before : Option Mac) (i end : ℕ) (orig : Mac) (live : Bool) → IsWalked before i end → Some orig ≡ slice_get holders i
      → live ≡ q.live known.routes now orig → IsWalked (cond live (better (q.metric known.routes now) orig before) before) (i + 1) end
  walk_goes_on before i end orig live walked at is = let further : i + 1 ≡ suc i = omega arith in record {
    rest = ap (λ n. best_from (cond live (better (q.metric known.routes now) orig before) before) n) further ∙ step live is
        ∙ sym (ap (λ ks. best_after (q.metric known.routes now) before (filter (q.live known.routes now) ks)) (drop_at holders i orig (sym at))) ∙ walked.rest;
    end_is = walked.end_is;
  }
    where
      step : (b : Bool) → b ≡ q.live known.routes now orig → best_from (cond b (better (q.metric known.routes now) orig before) before) (suc i)
          ≡ best_after (q.metric known.routes now) before (filter (q.live known.routes now) (orig ∷ drop (suc i) holders))
      step true e = ap (λ b. best_after (q.metric known.routes now) before (cond b (orig ∷ filter (q.live known.routes now) (drop (suc i) holders)) (filter (q.live known.routes now) (drop (suc i) holders)))) e
      step false e = ap (λ b. best_after (q.metric known.routes now) before (cond b (orig ∷ filter (q.live known.routes now) (drop (suc i) holders)) (filter (q.live known.routes now) (drop (suc i) holders)))) e

  pub walk_on_live : (before : Option Mac) (i end : ℕ) (orig : Mac) (after : Option Mac) (live : Bool) → IsWalked before i end → Some orig ≡ slice_get holders i
      → live ≡ q.live known.routes now orig → live ≡ true → after ≡ better (q.metric known.routes now) orig before → IsWalked after (i + 1) end
  walk_on_live before i end orig after live walked at is on best =
      subst (λ o. IsWalked o (i + 1) end) (sym best) (walk_goes_on before i end orig true walked at (sym on ∙ is))

  pub walk_on_other : (before : Option Mac) (i end : ℕ) (orig : Mac) (after : Option Mac) (live : Bool) → IsWalked before i end → Some orig ≡ slice_get holders i
      → live ≡ q.live known.routes now orig → live ≡ false → after ≡ before → IsWalked after (i + 1) end
  walk_on_other before i end orig after live walked at is off best =
      subst (λ o. IsWalked o (i + 1) end) (sym best) (walk_goes_on before i end orig false walked at (sym off ∙ is))

  -- behind the last
  pub walk_ends : (before : Option Mac) (i end : ℕ) → IsWalked before i end → length holders ≤ i → before ≡ best_holder q known now key
  walk_ends before i end walked le =
      sym (ap (λ ks. best_after (q.metric known.routes now) before (filter (q.live known.routes now) ks)) (drop_of_length-le holders le)) ∙ walked.rest

  pub walk_is_whole : (before : Option Mac) (i end : ℕ) → IsWalked before i end → end ≤ i → before ≡ best_holder q known now key
  walk_is_whole before i end walked le =
      let is = walked.end_is in
      let short = filter_short (λ orig. names key (known_by known.tables orig).held) (originators_by known.tables) in
      walk_ends before i end walked (omega (arith, is, short, le))
