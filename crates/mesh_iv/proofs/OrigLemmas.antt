-- The rows of the live originators: each by its life and the best neighbour, all in the order of the table.
use Rattle.std.proofs.Common.{◌≡◌, ℕ, ◌+◌, ◌-◌, zero, suc, List, [], ◌∷◌, ◌++◌, filter_map, slice_get, take, length, ◌≤◌, Option, Some, None, option_and_then, option_map, refl, sym, ap, ap₂, ◌∙◌, subst, arith}
use Rattle.std.specs.List.{cons_option}
use Rattle.std.specs.Map.{keys_of}
use Rattle.std.specs.Option.{option_map_or}
use Rattle.std.proofs.lemmas.List.{take_all}
use Rattle.mesh_base.specs.declared.address.Mac.{Mac}
use Rattle.mesh_model.specs.declared.route.OrigRow.{OrigRow}
use Rattle.mesh_model.specs.Routes.AlgorithmIv.{iv_life}
use Rattle.mesh_model.specs.Routes.BestRoute.{best_route, orig_row, route_metric}
use Rattle.mesh_model.specs.Routes.Life.{HeardOgm, newest}
use Rattle.mesh_model.specs.Routes.Quality.{average_quality}
use Rattle.mesh_model.specs.Routes.RouteLog.{RouteLog}
use Rattle.mesh_algo.specs.declared.best.Best.{Best}
use Rattle.mesh_algo.specs.declared.life.Life.{Life}
use Rattle.mesh_algo.specs.LifeRows.{life_row}
use Rattle.mesh_algo.specs.Walk.{best_in}
use Rattle.mesh_iv.specs.Answers.{row_of_orig, row_with}

module _ (score : Mac → ℕ) (moment : ℕ) (orig : Mac) where
  row_by_life : (alive : List HeardOgm) (life : Life) (best : Option Best) → life_row alive ≡ Some life → best ≡ best_in score alive → Some (row_with moment orig life best) ≡ orig_row score moment orig alive
  row_by_life [] life best row is = let bad : ◌≡◌ {A = Option Life} None (Some life) = row in cc
  row_by_life (h ∷ older) life best row is =
      let same : life_row (h ∷ older) ≡ Some life = row in
      go life same ∙ ap (λ b. Some (with_best b)) is ∙ by (best_route score (h ∷ older))
    where
      with_best : Option Best → OrigRow
      with_best b = record { orig = orig; seq = newest (h ∷ older); seen = moment - h.moment; next = option_map (λ (c : Best). c.from) b; metric = option_map_or (λ (c : Best). c.score) b 0 }

      go : (l : Life) → life_row (h ∷ older) ≡ Some l → Some (row_with moment orig l best) ≡ Some (with_best best)
      go l e = ap (λ (o : Option Life). option_map (λ (k : Life). row_with moment orig k best) o) (sym e)

      by : (o : Option Mac) → Some (with_best (option_map (λ k. record { from = k; score = score k }) o)) ≡ Some (record { orig = orig; seq = newest (h ∷ older); seen = moment - h.moment; next = o; metric = route_metric score o })
      by None = refl
      by (Some k) = refl

  no_row_by_life : (alive : List HeardOgm) → life_row alive ≡ None → None ≡ orig_row score moment orig alive
  no_row_by_life [] none = refl
  no_row_by_life (h ∷ older) none = let bad : life_row (h ∷ older) ≡ None = none in cc

-- the row of a live originator is made of its life and the best neighbour
pub row_is_of_orig : (me : Mac) (log : RouteLog) (moment : ℕ) (orig : Mac) (life : Life) (best : Option Best) → life_row (iv_life me log moment orig) ≡ Some life
    → best ≡ best_in (average_quality (iv_life me log moment orig)) (iv_life me log moment orig) → Some (row_with moment orig life best) ≡ row_of_orig me log moment orig
row_is_of_orig me log moment orig life best row is = row_by_life (average_quality (iv_life me log moment orig)) moment orig (iv_life me log moment orig) life best row is

pub no_row_of_orig : (me : Mac) (log : RouteLog) (moment : ℕ) (orig : Mac) → life_row (iv_life me log moment orig) ≡ None → None ≡ row_of_orig me log moment orig
no_row_of_orig me log moment orig none = no_row_by_life (average_quality (iv_life me log moment orig)) moment orig (iv_life me log moment orig) none

-- what is made of one key more
module _ {X Y : Type 0} (made : X → Option Y) where
  behind : (o : Option Y) (front back : List Y) → cons_option o (front ++ back) ≡ cons_option o front ++ back
  behind None front back = refl
  behind (Some y) front back = refl

  alone : (o : Option Y) → cons_option o [] ≡ option_map_or (λ y. y ∷ []) o []
  alone None = refl
  alone (Some y) = refl

  one_more : (keys : List X) (place : ℕ) → filter_map made (take (suc place) keys) ≡ filter_map made (take place keys) ++ option_map_or (λ y. y ∷ []) (option_and_then made (slice_get keys place)) []
  one_more [] zero = refl
  one_more [] (suc place) = refl
  one_more (k ∷ keys) zero = alone (made k)
  one_more (k ∷ keys) (suc place) = ap (cons_option (made k)) (one_more keys place) ∙ behind (made k) (filter_map made (take place keys)) (option_map_or (λ y. y ∷ []) (option_and_then made (slice_get keys place)) [])

  pub more_made : (keys : List X) (place : ℕ) (rows : List Y) (row : Option Y) → rows ≡ filter_map made (take place keys) → row ≡ option_and_then made (slice_get keys place)
      → rows ++ option_map_or (λ y. y ∷ []) row [] ≡ filter_map made (take (place + 1) keys)
  more_made keys place rows row front is =
      let on : place + 1 ≡ suc place = omega arith in
      ap₂ (λ rs o. rs ++ option_map_or (λ y. y ∷ []) o []) front is ∙ sym (one_more keys place) ∙ ap (λ n. filter_map made (take n keys)) (sym on)

-- the key at a place of a table
pub key_at : {V : Type 0} (entries : List (Mac × V)) (place : ℕ) (o : Option (Mac × V)) → slice_get entries place ≡ o → slice_get (keys_of entries) place ≡ option_map (λ (e : Mac × V). e.0) o
key_at {V = V} entries place o is = go entries place ∙ ap (option_map (λ (e : Mac × V). e.0)) is
  where
    go : (es : List (Mac × V)) (i : ℕ) → slice_get (keys_of es) i ≡ option_map (λ (e : Mac × V). e.0) (slice_get es i)
    go [] zero = refl
    go [] (suc i) = refl
    go (e ∷ es) zero = refl
    go (e ∷ es) (suc i) = go es i

-- all keys
pub all_keys : {V : Type 0} (entries : List (Mac × V)) (others : List Mac) (place : ℕ) → keys_of entries ≡ others → length entries ≤ place → take place others ≡ others
all_keys {V = V} entries others place same long =
    let long_keys : length (keys_of entries) ≤ place = subst (λ n. n ≤ place) (sym (as_many entries)) long in
    subst (λ ks. take place ks ≡ ks) same (take_all place (keys_of entries) long_keys)
  where
    as_many : (es : List (Mac × V)) → length (keys_of es) ≡ length es
    as_many [] = refl
    as_many (e ∷ es) = ap suc (as_many es)
