-- The walk over an originator's rows finds the best route of the originator's last life.
use Rattle.std.proofs.Common.{◌≡◌, ℕ, nat_lt, false, cond, List, [], ◌∷◌, map, filter, None, refl, sym, ap, ◌∙◌}
use Rattle.std.specs.Map.{lookup}
use Rattle.mesh_base.specs.declared.address.Mac.{Mac}
use Rattle.mesh_model.specs.Routes.Addresses.{same_mac}
use Rattle.mesh_model.specs.Routes.Life.{HeardOgm, of, newest, numbers_from, value_at}
use Rattle.mesh_model.specs.Routes.Numbers.{seen_among}
use Rattle.mesh_model.specs.Routes.Quality.{average_quality, mean}
use Rattle.mesh_algo.specs.declared.pair.Pair.{Pair}
use Rattle.mesh_algo.specs.LifeRows.{latest}
use Rattle.mesh_algo.specs.Pairs.{same_pair}
use Rattle.mesh_algo.specs.Walk.{best_in, walk}
use Rattle.mesh_algo.proofs.BestWalk.{walk_best}
use Rattle.mesh_algo.proofs.LifeRows.{none_among}
use Rattle.mesh_iv.specs.declared.path.Path.{Path}
use Rattle.mesh_iv.specs.Rows.{path_score, row_of, path_row, echo_row}
use Rattle.mesh_iv.specs.Tables.{PathsStand}
use Rattle.mesh_iv.proofs.AverageLemmas.{average_row}

no_average : (k : Mac) (alive : List HeardOgm) → numbers_from k alive ≡ [] → average_quality alive k ≡ 0
unfolding average_quality
no_average k alive e =
    ap (λ l. mean (filter (λ v. nat_lt 0 v) (map (λ n. value_at n k alive) (seen_among (newest alive) 5 l)))) e
    ∙ ap (λ l. mean (filter (λ v. nat_lt 0 v) (map (λ n. value_at n k alive) l))) (none_among (newest alive) 5)

no_row : (numbers values : List ℕ) → row_of numbers values ≡ None → numbers ≡ []
no_row [] values e = refl
no_row (n ∷ numbers) values e = cc

module _ (me : Mac) (hearings : List HeardOgm) (echoes : Mac → List ℕ) (paths : List (Pair × Path)) (o : Mac) where
  -- the walk finds the best route of a life, with its quality
  pub walk_finds : PathsStand me hearings echoes paths → same_mac o me ≡ false → walk (path_score (newest (latest (of o hearings)))) o None paths ≡ best_in (average_quality (latest (of o hearings))) (latest (of o hearings))
  walk_finds stand other =
      let alive = latest (of o hearings) in
      let row : (k : Mac) → lookup (same_pair (record { orig = o; from = k })) paths ≡ path_row k alive
      = λ k. stand.are (record { orig = o; from = k }) ∙ ap (λ b. cond b (echo_row (echoes k)) (path_row k alive)) other in
      walk_best (path_score (newest alive)) (average_quality alive) o paths alive stand.rise
      (λ k path found. sym (average_row k alive path (sym (row k) ∙ found)))
      (λ k none. no_average k alive (no_row (numbers_from k alive) _ (sym (row k) ∙ none)))
      (λ k none. no_average k alive none)
