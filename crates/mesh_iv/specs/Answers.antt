-- What the tables answer. No public clause cites this module.
use Rattle.std.specs.Prelude.{ℕ, ◌-◌, max, length, Option, Some, None, option_map}
use Rattle.std.specs.Option.{option_map_or}
use Rattle.mesh_base.specs.declared.address.Mac.{Mac}
use Rattle.mesh_model.specs.declared.route.OrigRow.{OrigRow}
use Rattle.mesh_model.specs.Routes.AlgorithmIv.{iv_life}
use Rattle.mesh_model.specs.Routes.BestRoute.{orig_row}
use Rattle.mesh_model.specs.Routes.Numbers.{greatest, seen_among, window_length}
use Rattle.mesh_model.specs.Routes.Quality.{average_quality}
use Rattle.mesh_model.specs.Routes.RouteLog.{RouteLog}
use Rattle.mesh_algo.specs.declared.best.Best.{Best}
use Rattle.mesh_algo.specs.declared.life.Life.{Life}
use Rattle.mesh_iv.specs.declared.path.Path.{Path}

-- how many numbers of a row are among the last up to a top
abbrev pub count_of : ℕ → Option Path → ℕ
count_of top None = 0
count_of top (Some path) =
    length (seen_among (max top (greatest path.heard)) window_length path.heard)

-- the row of an originator at a moment, if it is live then
abbrev pub row_of_orig : Mac → RouteLog → ℕ → Mac → Option OrigRow
row_of_orig me log moment orig =
    orig_row (average_quality (iv_life me log moment orig)) moment orig (iv_life me log moment orig)

-- the row of an originator of this life, with the best neighbour to it
abbrev pub row_with : ℕ → Mac → Life → Option Best → OrigRow
row_with moment orig life best = record {
  orig = orig;
  seq = life.newest;
  seen = moment - life.last;
  next = option_map (λ (b : Best). b.from) best;
  metric = option_map_or (λ (b : Best). b.score) best 0;
}
