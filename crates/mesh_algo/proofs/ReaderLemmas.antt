-- What ticks and readers by place rest on.
use Rattle.std.proofs.Common.{◌≡◌, ◌↔◌, ◌≤◌, ℕ, suc, ◌%◌, ◌==◌, Bool, true, false, cond, List, [], ◌∷◌, length, slice_get, IsNone, Option, arith}
use Rattle.std.proofs.lemmas.Grind.{common_steps}
use Rattle.std.proofs.lemmas.Option.{gets}
use Rattle.mesh_model.specs.declared.route.LinkRow.{LinkRow}
use Rattle.mesh_model.specs.declared.route.OrigRow.{OrigRow}
use Rattle.mesh_model.specs.Routes.Quality.{own_ogms}
use Rattle.mesh_model.specs.Routes.RouteLog.{RouteLog, OwnTick, HeadCame, own_ticks}

step_le : (b : Bool) (m n : ℕ) → m ≤ n → cond b (suc m) m ≤ suc n
step_le true m n le = omega (arith, le)
step_le false m n le = omega (arith, le)

-- no more OGMs were sent than there were ticks
pub ogms-le-ticks : (log : RouteLog) → own_ogms log ≤ own_ticks log
ogms-le-ticks [] = omega arith
ogms-le-ticks (OwnTick moment index ∷ older) = step_le (index % 2 == 0) (own_ogms older) (own_ticks older) (ogms-le-ticks older)
ogms-le-ticks (HeadCame moment from throughput head ∷ older) = ogms-le-ticks older

-- a place of a list has nothing exactly where it is past the end
pub no_orig_past_end : (rows : List OrigRow) (i : ℕ) (row : Option OrigRow) → row ≡ slice_get rows i → IsNone row ↔ (length rows ≤ i)
no_orig_past_end rows i row is = grind (arith, common_steps, gets)

pub no_link_past_end : (rows : List LinkRow) (i : ℕ) (row : Option LinkRow) → row ≡ slice_get rows i → IsNone row ↔ (length rows ≤ i)
no_link_past_end rows i row is = grind (arith, common_steps, gets)
