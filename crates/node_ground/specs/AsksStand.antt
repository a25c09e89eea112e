-- How the pairs that are kept stand for what others were asked for and told: they are those for
-- which an answer is awaited. The main word is `AsksStand`.
use Rattle.std.specs.Prelude.{◌≡◌, List}
use Rattle.std.specs.List.{list_any}
use Rattle.std.specs.Ordering.{eq_by_cmp}
use Rattle.mesh_model.specs.declared.service.Pair.{Pair}
use Rattle.mesh_model.specs.Services.ArpTable.{PairCall, is_awaited, pair_order}

-- a pair is kept exactly where an answer for it is awaited
pub record AsksStand (kept : List Pair) (calls : List PairCall) : Type 0 where
  pub awaited : (pair : Pair) →
      list_any (eq_by_cmp pair_order pair) kept ≡ is_awaited calls pair.ip pair.vid
