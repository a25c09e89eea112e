-- How what a node keeps of pairs stands for all that it learned: of each pair the last, the pairs
-- in their order. The main word is `CacheStands`.
use Rattle.std.specs.Prelude.{◌≡◌, List, Option, find, option_map}
use Rattle.std.specs.List.Sorted.{IsStrictlySortedBy}
use Rattle.std.specs.Map.{keys_of, lookup}
use Rattle.std.specs.Ordering.{eq_by_cmp}
use Rattle.mesh_model.specs.declared.service.Pair.{Pair}
use Rattle.mesh_model.specs.Services.ArpTable.{Learned, is_pair, pair_order}
use Rattle.mesh_dat.specs.declared.kept.Kept.{Kept}

-- what is kept of a pair, as it was learned
abbrev pub learned_of : Pair → Kept → Learned
learned_of pair kept =
    record { moment = kept.moment; ip = pair.ip; vid = pair.vid; mac = kept.mac }

-- what was learned last of a pair, by what is kept
abbrev pub kept_learned : List (Pair × Kept) → Pair → Option Learned
kept_learned kept pair = option_map (learned_of pair) (lookup (eq_by_cmp pair_order pair) kept)

-- what is kept is that of what was learned
pub record CacheStands (kept : List (Pair × Kept)) (learned : List Learned) : Type 0 where
  -- of each pair the last is kept
  pub last : (pair : Pair) → kept_learned kept pair ≡ find (is_pair pair.ip pair.vid) learned
  -- the pairs ascend
  pub ordered : IsStrictlySortedBy pair_order (keys_of kept)
