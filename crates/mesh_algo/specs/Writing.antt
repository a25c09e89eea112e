-- What is written into two tables, one of originators and one of pairs, for an OGM that is the
-- first of its number from its neighbour. The main word is `IsWritten`.
use Rattle.std.specs.Prelude.{◌≡◌, Bool, List, Some, if◌then◌else◌}
use Rattle.std.specs.List.Sorted.{IsStrictlySortedBy}
use Rattle.std.specs.Map.{keys_of, lookup}
use Rattle.mesh_base.specs.declared.address.Mac.{Mac}
use Rattle.mesh_model.specs.Routes.Addresses.{mac_order, same_mac}
use Rattle.mesh_algo.specs.declared.pair.Pair.{Pair}
use Rattle.mesh_algo.specs.Pairs.{pair_order, path_put, rows_kept, same_pair}

-- the rows of originators, and the rows of pairs
abbrev pub Rows : Type 0 → Type 0 → Type 0
Rows O X = List (Mac × O) × List (Pair × X)

-- the rows of originators ascend
abbrev pub OrigsRise : {O X : Type 0} → Rows O X → Type 0
OrigsRise rows = IsStrictlySortedBy mac_order (keys_of rows.0)

-- the rows of pairs ascend
abbrev pub PathsRise : {O X : Type 0} → Rows O X → Type 0
PathsRise rows = IsStrictlySortedBy pair_order (keys_of rows.1)

-- the two tables have the row of a pair and that of its originator more, where their keys ascend,
-- and no other row of the originator if a life of it begins
pub record IsWritten {O X : Type 0} (pair : Pair) (begins : Bool) (path : X) (orig : O)
    (old new : Rows O X) : Type 0 where
  pub paths_are : (key : Pair) →
      lookup (same_pair key) new.1 ≡ path_put pair path (rows_kept begins pair.orig old.1) key
  pub paths_rise : PathsRise old → PathsRise new
  pub origs_are : (key : Mac) → PathsRise old →
      lookup (same_mac key) new.0
      ≡ (if same_mac pair.orig key then Some orig else lookup (same_mac key) old.0)
  pub origs_rise : OrigsRise old → OrigsRise new
