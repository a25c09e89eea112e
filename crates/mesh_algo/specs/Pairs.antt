-- The keys of a table of paths: an originator and a neighbour from which it was heard. They are in
-- the order of the originators, and of one originator in that of the neighbours. The main word is
-- `pair_order`.
use Rattle.std.specs.Prelude.{◌&&◌, Bool, true, false, not, List, filter, Option, Some, if◌then◌else◌}
use Rattle.std.specs.Map.{lookup}
use Rattle.std.specs.Ordering.{ordering_then}
use Rattle.std.specs.declared.cmp.Ordering.{Ordering}
use Rattle.mesh_base.specs.declared.address.Mac.{Mac}
use Rattle.mesh_model.specs.Routes.Addresses.{mac_order, same_mac}
use Rattle.mesh_algo.specs.declared.pair.Pair.{Pair}

-- how two pairs stand to one another: by the originators, then by the neighbours
abbrev pub pair_order : Pair → Pair → Ordering
pair_order a b = ordering_then (mac_order a.orig b.orig) (mac_order a.from b.from)

-- whether two pairs are one
abbrev pub same_pair : Pair → Pair → Bool
same_pair a b = same_mac a.orig b.orig && same_mac a.from b.from

-- the rows of pairs, without those of an originator if a life of it begins
abbrev pub rows_kept : {X : Type 0} → Bool → Mac → List (Pair × X) → List (Pair × X)
rows_kept true orig rows = filter (λ e. not (same_mac e.0.orig orig)) rows
rows_kept false orig rows = rows

-- the row of a pair after one is put
abbrev pub path_put : {X : Type 0} → Pair → X → List (Pair × X) → Pair → Option X
path_put put row rows pair = if same_pair put pair then Some row else lookup (same_pair pair) rows
