-- Addresses in their order: by their bytes, the first byte first. The main word is `mac_order`.
use Rattle.std.specs.Prelude.{Bool, nat_eq, List, [], ◌∷◌}
use Rattle.std.specs.Cmp.Lexicographic.{pointwise, slice_cmp}
use Rattle.std.specs.Ordering.{is_lt, match_ordering, nat_cmp}
use Rattle.std.specs.declared.cmp.Ordering.{Ordering}
use Rattle.mesh_base.specs.declared.address.Mac.{Mac}

-- how two addresses stand to one another
abbrev pub mac_order : Mac → Mac → Ordering
mac_order a b = slice_cmp nat_cmp a.0 b.0

-- whether two addresses are one: byte by byte
abbrev pub same_mac : Mac → Mac → Bool
same_mac a b = pointwise nat_eq a.0 b.0

-- whether the first of two addresses is the smaller
abbrev pub is_smaller : Mac → Mac → Bool
is_smaller a b = is_lt (mac_order a b)

-- the addresses of a list with one more, in their order and each once
abbrev pub insert_mac : Mac → List Mac → List Mac
insert_mac mac [] = mac ∷ []
insert_mac mac (first ∷ rest) =
    match_ordering (mac_order mac first) (mac ∷ first ∷ rest) (first ∷ rest)
    (first ∷ insert_mac mac rest)
