-- Where two lists of sums differ: the least VLAN, by wire number, whose checksum isn't the same in
-- both. A VLAN that one of them doesn't name has the checksum 0 there. The main word is
-- `first_difference`.
use Rattle.std.specs.Prelude.{◌==◌, nat_lt, Bool, not, List, [], ◌∷◌, ◌++◌, map, Option, Some, None, option_map, if◌then◌else◌}
use Rattle.mesh_base.specs.declared.client.Vid.{Vid}
use Rattle.mesh_model.specs.Packets.Bodies.{VlanSum}
use Rattle.mesh_model.specs.Tables.Sums.{sum_at}
use Rattle.mesh_model.specs.declared.table_outcome.Difference.{Difference}

-- whether the checksums of a VLAN differ
abbrev pub differ_at : List VlanSum → List VlanSum → Vid → Bool
differ_at kept told vid = not (sum_at kept vid == sum_at told vid)

-- the lesser of two VLANs by wire number, where both are there; else the one that is
abbrev pub lesser : Option Vid → Option Vid → Option Vid
lesser None other = other
lesser (Some vid) None = Some vid
lesser (Some vid) (Some other) = if nat_lt other.0 vid.0 then Some other else Some vid

-- a VLAN that passes a test
abbrev pub vlan_if : (Vid → Bool) → Vid → Option Vid
vlan_if test vid = if test vid then Some vid else None

-- the least of those VLANs that pass a test
abbrev pub least_passing : (Vid → Bool) → List Vid → Option Vid
least_passing test [] = None
least_passing test (vid ∷ vids) = lesser (vlan_if test vid) (least_passing test vids)

-- the VLANs that sums name
abbrev pub named_vlans : List VlanSum → List Vid
named_vlans sums = map (λ named. named.vid) sums

-- a VLAN with its two checksums
abbrev pub difference_at : List VlanSum → List VlanSum → Vid → Difference
difference_at kept told vid =
    record { vid = vid; kept = sum_at kept vid; told = sum_at told vid }

-- the least VLAN whose checksums differ, with both of them
abbrev pub first_difference : List VlanSum → List VlanSum → Option Difference
first_difference kept told = option_map (difference_at kept told)
    (least_passing (differ_at kept told) (named_vlans kept ++ named_vlans told))
