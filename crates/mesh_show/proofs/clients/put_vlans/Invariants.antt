use Rattle.std.proofs.Common.{◌≡◌, ◌++◌, take}
use Rattle.std.specs.Prelude.{flat_map}
use Rattle.mesh_model.specs.Text.Tables.{vlan_line}
use Rattle.tt_table.specs.Sums.{named_sums}
use Rattle.mesh_show.proofs.clients.put_vlans.Given as goal

abbrev pub invariant-loop-place : goal.invariant-loop-place
invariant-loop-place l = l.out.items ≡ l.fn.out.items ++ flat_map vlan_line (take l.place (named_sums l.sums))
