use Rattle.std.proofs.Common.{sym, ◌∙◌}
use Rattle.mesh_model.specs.Text.Tables.{vlan_line}
use Rattle.tt_table.specs.Sums.{named_sums}
use Rattle.mesh_show.proofs.RowLemmas.{sum_named, texts-next}
use Rattle.mesh_show.proofs.clients.put_vlans.Goals as goal

pub loop-place-preserved : goal.loop-place-preserved
loop-place-preserved c =
    let sums = named_sums c.args.sums.now in
    texts-next vlan_line c.args.out.now.items c.loop-place.out.items c.vlan_line.new.out.items sums c.loop-place.place
    (record { vid = c.in-Some.vid; sum = c.in-Some.sum })
    (sum_named (c.in-Some.vid, c.in-Some.sum) _ (sym c.in-Some.is ∙ c.at.ensures.at_place))
    c.loop-place.invariant c.in_ok-vlan_line.ensures.ok
