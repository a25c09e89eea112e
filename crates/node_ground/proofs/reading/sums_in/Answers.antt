use Rattle.std.proofs.Common.{ℕ, List, [], sym, ap, ◌∙◌, arith}
use Rattle.mesh_base.specs.declared.client.Vid.{Vid}
use Rattle.mesh_model.specs.Packets.Bodies.{VlanSum}
use Rattle.mesh_model.specs.Tables.Sums.{with_sum}
use Rattle.mesh_tvlv.specs.Translation.{vid_and_sum}
use Rattle.tt_table.specs.Sums.{named_sums}
use Rattle.node_ground.proofs.ReadingLemmas.{folded_more, some_at}
use Rattle.node_ground.proofs.reading.sums_in.Goals as goal
use Rattle.node_ground.proofs.reading.sums_in.Goals.{in-Some+in_ok-set, in_default}

pub loop-i-preserved : goal.loop-i-preserved
loop-i-preserved c =
    let step : List VlanSum → Vid × ℕ → List VlanSum = λ sums p. with_sum (record { vid = p.0; sum = p.1 }) sums in
    let vlans = c.args.table.now.vlans in
    elim c.match-vlan_at.branch [
      | in-Some+in_ok-set w ↦ ap named_sums w.sums-is ∙ w.in_ok-set.ensures.ok ∙ ap (λ sums. step sums (w.in-Some.vid, w.in-Some.sum)) c.loop-i.invariant
          ∙ sym (folded_more vid_and_sum step vlans c.loop-i.i (w.in-Some.vid, w.in-Some.sum) [] (sym c.vlan_at.ensures ∙ w.in-Some.is))
      | in_default w ↦ absurd (some_at vid_and_sum vlans c.loop-i.i (omega (arith, c.loop-i-test.true, c.vlans-i-end.ensures)) (sym c.vlan_at.ensures ∙ w.in_default.is))
    ]
