use Rattle.std.proofs.Common.{ℕ, List, sym, ap, ◌∙◌, arith}
use Rattle.mesh_base.specs.declared.client.Vid.{Vid}
use Rattle.mesh_model.specs.Packets.BodySpellings.{vlan_spelling}
use Rattle.mesh_tvlv.specs.Translation.{vid_and_sum}
use Rattle.tt_table.specs.Sums.{named_sums}
use Rattle.node_ground.proofs.ReadingLemmas.{some_at, spelled_more}
use Rattle.node_ground.proofs.packing.put_vlans.Goals as goal
use Rattle.node_ground.proofs.packing.put_vlans.Goals.{in-Some+in_ok-write_vlan, in_default}

pub loop-i-preserved : goal.loop-i-preserved
loop-i-preserved c =
    let spell : Vid × ℕ → List ℕ = λ p. vlan_spelling (record { vid = p.0; sum = p.1 }) in
    let sums = named_sums c.args.sums.now in
    let so_far = c.loop-i.invariant in
    elim c.match-at.branch [
      | in-Some+in_ok-write_vlan w ↦
          let longer = w.in_ok-write_vlan.ensures.longer in
          let same = w.out-is in (
            spelled_more vid_and_sum spell sums c.loop-i.i (w.in-Some.vid, w.in-Some.sum) c.args.out.now.items c.loop-i.out.items c.match-at.out.items
                (sym c.at.ensures.at_place ∙ w.in-Some.is) so_far.0 (ap (λ p. p.items) same ∙ w.in_ok-write_vlan.ensures.ok),
            rw same (omega (arith, longer, so_far.1)),
          )
      | in_default w ↦ absurd (some_at vid_and_sum sums c.loop-i.i (omega (arith, c.loop-i-test.true, c.len-i-end.ensures)) (sym c.at.ensures.at_place ∙ w.in_default.is))
    ]
