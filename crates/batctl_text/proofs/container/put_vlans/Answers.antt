use Rattle.std.proofs.Common.{ℕ, List, sym, ap, ◌∙◌, arith}
use Rattle.mesh_base.specs.declared.client.Vid.{Vid}
use Rattle.mesh_model.specs.Text.Tables.{vlan_line}
use Rattle.mesh_tvlv.specs.Translation.{vid_and_sum}
use Rattle.batctl_text.proofs.LinesLemmas.{appended_more, some_at}
use Rattle.batctl_text.proofs.container.put_vlans.Goals as goal
use Rattle.batctl_text.proofs.container.put_vlans.Goals.{in-Some+in_ok-vlan_line, in_default}

pub loop-i-preserved : goal.loop-i-preserved
loop-i-preserved c =
    let line : Vid × ℕ → List ℕ = λ p. vlan_line (record { vid = p.0; sum = p.1 }) in
    let vlans = c.args.table.now.vlans in
    elim c.match-vlan_at.branch [
      | in-Some+in_ok-vlan_line w ↦ appended_more vid_and_sum line vlans c.loop-i.i (w.in-Some.vid, w.in-Some.sum) c.args.out.now.items c.loop-i.out.items c.match-vlan_at.out.items
          (sym c.vlan_at.ensures ∙ w.in-Some.is) c.loop-i.invariant (ap (λ p. p.items) w.out-is ∙ w.in_ok-vlan_line.ensures.ok)
      | in_default w ↦ absurd (some_at vid_and_sum vlans c.loop-i.i (omega (arith, c.loop-i-test.true, c.vlans-i-end.ensures)) (sym c.vlan_at.ensures ∙ w.in_default.is))
    ]
