use Rattle.std.proofs.Common.{◌≡◌, ℕ, length, Some, option_map, slice_get, refl, sym, ap, ap₂, ◌∙◌, arith}
use Rattle.mesh_base.specs.declared.client.Vid.{Vid}
use Rattle.mesh_model.specs.Packets.Bodies.{VlanSum}
use Rattle.mesh_tvlv.specs.Translation.{vid_and_sum}
use Rattle.tt_table.specs.Sums.{named_sums}
use Rattle.node_ground.proofs.ReadingLemmas.{same_lists, same_up_to}
use Rattle.node_ground.proofs.reading.tells.Goals as goal

pub loop-i-preserved : goal.loop-i-preserved
loop-i-preserved c =
    let vlans = c.args.table.now.vlans in
    let named = named_sums c.args.sums.now in
    let same : Some (c.in-Some.vid, c.in-Some.sum) ≡ Some (c.in-Some-at.named, c.in-Some-at.kept) =
    ap₂ (λ (n k : ℕ). Some (record { 0 = n }, k)) c.if-vid-named.false c.if-sum-kept.false in
    same_up_to (λ i. option_map vid_and_sum (slice_get vlans i)) (λ i. option_map vid_and_sum (slice_get named i)) c.loop-i.i c.loop-i.invariant
    (sym c.vlan_at.ensures ∙ c.in-Some.is ∙ same ∙ sym c.in-Some-at.is ∙ c.at.ensures.at_place)

pub returns : goal.returns
returns c =
    let vlans = c.args.table.now.vlans in
    let named = named_sums c.args.sums.now in
    let exact : (x y : VlanSum) → vid_and_sum x ≡ vid_and_sum y → x ≡ y = λ x y same. ap (λ (p : Vid × ℕ). record { vid = p.0; sum = p.1 }) same in
    let counted : length vlans ≡ length named = sym c.vlans.ensures ∙ c.if-vlans-len.false ∙ c.len.ensures in (
      λ yes. (
        sym c.ttvn.ensures ∙ c.if-ttvn-byte.false,
        same_lists vid_and_sum vlans named exact counted (λ i lt. c.loop-i.invariant i (omega (arith, lt, c.loop-i-test.false, c.vlans-i-end.ensures))),
      ),
      λ is. refl,
    )
