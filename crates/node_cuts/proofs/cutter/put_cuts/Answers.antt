use Rattle.std.proofs.Common.{◌≡◌, ◌+◌, ap, map, drop, slice_get, Some, rules, subst}
use Rattle.std.proofs.lemmas.Result.{err_from_is_err_and}
use Rattle.mesh_model.specs.Acts.Cuts.{fragment_act}
use Rattle.node_cuts.proofs.CutLemmas.{GoesOnFrom, from_place, one_further, stops_there}
use Rattle.node_cuts.proofs.cutter.put_cuts.Goals as goal

pub returns-in_err-put_fragment : goal.returns-in_err-put_fragment
returns-in_err-put_fragment g c =
    let p = err_from_is_err_and c.from_residual.result c.from_residual.ensures.1 in
    let cuts = c.args.cuts.now in
    let place = c.loop-place.place in
    let found : slice_get cuts place ≡ Some (c.in-Some.head, c.in-Some.tail.now) = search rules in
    rw (p.1, p.2)
    (stops_there g.P.Port.takes g.P.Port.same g.P.Port.over c.in_err-put_fragment.field-0.0 c.args.port.now c.loop-place.port c.put_fragment.new.port (map (fragment_act c.args.to) cuts)
    (fragment_act c.args.to (c.in-Some.head, c.in-Some.tail.now)) (map (fragment_act c.args.to) (drop (place + 1) cuts))
    (subst (GoesOnFrom g.P.Port.takes g.P.Port.same g.P.Port.over c.args.port.now (map (fragment_act c.args.to) cuts) c.loop-place.port) (ap (map (fragment_act c.args.to)) (from_place cuts place (c.in-Some.head, c.in-Some.tail.now) found)) c.loop-place.invariant)
    c.in_err-put_fragment.ensures)

pub loop-place-preserved : goal.loop-place-preserved
loop-place-preserved g c =
    let cuts = c.args.cuts.now in
    let place = c.loop-place.place in
    let found : slice_get cuts place ≡ Some (c.in-Some.head, c.in-Some.tail.now) = search rules in
    one_further g.P.Port.takes g.P.Port.same g.P.Port.over c.args.port.now c.loop-place.port c.put_fragment.new.port (map (fragment_act c.args.to) cuts)
    (fragment_act c.args.to (c.in-Some.head, c.in-Some.tail.now)) (map (fragment_act c.args.to) (drop (place + 1) cuts))
    (subst (GoesOnFrom g.P.Port.takes g.P.Port.same g.P.Port.over c.args.port.now (map (fragment_act c.args.to) cuts) c.loop-place.port) (ap (map (fragment_act c.args.to)) (from_place cuts place (c.in-Some.head, c.in-Some.tail.now) found)) c.loop-place.invariant)
    c.in_ok-put_fragment.ensures
