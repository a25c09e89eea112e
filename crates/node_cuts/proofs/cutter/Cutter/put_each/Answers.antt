use Rattle.std.proofs.Common.{◌≡◌, ◌+◌, ◌∷◌, [], Ok, Result, ap, arith, length, rules, subst, sym}
use Rattle.std.proofs.lemmas.List.{nil_from_length}
use Rattle.std.proofs.lemmas.Result.{err_from_is_err_and}
use Rattle.std.specs.Result.{OnOk}
use Rattle.std.specs.Vec.Iter.{into_iter_items, into_iter_len}
use Rattle.mesh_model.specs.Acts.Cuts.{after_act, cuts_among}
use Rattle.node_ground.specs.declared.failure.NodeErr.{NodeErr}
use Rattle.node_cuts.specs.Collected.{cutter_of}
use Rattle.node_cuts.proofs.CutLemmas.{counted_all, counting, none_left, puts_rest, stops_at_first}
use Rattle.node_cuts.proofs.cutter.Cutter.put_each.Goals as goal

pub loop-act-preserved : goal.loop-act-preserved
loop-act-preserved g c =
    let now = cutter_of c.loop-act.self in
    let act = c.in-Some.act in
    let rest = into_iter_items c.next.new.self in
    let next : into_iter_items c.loop-act.act-iterator ≡ act ∷ rest = search rules in
    let len : into_iter_len c.next.new.self ≡ length rest = omega (arith, c.loop-act.invariant.0, ap length next, c.next.ensures.steps) in
    let counted : cutter_of c.put.new.self ≡ after_act now act = search rules in (
      len,
      search rules,
      counting c.args.self.now c.loop-act.self c.put.new.self act c.args.acts.items (into_iter_items c.loop-act.act-iterator) rest next counted c.loop-act.invariant.2,
      λ result new left.
          c.loop-act.invariant.3 result new
          (rw next
          (puts_rest g.P.Port.takes g.P.Port.same g.P.Port.over now c.loop-act.port c.put.new.port new act rest tt result c.in_ok-put.ensures.puts
          (rw (sym counted) left))),
    )

pub returns-in_err-put : goal.returns-in_err-put
returns-in_err-put g c =
    let p = err_from_is_err_and c.from_residual.result c.from_residual.ensures.1 in
    let now = cutter_of c.loop-act.self in
    let act = c.in-Some.act in
    let rest = into_iter_items c.next.new.self in
    let next : into_iter_items c.loop-act.act-iterator ≡ act ∷ rest = search rules in
    record {
      puts = rw (p.1, p.2) (c.loop-act.invariant.3 _ c.put.new.port
          (rw next (stops_at_first g.P.Port.takes g.P.Port.same g.P.Port.over now c.loop-act.port c.put.new.port act rest c.in_err-put.field-0.0 c.in_err-put.ensures.puts)));
      counted = subst (λ (r : Result Unit NodeErr). OnOk r (c.put.new.self.cuts ≡ c.args.self.now.cuts + cuts_among c.args.self.now.most c.args.acts.items)) (sym p.1) tt;
    }

pub returns : goal.returns
returns g c =
    let over : into_iter_len c.loop-act.act-iterator ≡ 0 = search rules in
    let none : into_iter_items c.loop-act.act-iterator ≡ [] = nil_from_length (into_iter_items c.loop-act.act-iterator) (omega (arith, c.loop-act.invariant.0, over)) in
    record {
      puts = c.loop-act.invariant.3 (Ok tt) c.loop-act.port (none_left g.P.Port.takes g.P.Port.same g.P.Port.over (cutter_of c.loop-act.self) c.loop-act.port tt (into_iter_items c.loop-act.act-iterator) none c.loop-act.invariant.1);
      counted = counted_all c.args.self.now c.loop-act.self c.args.acts.items (into_iter_items c.loop-act.act-iterator) none c.loop-act.invariant.2;
    }
