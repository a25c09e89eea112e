use Rattle.std.proofs.Common.{◌≡◌, ◌∙◌, rules, sym, Some, slice_get}
use Rattle.mesh_model.specs.Tables.Known.{holders_by}
use Rattle.node_ground.proofs.HolderLemmas.{walk_begins, walk_on_live, walk_on_other, walk_is_whole}
use Rattle.node_ground.proofs.knowledge.NodeKnowledge.best_holder.Goals as goal
use Rattle.node_ground.proofs.knowledge.NodeKnowledge.best_holder.Goals.{then-live, else-live}

pub loop-i-init : goal.loop-i-init
loop-i-init g c = λ me known is.
    walk_begins (g.A.Algo.queries me) known c.args.now c.args.key c.len-i-end.result (c.len-i-end.ensures known.tables is.tables)

pub loop-i-preserved : goal.loop-i-preserved
loop-i-preserved g c = λ me known is.
    let q = g.A.Algo.queries me in
    let walked = c.loop-i.invariant me known is in
    let at : Some c.in-Some.orig ≡ slice_get (holders_by known.tables c.args.key) c.loop-i.i = sym c.in-Some.is ∙ c.holder.ensures.at_place known.tables is.tables in
    let live = c.live.ensures me known.routes is.routes in
    elim c.if-live.branch [
      | then-live w ↦ walk_on_live q known c.args.now c.args.key c.loop-i.best c.loop-i.i c.len-i-end.result c.in-Some.orig c.if-live.best c.live.result walked at live w.if-live.true
          (w.best-is ∙ w.better-best.ensures me known is)
      | else-live w ↦ walk_on_other q known c.args.now c.args.key c.loop-i.best c.loop-i.i c.len-i-end.result c.in-Some.orig c.if-live.best c.live.result walked at live w.if-live.false w.best-is
    ]

pub returns : goal.returns
returns g c = λ me known is.
    walk_is_whole (g.A.Algo.queries me) known c.args.now c.args.key c.loop-i.best c.loop-i.i c.len-i-end.result (c.loop-i.invariant me known is) (search rules)
