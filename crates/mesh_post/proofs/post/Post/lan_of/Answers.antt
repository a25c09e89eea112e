use Rattle.std.proofs.Common.{◌≡◌, ℕ, List, true, false, slice_get, Some, sym, ◌∙◌, arith}
use Rattle.mesh_post.proofs.ActLemmas.{lan_here, no_more_lans}
use Rattle.mesh_post.proofs.LookUps.{got}
use Rattle.mesh_post.proofs.post.Post.lan_of.Goals as goal

pub returns-then-has : goal.returns-then-has
returns-then-has c =
    let lans : List (List ℕ) = c.args.self.now.lans.items in
    let found : slice_get lans c.loop-lan.lan ≡ Some c.index.result.now = got lans c.loop-lan.lan c.index.result.now (omega arith) c.index.ensures in
    sym (lan_here c.args.node lans c.loop-lan.lan c.index.result.now true found (sym c.has.ensures ∙ c.if-has.true)) ∙ c.loop-lan.invariant

pub loop-lan-preserved : goal.loop-lan-preserved
loop-lan-preserved c =
    let lans : List (List ℕ) = c.args.self.now.lans.items in
    let found : slice_get lans c.loop-lan.lan ≡ Some c.index.result.now = got lans c.loop-lan.lan c.index.result.now (omega arith) c.index.ensures in
    sym (lan_here c.args.node lans c.loop-lan.lan c.index.result.now false found (sym c.has.ensures ∙ c.if-has.false)) ∙ c.loop-lan.invariant

pub returns : goal.returns
returns c = sym (sym c.loop-lan.invariant ∙ no_more_lans c.args.node c.args.self.now.lans.items c.loop-lan.lan (omega arith))
