use Rattle.std.proofs.Common.{◌∙◌, arith}
use Rattle.mesh_generate.proofs.LineLemmas.{drawn_more, no_seconds, nothing_drawn, seconds_more}
use Rattle.mesh_generate.proofs.input.put_traffic.Goals as goal

pub loop-second-init : goal.loop-second-init
loop-second-init c =
    (no_seconds c.args.out.now.items c.args.nodes, c.from-x.ensures ∙ nothing_drawn c.args.nodes, omega (arith, c.from-x.ensures, c.requires.few))

pub loop-second-preserved : goal.loop-second-preserved
loop-second-preserved c =
    let l = c.loop-second in (
      seconds_more c.args.out.now.items l.out.items c.put_second.new.out.items c.args.nodes l.second l.x l.invariant.0 l.invariant.1 c.in_ok-x.ensures.lines,
      drawn_more c.args.nodes l.second l.x c.in_ok-x.x l.invariant.1 c.in_ok-x.ensures.x,
      c.in_ok-x.ensures.within,
    )
