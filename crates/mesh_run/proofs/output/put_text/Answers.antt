use Rattle.std.proofs.Common.{arith, rules}
use Rattle.mesh_base.proofs.Pieces.{Appends-next}
use Rattle.mesh_run.proofs.output.put_text.Goals as goal

pub loop-done-preserved : goal.loop-done-preserved
loop-done-preserved g c = let wrote = c.in_ok-done.ensures in record {
  within = search rules;
  written = Appends-next _ _ _ c.args.text.now c.loop-done.done c.in_ok-done.field-0
      c.loop-done.invariant.written wrote.bytes;
  count = omega (arith, wrote.count);
}
