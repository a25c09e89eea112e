use Rattle.std.proofs.Common.{refl, rules}
use Rattle.mesh_model.specs.Text.GlobalTables.{entry_line}
use Rattle.mesh_show.proofs.RowLemmas.{then_rows}
use Rattle.mesh_show.proofs.known.put_part.Goals as goal

pub returns : goal.returns
returns c = record {
  ok = λ calls stands.
      let held = c.entries_of-entries.ensures calls stands in
      let lines = c.put_lines.ensures entry_line (λ old shown answer new put. search rules) in
      rw (← held) (then_rows c.put_lines.result entry_line _ c.args.out.now.items c.global_line.new.out.items c.put_lines.new.out.items c.entries_of-entries.result.now c.entries_of-entries.result.now refl c.in_ok-global_line.ensures.ok lines);
}
