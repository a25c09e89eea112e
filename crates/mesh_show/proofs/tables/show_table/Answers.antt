use Rattle.mesh_show.proofs.TableLemmas.{table-behind}
use Rattle.mesh_show.proofs.tables.show_table.Goals as goal

pub returns-clause-ok : goal.returns-clause-ok
returns-clause-ok g c = λ state row seen at.
    table-behind state c.args.table row c.new-text.result.items c.show.new.out.items c.as_slice.result.now c.args.out.now.items c.extend_from_slice.new.self.items
    c.new-text.ensures.items c.as_slice.ensures.value (c.in_ok-show.ensures.ok state row seen at) c.in_ok-extend_from_slice.ensures.items
