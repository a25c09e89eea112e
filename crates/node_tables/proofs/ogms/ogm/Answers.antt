use Rattle.std.proofs.Common.{sym, ◌∙◌, arith}
use Rattle.mesh_laws.proofs.RoomLemmas.{table_fits}
use Rattle.node_tables.proofs.ogms.ogm.Goals as goal

pub heard-requires-clause-fits : goal.heard-requires-clause-fits
heard-requires-clause-fits g c =
    let fits = table_fits c.args.packet.now.tail.now c.in-Some.table (sym c.first_table.ensures ∙ c.in-Some.is) in
    let tail = c.requires.tail in
    omega (arith, fits, tail)
