use Rattle.mesh_laws.proofs.PieceLemmas.{pieces_are_counted, pieces_make_table, small_tables_are_one_piece}
use Rattle.mesh_laws.proofs.machine_laws.pieces_make_their_table.Goals as goal

pub returns : goal.returns
returns c = record { whole = pieces_make_table; small = small_tables_are_one_piece; counted = pieces_are_counted }
