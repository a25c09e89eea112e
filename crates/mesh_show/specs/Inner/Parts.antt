-- The parts of what a node knows of the others' clients, by row: the rows of the live originators,
-- and the part of each, with the entries that are held. The main words are `live_row` and
-- `held_part`.
use Rattle.std.specs.Prelude.{ℕ, Option}
use Rattle.mesh_base.specs.declared.address.Mac.{Mac}
use Rattle.mesh_model.specs.declared.table_row.GlobalRow.{GlobalRow}
use Rattle.mesh_model.specs.Knowledge.Known.{Knowledge, known_at}
use Rattle.mesh_model.specs.Routes.Queries.{Queries}
use Rattle.mesh_model.specs.Run.KnownTables.{held_entries}
use Rattle.mesh_model.specs.Tables.Known.{TableCalls, known_by, global_row}
use Rattle.mesh_model.specs.Text.GlobalTables.{GlobalPart}

-- the row of an originator, where it is live and announced something
abbrev pub live_row : Queries → Knowledge → ℕ → Mac → Option GlobalRow
live_row q known now orig = global_row orig (known_at q known now orig)

-- the part of a row's originator, with what is held of it after all that came
abbrev pub held_part : TableCalls → GlobalRow → GlobalPart
held_part calls row =
    record { row = row; entries = held_entries (known_by calls row.orig).held }
