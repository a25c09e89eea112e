-- What a node shows of what it knows of the others' clients: a part for each live originator that
-- announced something, and the marks that stand. The main word is `parts_at`.
use Rattle.std.specs.Prelude.{ℕ, List, [], filter_map, Option, Some, None, option_map}
use Rattle.mesh_base.specs.declared.address.Mac.{Mac}
use Rattle.mesh_base.specs.declared.client.Entry.{Entry}
use Rattle.mesh_model.specs.Knowledge.Known.{Knowledge, known_at}
use Rattle.mesh_model.specs.Routes.Queries.{Queries}
use Rattle.mesh_model.specs.Tables.Known.{Known, originators_by, global_row}
use Rattle.mesh_model.specs.Tables.Versions.{Version}
use Rattle.mesh_model.specs.Text.GlobalTables.{GlobalPart}

-- the entries that are held
abbrev pub held_entries : Option Version → List Entry
held_entries None = []
held_entries (Some held) = held.table

-- the part of an originator, where something was told
abbrev pub part_of : Mac → Known → Option GlobalPart
part_of orig known = option_map
    (λ row. record { row = row; entries = held_entries known.held }) (global_row orig known)

-- the parts of a node's table at a moment
abbrev pub parts_at : Queries → Knowledge → ℕ → List GlobalPart
parts_at q known now =
    filter_map (λ orig. part_of orig (known_at q known now orig)) (originators_by known.tables)
