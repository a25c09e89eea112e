-- The row of a primary by what is kept of it. No public clause cites this module.
use Rattle.std.specs.Prelude.{ℕ}
use Rattle.mesh_base.specs.declared.address.Mac.{Mac}
use Rattle.mesh_model.specs.declared.service.PrimaryRow.{PrimaryRow}
use Rattle.mesh_model.specs.Knowledge.Known.{Knowledge}
use Rattle.mesh_model.specs.Routes.Queries.{Queries}

-- the row of a primary that announced itself last at a moment
abbrev pub row_at : Queries → Knowledge → ℕ → Mac → ℕ → PrimaryRow
row_at q known now primary announced = record {
  orig = primary;
  announced = announced;
  metric = q.metric known.routes now primary;
}
