-- What an answer for a table carries, by what it brings. The main word is `carried_by`.
use Rattle.std.specs.Prelude.{List}
use Rattle.mesh_model.specs.declared.table_change.Change.{Change}
use Rattle.mesh_model.specs.Tables.Judging.{Carried, InChanges, InFull, InPart}
use Rattle.node_tables.specs.declared.answers.AnswerKind.{AnswerKind}
use Rattle.node_tables.specs.declared.answers.AnswerKind.TheVariants.{Changes, Full, Part}

-- what an answer that brings this carries, with these records
abbrev pub carried_by : AnswerKind → List Change → Carried
carried_by Full records = InFull records
carried_by (Part number count) records = InPart number count records
carried_by Changes records = InChanges records
