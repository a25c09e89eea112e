use Rattle.std.proofs.Common.{option_map, sym, ap, ◌∙◌}
use Rattle.mesh_model.specs.Run.KnownTables.{held_entries}
use Rattle.tt_global.specs.Globals.{asked_version}
use Rattle.mesh_show.proofs.known.entries_of.Goals as goal

pub returns-in-Some : goal.returns-in-Some
returns-in-Some c = λ calls stands.
    c.as_slice.ensures ∙ ap held_entries (ap (option_map asked_version) (sym c.in-Some.is) ∙ c.held.ensures calls stands)

pub returns-in-None : goal.returns-in-None
returns-in-None c = λ calls stands. ap held_entries (ap (option_map asked_version) (sym c.in-None.is) ∙ c.held.ensures calls stands)
