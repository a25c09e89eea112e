use Rattle.std.proofs.Common.{◌≡◌, ◌∙◌, ap, refl, Option, Some, None}
use Rattle.std.specs.Prelude.{is_some, option_map}
use Rattle.mesh_model.specs.declared.table_row.LocalRow.{LocalRow}
use Rattle.mesh_model.specs.Clients.Present.{present_row}
use Rattle.node_ground.proofs.deliveries.is_present.Goals as goal

pub returns : goal.returns
returns c = λ own owns.
    c.is_some.ensures ∙ ap is_some (c.present.ensures own.mentions owns.history owns.since owns.stand owns.settled)
    ∙ with_flags (present_row own.mentions c.args.now c.args.key)
  where
    with_flags : (o : Option LocalRow) → is_some (option_map (λ row. row.entry.flags) o) ≡ is_some o
    with_flags None = refl
    with_flags (Some row) = refl
