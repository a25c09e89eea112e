-- Which gateway a client chooses among those that it knows: by `best` that of the greatest metric,
-- in a tie that of the smaller address; by `stable` its old choice while that is among them; by
-- `late K` its old choice while that is among them and the best one's metric is less than K above
-- its own. The main word is `chosen_gateway`.
use Rattle.std.specs.Prelude.{ℕ, ◌+◌, ◌||◌, ◌&&◌, nat_lt, nat_eq, List, [], ◌∷◌, find, Option, Some, None, option_map, option_and_then, if◌then◌else◌}
use Rattle.std.specs.Option.{option_or}
use Rattle.mesh_base.specs.declared.address.Mac.{Mac}
use Rattle.mesh_model.specs.declared.line_form.Policy.{Policy}
use Rattle.mesh_model.specs.declared.line_form.Policy.TheVariants.{Best, Stable, Late}
use Rattle.mesh_model.specs.declared.service.GwRow.{GwRow}
use Rattle.mesh_model.specs.Routes.Addresses.{is_smaller, same_mac}

-- the better of a row and what is best of others
abbrev pub better_row : GwRow → Option GwRow → GwRow
better_row row None = row
better_row row (Some other) =
    if nat_lt other.metric row.metric
    || (nat_eq other.metric row.metric && is_smaller row.orig other.orig) then row else other

-- the best of some rows
abbrev pub best_row : List GwRow → Option GwRow
best_row [] = None
best_row (row ∷ rest) = Some (better_row row (best_row rest))

-- the row of the old choice, where it is among them
abbrev pub old_row : Option Mac → List GwRow → Option GwRow
old_row old rows =
    option_and_then (λ (mac : Mac). find (λ (row : GwRow). same_mac mac row.orig) rows) old

-- a row, unless the best one's metric is so much above its own
abbrev pub unless_late : ℕ → Option GwRow → GwRow → Option GwRow
unless_late most None row = Some row
unless_late most (Some best) row =
    if nat_lt best.metric (row.metric + most) then Some row else None

-- what is kept of the old choice by a policy, where the best row is this
abbrev pub kept_row : Policy → Option GwRow → Option GwRow → Option GwRow
kept_row Best best old = None
kept_row Stable best old = old
kept_row (Late most) best old = option_and_then (unless_late most best) old

-- the row that is chosen
abbrev pub chosen_row : Policy → Option Mac → List GwRow → Option GwRow
chosen_row policy old rows =
    option_or (kept_row policy (best_row rows) (old_row old rows)) (best_row rows)

-- the gateway that is chosen
abbrev pub chosen_gateway : Policy → Option Mac → List GwRow → Option Mac
chosen_gateway policy old rows = option_map (λ row. row.orig) (chosen_row policy old rows)
