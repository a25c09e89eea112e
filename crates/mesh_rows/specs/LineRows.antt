-- What is said of a single line as it stands in an input: the command that it gives, or why it is
-- refused. The main words are `Gives` and `IsRefusedFor`.
use Rattle.std.specs.Prelude.{◌≡◌, ℕ, List, [], ◌∷◌, Ok}
use Rattle.mesh_base.specs.declared.address.Mac.{Mac}
use Rattle.mesh_base.specs.declared.client.Vid.{Vid}
use Rattle.mesh_model.specs.declared.ending.Refusal.{Refusal}
use Rattle.mesh_model.specs.declared.line_form.Command.{Command}
use Rattle.mesh_model.specs.Scenario.Commands.{command_of_line}
use Rattle.mesh_model.specs.Scenario.Lines.{content}
use Rattle.mesh_model.specs.Scenario.Readings.{refused}

-- the line gives this command
abbrev pub Gives : List ℕ → Command → Type 0
Gives line command = command_of_line (content line) ≡ Ok command

-- the line is refused for this
abbrev pub IsRefusedFor : List ℕ → Refusal → Type 0
IsRefusedFor line refusal = command_of_line (content line) ≡ refused refusal

-- the address of a client
abbrev pub client : Mac
client = record { 0 = 2 ∷ 0 ∷ 0 ∷ 0 ∷ 1 ∷ 7 ∷ [] }

-- the address of all stations
abbrev pub everyone : Mac
everyone = record { 0 = 255 ∷ 255 ∷ 255 ∷ 255 ∷ 255 ∷ 255 ∷ [] }

-- a VLAN by its wire number
abbrev pub vlan : ℕ → Vid
vlan number = record { 0 = number }
