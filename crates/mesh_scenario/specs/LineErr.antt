-- The cause of each refusal of a line: what `command_of_line` says of it. Want of memory is free.
-- The main word is `Refuses`.
use Rattle.std.specs.Prelude.{◌≡◌, Err, IfSome, Option, Some, None}
use Rattle.mesh_model.specs.Scenario.Readings.{Reading, refused}
use Rattle.mesh_model.specs.declared.ending.LimitName.TheVariants.{Line}
use Rattle.mesh_model.specs.declared.ending.Refusal.TheVariants as because
use Rattle.mesh_model.specs.declared.ending.Stop.TheVariants.{Limit}
use Rattle.mesh_scenario.specs.declared.line_err.LineErr.{LineErr}
use Rattle.mesh_scenario.specs.declared.line_err.LineErr.TheVariants.{TooLong, BadUtf8, UnknownCommand, MissingWord, BadName, BadMac, BadNumber, OutOfRange, ExtraWord, Memory}

-- the reading of a line that is refused for this; want of memory is no reading of a line
abbrev pub reading_of : LineErr → Option Reading
reading_of TooLong = Some (Err (Limit Line))
reading_of BadUtf8 = Some (refused because.BadUtf8)
reading_of UnknownCommand = Some (refused because.UnknownCommand)
reading_of MissingWord = Some (refused because.MissingWord)
reading_of BadName = Some (refused because.BadName)
reading_of BadMac = Some (refused because.BadMac)
reading_of BadNumber = Some (refused because.BadNumber)
reading_of OutOfRange = Some (refused because.OutOfRange)
reading_of ExtraWord = Some (refused because.ExtraWord)
reading_of Memory = None

-- the wanted reading is a refusal, and for this cause
abbrev pub Refuses : Reading → LineErr → Type 0
Refuses wanted error = IfSome (reading_of error) (λ reading. wanted ≡ reading)
