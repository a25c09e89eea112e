-- The reading of a line's words from left to right. A form is a chain of fields, each the next
-- word, and ends with the last word or in a text, which is the rest of the line. A word may also
-- choose the form of those behind it. The first word that is missing or refused refuses the line; a
-- word too many is looked at last. The main word is `Reading`.
use Rattle.std.specs.Prelude.{ℕ, nat_le, List, [], ◌∷◌, length, bytes_eq, Result, Ok, Err, if◌then◌else◌}
use Rattle.std.specs.Map.{lookup}
use Rattle.std.specs.Option.{option_map_or}
use Rattle.mesh_base.specs.declared.address.Mac.{Mac}
use Rattle.mesh_base.specs.declared.client.Key.{Key}
use Rattle.mesh_model.specs.declared.ending.Refusal.{Refusal}
use Rattle.mesh_model.specs.declared.ending.Refusal.TheVariants.{MissingWord, OutOfRange, ExtraWord}
use Rattle.mesh_model.specs.declared.ending.Stop.{Stop}
use Rattle.mesh_model.specs.declared.ending.Stop.TheVariants.{Refused}
use Rattle.mesh_model.specs.declared.line_form.Command.{Command}
use Rattle.mesh_model.specs.Scenario.Fields.{vid_field}
use Rattle.mesh_model.specs.Scenario.Words.{Word}

-- what a line gives: a command, or what ends the run there
abbrev pub Reading : Type 0
Reading = Result Command Stop

-- the reading of a line that is refused
abbrev pub refused : Refusal → Reading
refused refusal = Err (Refused refusal)

-- what follows a field that was read
abbrev pub after_field : {A : Type 0}
    → (A → List Word → Reading) → List Word → Result A Refusal → Reading
after_field next words (Ok value) = next value words
after_field next words (Err refusal) = refused refusal

-- the next word as a field, and what follows it
abbrev pub a_field : {A : Type 0}
    → (List ℕ → Result A Refusal) → (A → List Word → Reading) → List Word → Reading
a_field field next [] = refused MissingWord
a_field field next (first ∷ rest) = after_field next rest (field first.word)

-- an address of this kind and a VLAN as a key, and what follows them
abbrev pub a_key : (List ℕ → Result Mac Refusal) → (Key → List Word → Reading) → List Word → Reading
a_key field next =
    a_field field (λ mac. a_field vid_field (λ vid. next (record { mac = mac; vid = vid })))

-- the rest of the line as a text
abbrev pub a_text : (List ℕ → Command) → List Word → Reading
a_text command [] = refused MissingWord
a_text command (first ∷ rest) = Ok (command first.text)

-- the rest of the line as a text of at most so many bytes
abbrev pub a_text_up_to : ℕ → (List ℕ → Command) → List Word → Reading
a_text_up_to most command [] = refused MissingWord
a_text_up_to most command (first ∷ rest) =
    if nat_le (length first.text) most then Ok (command first.text) else refused OutOfRange

-- the form that a word begins, of those that are listed; any other word is refused
abbrev pub listed_form : List (List ℕ × (List Word → Reading)) → Refusal → List ℕ → List Word
    → Reading
listed_form forms refusal word words =
    option_map_or (λ read. read words) (lookup (bytes_eq word) forms) (refused refusal)

-- no more words
abbrev pub the_end : Command → List Word → Reading
the_end command [] = Ok command
the_end command (extra ∷ rest) = refused ExtraWord
