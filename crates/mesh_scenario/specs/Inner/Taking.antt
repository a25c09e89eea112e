-- What a call says that takes the next word of a line as a field: whatever follows the field in its
-- form, the reading goes on behind the word, with the field's value, or it is refused there. No
-- public clause cites this module.
use Rattle.std.specs.Prelude.{◌≡◌, ◌==◌, ℕ, Bool, not, List, Result, Ok, Some}
use Rattle.mesh_model.specs.declared.ending.Refusal.{Refusal}
use Rattle.mesh_model.specs.declared.line_form.Command.{Command}
use Rattle.mesh_model.specs.Scenario.NetForms.{the_gateways}
use Rattle.mesh_model.specs.Scenario.Readings.{Reading, a_field, a_text, a_text_up_to}
use Rattle.mesh_model.specs.Scenario.Terms.{dot}
use Rattle.mesh_model.specs.Scenario.Words.{Word, is_separator}
use Rattle.mesh_scenario.specs.LineErr.{Refuses, reading_of}
use Rattle.mesh_scenario.specs.declared.line_err.LineErr.{LineErr}
use Rattle.mesh_scenario.specs.declared.words.Found.{Found}

-- whether a byte belongs to a word
abbrev pub is_in_word : ℕ → Bool
is_in_word byte = not (is_separator byte)

-- a word that was found, apart from where it lies
abbrev pub word_found : Found → Word
word_found found = record { word = found.word.now; text = found.text.now }

-- the next word has this value, and the others are left
abbrev pub GivesField : {A : Type 0}
    → (List ℕ → Result A Refusal) → List Word → A → List Word → Type 0
GivesField {A} field old value new =
    (next : A → List Word → Reading) → a_field field next old ≡ next value new

-- the next word is missing or refused
abbrev pub FailsField : {A : Type 0} → (List ℕ → Result A Refusal) → List Word → LineErr → Type 0
FailsField {A} field old error =
    (next : A → List Word → Reading) → reading_of error ≡ Some (a_field field next old)

-- the same where memory may be wanting
abbrev pub RefusesField : {A : Type 0} → (List ℕ → Result A Refusal) → List Word → LineErr → Type 0
RefusesField {A} field old error =
    (next : A → List Word → Reading) → Refuses (a_field field next old) error

-- whether a byte stands between the numbers of an IP address
abbrev pub is_dot : ℕ → Bool
is_dot byte = byte == dot

-- the rest of the line is this text
abbrev pub GivesText : List Word → List ℕ → Type 0
GivesText old text = (command : List ℕ → Command) → a_text command old ≡ Ok (command text)

-- there is no text, or memory is wanting
abbrev pub RefusesText : List Word → LineErr → Type 0
RefusesText old error = (command : List ℕ → Command) → Refuses (a_text command old) error

-- the rest of the line is this text, which isn't too long
abbrev pub GivesTextUpTo : ℕ → List Word → List ℕ → Type 0
GivesTextUpTo most old text =
    (command : List ℕ → Command) → a_text_up_to most command old ≡ Ok (command text)

-- there is no text, or it is too long, or memory is wanting
abbrev pub RefusesTextUpTo : ℕ → List Word → LineErr → Type 0
RefusesTextUpTo most old error =
    (command : List ℕ → Command) → Refuses (a_text_up_to most command old) error

-- the other words are the names of these gateways
abbrev pub GivesGateways : List Word → List (List ℕ) → Type 0
GivesGateways old names =
    (command : List (List ℕ) → Command) → the_gateways command old ≡ Ok (command names)

-- the other words aren't gateways, or memory is wanting
abbrev pub RefusesGateways : List Word → LineErr → Type 0
RefusesGateways old error =
    (command : List (List ℕ) → Command) → Refuses (the_gateways command old) error
