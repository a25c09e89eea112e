-- The forms of lines to alfred, the fact store. What it does at a node is named by a word of its
-- own, which is refused by `out of range` where it isn't one of those below. The main word is
-- `read_alfred`.
use Rattle.std.specs.Prelude.{ℕ, List, [], ◌∷◌, codes, Result}
use Rattle.mesh_model.specs.declared.ending.Refusal.{Refusal}
use Rattle.mesh_model.specs.declared.ending.Refusal.TheVariants.{OutOfRange}
use Rattle.mesh_model.specs.declared.line_form.Command.TheVariants.{Alfred, Put, Get}
use Rattle.mesh_model.specs.Scenario.Fields.{word_field, name_field, number_field, number_up_to, alfred_mode_field}
use Rattle.mesh_model.specs.Scenario.Readings.{Reading, a_field, a_text_up_to, listed_form, the_end}
use Rattle.mesh_model.specs.Scenario.Words.{Word}

-- the least type of a fact
abbrev pub least_fact_type : ℕ
least_fact_type = 64

-- the greatest type of a fact
abbrev pub fact_type_limit : ℕ
fact_type_limit = 255

-- the greatest version of a fact
abbrev pub fact_version_limit : ℕ
fact_version_limit = 255

-- a type of facts
abbrev pub fact_type_field : List ℕ → Result ℕ Refusal
fact_type_field = number_field least_fact_type fact_type_limit

-- the most bytes of a fact's text
abbrev pub fact_limit : ℕ
fact_limit = 1000

-- alfred NODE mode M
abbrev pub read_mode : List ℕ → List Word → Reading
read_mode node = a_field alfred_mode_field (λ mode. the_end (Alfred node mode))

-- alfred NODE put TYPE VERSION TEXT
abbrev pub read_put : List ℕ → List Word → Reading
read_put node =
    a_field fact_type_field (λ type_no. a_field (number_up_to fact_version_limit) (λ version.
    a_text_up_to fact_limit (λ text. Put node type_no version text)))

-- alfred NODE get TYPE
abbrev pub read_get : List ℕ → List Word → Reading
read_get node = a_field fact_type_field (λ type_no. the_end (Get node type_no))

-- what alfred does at a node
abbrev pub read_alfred_form : List ℕ → List ℕ → List Word → Reading
read_alfred_form node = listed_form (
    (codes "mode", read_mode node) ∷ (codes "put", read_put node) ∷ (codes "get", read_get node)
    ∷ []) OutOfRange

-- alfred NODE ..
abbrev pub read_alfred : List Word → Reading
read_alfred = a_field name_field (λ node. a_field word_field (read_alfred_form node))
