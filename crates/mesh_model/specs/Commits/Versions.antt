-- The commits of a node, newest first: tables under bytes. The number of a commit is how many are
-- older; a first commit, as commit 0 is, is the empty table under byte 0. The main word is
-- `last_commit`.
use Rattle.std.specs.Prelude.{ℕ, ◌==◌, ◌&&◌, Bool, true, false, List, [], ◌∷◌, length, Option, Some, None, if◌then◌else◌}
use Rattle.mesh_base.specs.declared.client.Entry.{Entry}
use Rattle.mesh_model.specs.Tables.Changes.{changeset, same_entry}
use Rattle.mesh_model.specs.Tables.Versions.{Version}
use Rattle.mesh_model.specs.declared.table_change.Change.{Change}

-- a first commit: the empty table under byte 0
abbrev pub first_commit : Version
first_commit = record { byte = 0; table = [] }

-- the last of some commits
abbrev pub last_commit : List Version → Version
last_commit [] = first_commit
last_commit (newest ∷ older) = newest

-- the commit of a number
abbrev pub commit_numbered : ℕ → List Version → Option Version
commit_numbered number [] = None
commit_numbered number (newest ∷ older) =
    if number == length older then Some newest else commit_numbered number older

-- the changes to a table from the last of the commits before it, where there is one
abbrev pub changes_from : List Version → List Entry → List Change
changes_from [] table = []
changes_from (before ∷ older) table = changeset before.table table

-- the changes that lead to the last of some commits from the one before
abbrev pub changes_to_last : List Version → List Change
changes_to_last [] = []
changes_to_last (newest ∷ older) = changes_from older newest.table

-- whether two tables are one
abbrev pub same_table : List Entry → List Entry → Bool
same_table [] [] = true
same_table [] (second ∷ others) = false
same_table (first ∷ rest) [] = false
same_table (first ∷ rest) (second ∷ others) = same_entry first second && same_table rest others
