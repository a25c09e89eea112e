-- What holds of the commits of a node. The main word is `NoAliasWasSeen`.
use Rattle.std.specs.Prelude.{◌≡◌, ℕ, ◌<◌, List, ◌∷◌, None, length}
use Rattle.mesh_base.specs.declared.client.Entry.{Entry}
use Rattle.mesh_model.specs.Commits.Aliases.{alias_of}
use Rattle.mesh_model.specs.Tables.Versions.{Version}
use Rattle.mesh_laws.specs.Machine.Agreement.{HasNoAlias}
use Rattle.tt_local.specs.Journal.{HasTable}

-- the table of a commit stays that of its number, whatever comes after it
abbrev pub TablesStay : Type 0
TablesStay = (number : ℕ) (table : List Entry) (version : Version) (commits : List Version) →
    HasTable number table commits → HasTable number table (version ∷ commits)

-- commits of which none has an alias have no two tables under one byte and the same checksums
abbrev pub NoAliasWasSeen : Type 0
NoAliasWasSeen = (commits : List Version) → ((number : ℕ) → number < length commits →
    alias_of number commits ≡ None) → HasNoAlias commits
