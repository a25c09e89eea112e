-- The alias of a commit: the least earlier commit that has the same byte and the same checksums and
-- another table. Checksums are compared for all VLANs, so one that is 0 counts as none. The main
-- word is `alias_of`.
use Rattle.std.specs.Prelude.{ℕ, suc, ◌-◌, ◌==◌, ◌&&◌, Bool, not, List, [], ◌∷◌, length, drop, Option, Some, None, is_none, if◌then◌else◌}
use Rattle.std.specs.Option.{option_or}
use Rattle.mesh_model.specs.Tables.Differences.{first_difference}
use Rattle.mesh_model.specs.Tables.Sums.{sums_of}
use Rattle.mesh_model.specs.Tables.Versions.{Version}
use Rattle.mesh_model.specs.Commits.Versions.{same_table}

-- whether two commits can be taken for one another: byte and checksums are the same, tables aren't
abbrev pub are_aliases : Version → Version → Bool
are_aliases one other = (one.byte == other.byte)
    && (is_none (first_difference (sums_of one.table) (sums_of other.table))
    && not (same_table one.table other.table))

-- the least number of the commits before a commit that can be taken for it
abbrev pub alias_before : Version → List Version → Option ℕ
alias_before commit [] = None
alias_before commit (before ∷ older) = option_or (alias_before commit older)
    (if are_aliases commit before then Some (length older) else None)

-- the alias of the last of some commits
abbrev pub last_alias : List Version → Option ℕ
last_alias [] = None
last_alias (newest ∷ older) = alias_before newest older

-- the commits up to the one of a number, itself included
abbrev pub commits_until : ℕ → List Version → List Version
commits_until number commits = drop (length commits - suc number) commits

-- the alias of the commit of a number
abbrev pub alias_of : ℕ → List Version → Option ℕ
alias_of number commits = last_alias (commits_until number commits)
