-- How the alias of a commit is looked for: log by log, among the commits of its byte, where one that
-- has the table of a commit that was passed over is passed too. No public clause cites this file.
-- The main word is `IsLeastIn`.
use Rattle.std.specs.Prelude.{◌≡◌, ℕ, ◌<◌, Bool, true, false, List, [], ◌∷◌, Option, None, Some}
use Rattle.mesh_model.specs.Commits.Aliases.{are_aliases}
use Rattle.mesh_model.specs.Commits.Versions.{commit_numbered}
use Rattle.mesh_model.specs.Tables.Versions.{Version}
use Rattle.tt_local.specs.Journal.{HasTableOf}
use Rattle.tt_local.specs.Runs.{is_in}
use Rattle.tt_local.specs.declared.run.Run.{Run}

-- whether two commits are aliases, by their numbers
abbrev pub AreAliasesAt : Bool → ℕ → ℕ → List Version → Type 0
AreAliasesAt answer number earlier commits = (one other : Version) →
    commit_numbered number commits ≡ Some one → commit_numbered earlier commits ≡ Some other →
    answer ≡ are_aliases one other

-- the byte of the commit of a number
abbrev pub HasByte : ℕ → ℕ → List Version → Type 0
HasByte number byte commits =
    (version : Version) → commit_numbered number commits ≡ Some version → version.byte ≡ byte

-- two commits, by their numbers, have one byte
abbrev pub HaveOneByte : ℕ → ℕ → List Version → Type 0
HaveOneByte number earlier commits = (one other : Version) →
    commit_numbered number commits ≡ Some one → commit_numbered earlier commits ≡ Some other →
    one.byte ≡ other.byte

-- no commit that has the table of this one is an alias of the commit of a number whose byte it has
abbrev pub IsPassed : ℕ → ℕ → List Version → Type 0
IsPassed number twin commits = (earlier : ℕ) → HaveOneByte number earlier commits →
    HasTableOf twin earlier commits → AreAliasesAt false number earlier commits

-- nor is one that has the table of one of these
abbrev pub ArePassed : ℕ → List ℕ → List Version → Type 0
ArePassed number [] commits = Unit
ArePassed number (twin ∷ others) commits =
    IsPassed number twin commits × ArePassed number others commits

-- no commit of a log that is older than a number is an alias of the commit of another number
abbrev pub HasNoneIn : Run → ℕ → ℕ → List Version → Type 0
HasNoneIn run bound number commits = (earlier : ℕ) → is_in earlier run ≡ true →
    earlier < bound → AreAliasesAt false number earlier commits

-- a commit of a log is the least alias there of the commit of a number
pub record IsFoundIn (earlier : ℕ) (run : Run) (number : ℕ) (commits : List Version) : Type 0 where
  pub there : is_in earlier run ≡ true
  pub older : earlier < number
  pub alias : AreAliasesAt true number earlier commits
  pub least : HasNoneIn run earlier number commits

-- this is the least alias in a log, if there is one
abbrev pub IsLeastIn : Option ℕ → Run → ℕ → List Version → Type 0
IsLeastIn None run number commits = HasNoneIn run number number commits
IsLeastIn (Some earlier) run number commits = IsFoundIn earlier run number commits
