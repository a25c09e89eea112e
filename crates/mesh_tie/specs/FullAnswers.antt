-- What repairs a table: the answer in full that an originator makes from a commit is taken wherever
-- that commit was told last, whatever is held, and the tables agree then. So it is where it comes in
-- parts, in any order and some more than once. It asks for nothing of aliases. The main words are
-- `FullAnswersRepair` and `PartsRepair`.
use Rattle.std.specs.Prelude.{◌≡◌, ◌≤◌, ℕ, List, ◌∷◌, ◌++◌, length, Some, IsTrue}
use Rattle.mesh_base.specs.declared.address.Mac.{Mac}
use Rattle.mesh_model.specs.declared.table_change.Change.{Change}
use Rattle.mesh_model.specs.declared.table_outcome.Taken.TheVariants.{Taken}
use Rattle.mesh_model.specs.Clients.Limits.{clients_limit}
use Rattle.mesh_model.specs.Clients.Log.{Log}
use Rattle.mesh_model.specs.Commits.History.{commits}
use Rattle.mesh_model.specs.Tables.Answers.{full_reply, numbered_part}
use Rattle.mesh_model.specs.Tables.Judging.{InFull, InPart, answer_row}
use Rattle.mesh_model.specs.Tables.Known.{Known, TableCalls, answered, is_agreed, known_by, stamp_of}
use Rattle.mesh_model.specs.Tables.Pieces.{piece_count}
use Rattle.mesh_model.specs.Tables.Versions.{Version}
use Rattle.mesh_laws.specs.Machine.World.{IsCommit}
use Rattle.mesh_laws.specs.HeldLaws.{stamp_of_commit}
use Rattle.mesh_laws.specs.KnownLaws.{IsLastPart, part_comes}

-- an answer in full from a commit that was told last is taken, and what is known agrees then
abbrev pub FullAnswersRepair : Type 0
FullAnswersRepair = (me : Mac) (log : Log) (commit : Version) → IsCommit (commits me log) commit →
    (known : Known) → stamp_of known ≡ Some (stamp_of_commit commit) →
    ((answer_row (stamp_of known) known.held known.gathered (full_reply commit).stamp
    (InFull (full_reply commit).records)).outcome ≡ Taken)
    × IsTrue (is_agreed
    (answered (full_reply commit).stamp (InFull (full_reply commit).records) known))

-- how many parts the answer in full from a commit has
abbrev pub parts_of_full : Version → ℕ
parts_of_full commit = piece_count (full_reply commit).records

-- the records of one of them, by its number
abbrev pub full_part : Version → ℕ → List Change
full_part commit number = (numbered_part (full_reply commit) number).reply.records

-- where the commit was told last, before any of its parts came, the last one that was missing is
-- taken, and what is known agrees then
abbrev pub PartsRepair : Type 0
PartsRepair = (me : Mac) (log : Log) (commit : Version) → IsCommit (commits me log) commit →
    length commit.table ≤ clients_limit → (before came : TableCalls) (number : ℕ) →
    IsLastPart me before came (stamp_of_commit commit) (full_reply commit).stamp
    (parts_of_full commit) number (full_part commit) →
    ((answer_row (stamp_of (known_by (came ++ before) me)) (known_by (came ++ before) me).held
    (known_by (came ++ before) me).gathered (full_reply commit).stamp
    (InPart number (parts_of_full commit) (full_part commit number))).outcome ≡ Taken)
    × IsTrue (is_agreed (known_by (part_comes me (full_reply commit).stamp (parts_of_full commit)
    number (full_part commit) ∷ came ++ before) me))
