-- What the answers to requests are seen as, and what they carry. The main words are `RepliesCommit`
-- and `AnswerTells`.
use Rattle.std.specs.Prelude.{◌≡◌, List, Some, Result, Err, IsOk, if◌then◌else◌}
use Rattle.mesh_model.specs.Tables.Answers.{NotHeld, Reply as Answer}
use Rattle.mesh_model.specs.Tables.Judging.{Carried, InFull, InChanges}
use Rattle.mesh_model.specs.Tables.Versions.{Version}
use Rattle.mesh_laws.specs.HeldLaws.{CarriesCommit, stamp_of_commit}
use Rattle.mesh_laws.specs.KnownLaws.{IsToldWhole}
use Rattle.tt_global.specs.Kept.{stamp}
use Rattle.tt_sync.specs.declared.answers.Reply.{Reply}
use Rattle.tt_sync.specs.declared.failure.AnswerErr.{AnswerErr}
use Rattle.tt_sync.specs.declared.failure.AnswerErr.TheVariants.{NotHeld as IsNotHeld, Memory}

-- a reply, as the model has it
abbrev pub answer_in : Reply → Answer
answer_in reply = record {
  full = reply.full;
  stamp = stamp reply.byte reply.sums;
  records = reply.records;
}

-- what a reply carries
abbrev pub carried_in : Reply → Carried
carried_in reply = if reply.full then InFull reply.records else InChanges reply.records

-- a reply carries one of these commits, in full or by the changes that lead to it
abbrev pub RepliesCommit : List Version → Reply → Type 0
RepliesCommit made reply = CarriesCommit made (stamp reply.byte reply.sums) (carried_in reply)

-- a reply is the whole table of a commit, which a node takes that was told of this commit last
abbrev pub RepliesWhole : Version → Reply → Type 0
RepliesWhole commit reply = IsToldWhole (Some (stamp_of_commit commit))
    (stamp reply.byte reply.sums) reply.records

-- a refusal tells why there is no answer; want of memory comes only where there is one
abbrev pub AnswerTells : AnswerErr → Result Answer NotHeld → Type 0
AnswerTells (IsNotHeld held asked vid) wanted =
    wanted ≡ Err (record { held = held; asked = asked; vid = vid })
AnswerTells Memory wanted = IsOk wanted
