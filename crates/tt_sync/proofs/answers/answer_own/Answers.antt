use Rattle.std.proofs.Common.{◌∙◌}
use Rattle.mesh_model.specs.Commits.Announcements.{told_changes}
use Rattle.mesh_model.specs.Commits.Versions.{last_commit}
use Rattle.tt_sync.proofs.AnswerLemmas.{answers_changes, answers_whole}
use Rattle.tt_sync.proofs.CarryLemmas.{own_carries, own_whole}
use Rattle.tt_sync.specs.Answers.{answer_in}
use Rattle.tt_table.specs.Sums.{named_sums}
use Rattle.tt_sync.proofs.answers.answer_own.Goals as goal

pub returns-clause-answer : goal.returns-clause-answer
returns-clause-answer c = λ mentions history since stands.
    answers_changes c.args.full c.args.byte c.last_byte-last.result (named_sums c.in_ok-sums.sums) c.in_ok-records.records c.in-Some.changes.now
    (last_commit history.commits) (told_changes history) (c.last_byte-last.ensures mentions history since stands)
    (c.in_ok-sums.ensures.named ∙ c.last_sums.ensures mentions history since stands) c.in_ok-records.ensures
    (c.in-Some.ensures mentions history since stands)

pub returns-clause-commit : goal.returns-clause-commit
returns-clause-commit c = λ mentions history since stands.
    own_carries _ history stands.journal c.args.full c.args.byte _ (returns-clause-answer c mentions history since stands)

pub returns-clause-whole : goal.returns-clause-whole
returns-clause-whole c = λ mentions history since stands full.
    own_whole _ history stands.journal c.args.full c.args.byte _ (returns-clause-answer c mentions history since stands) full

pub returns-in_default-clause-answer : goal.returns-in_default-clause-answer
returns-in_default-clause-answer c = λ mentions history since stands.
    answers_whole c.args.full c.args.byte c.last_byte-last.result c.last_table.result.now.entries (answer_in c.in_ok-reply.reply)
    (last_commit history.commits) (told_changes history) (c.last_byte-last.ensures mentions history since stands)
    (c.last_table.ensures mentions history since stands) c.in_ok-reply.ensures (c.in_default.ensures mentions history since stands)

pub returns-in_default-clause-commit : goal.returns-in_default-clause-commit
returns-in_default-clause-commit c = λ mentions history since stands.
    own_carries _ history stands.journal c.args.full c.args.byte _ (returns-in_default-clause-answer c mentions history since stands)

pub returns-in_default-clause-whole : goal.returns-in_default-clause-whole
returns-in_default-clause-whole c = λ mentions history since stands full.
    own_whole _ history stands.journal c.args.full c.args.byte _ (returns-in_default-clause-answer c mentions history since stands) full
