use Rattle.std.proofs.Common.{◌∙◌}
use Rattle.mesh_model.specs.Commits.Announcements.{told_changes}
use Rattle.mesh_model.specs.Commits.Versions.{last_commit}
use Rattle.tt_sync.proofs.AnswerLemmas.{asked, asked_else, asked_whole}
use Rattle.tt_sync.proofs.answers.asked_changes.Goals as goal
use Rattle.tt_sync.proofs.answers.asked_changes.Goals.{then-full-via-then-full, then-full-via-else-full+then-byte-last_byte}

pub returns-then-full : goal.returns-then-full
returns-then-full c = λ mentions history since stands.
    let last = last_commit history.commits in
    let told = told_changes history in
    elim c.then-full.branch [
      | then-full-via-then-full w ↦ asked_whole c.args.full c.args.byte last told w.if-full.true
      | then-full-via-else-full+then-byte-last_byte w ↦ asked_else c.args.full c.args.byte w.last_byte.result last told w.if-full.false w.if-byte-last_byte.true
          (w.last_byte.ensures mentions history since stands)
    ]

pub returns : goal.returns
returns c = λ mentions history since stands.
    c.told_changes.ensures mentions history since stands
    ∙ asked c.args.full c.args.byte c.last_byte.result (last_commit history.commits) (told_changes history) c.if-full.false c.if-byte-last_byte.false
    (c.last_byte.ensures mentions history since stands)
