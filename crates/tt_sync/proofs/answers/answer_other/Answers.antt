use Rattle.std.proofs.Common.{sym}
use Rattle.tt_sync.proofs.CarryLemmas.{other_carries}
use Rattle.tt_sync.specs.Answers.{answer_in}
use Rattle.tt_sync.proofs.answers.answer_other.Goals as goal

pub returns-clause-commit : goal.returns-clause-commit
returns-clause-commit c = λ calls made stands came.
    other_carries made c.args.orig calls came (record { byte = c.in-Some.byte; table = c.in-Some.table.now.entries }) (sym (c.in-Some.ensures calls stands))
    (answer_in c.in_ok-reply.reply) c.in_ok-reply.ensures
