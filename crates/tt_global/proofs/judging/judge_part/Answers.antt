use Rattle.std.proofs.Common.{rules, tests, ◌≡◌, false}
use Rattle.mesh_model.specs.Tables.Gathered.{is_bad_part}
use Rattle.tt_global.specs.Kept.{stamp}
use Rattle.tt_global.specs.Lent.{lent}
use Rattle.tt_global.proofs.PartLemmas.{gathers_by}
use Rattle.tt_global.proofs.judging.judge_part.Goals as goal

pub returns-in_ok-judged-in-Ok-clause-parts : goal.returns-in_ok-judged-in-Ok-clause-parts
returns-in_ok-judged-in-Ok-clause-parts g c =
    let good : is_bad_part c.args.number c.args.count ≡ false = search (rules, tests) in
    gathers_by c.in_ok-judged-in-Ok.judged.1 (lent c.args.kept) c.in-Ok.known.now (stamp c.args.byte c.args.sums.now) c.args.number c.args.count c.args.records.now c.in-Ok.ensures.kept c.in-Ok.ensures.told good c.in_ok-judged-in-Ok.ensures.others
    c.in_ok-judged-in-Ok.ensures.parts
