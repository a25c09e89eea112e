use Rattle.std.proofs.Common.{◌∷◌, sym, subst, ◌∙◌}
use Rattle.mesh_model.specs.Tables.Known.{Answered}
use Rattle.node_ground.specs.KnowledgeStands.{KnowledgeStands}
use Rattle.node_tables.proofs.KnownLemmas.{answered_is, with_tables}
use Rattle.node_tables.specs.AnswerKinds.{carried_by}
use Rattle.tt_global.specs.Kept.{stamp_in}
use Rattle.node_tables.proofs.answers.take_answer.Goals as goal

pub returns : goal.returns
returns g c = λ me known stands.
    let answered = c.in_ok-answered.answered in
    let live = sym (c.live.ensures me known.routes stands.routes) ∙ c.if-not-live.false in
    let calls = Answered c.args.orig (stamp_in answered) (carried_by c.args.kind answered.changes) ∷ known.tables in
    subst (λ after. KnowledgeStands g.A.Algo.stands c.release.new.kept me after)
    (answered_is (g.A.Algo.queries me) c.args.now c.args.orig c.args.kind answered c.args.table.now known c.in_ok-answered.ensures live)
    (c.release.ensures me (record known { tables = calls })
    (with_tables g.A.Algo.stands c.args.kept.now c.note_answer.new.globals me calls known stands (c.in_ok-note_answer.ensures known.tables stands.tables)))
