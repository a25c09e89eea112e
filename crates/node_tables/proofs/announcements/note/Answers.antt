use Rattle.node_tables.proofs.KnownLemmas.{with_tables}
use Rattle.node_tables.proofs.announcements.note.Goals as goal

pub returns-clause-noted : goal.returns-clause-noted
returns-clause-noted g c = λ me known number stands.
    with_tables g.A.Algo.stands c.args.kept.now _ me _ known stands (c.in_ok-heard.ensures.ok known.tables number stands.tables)
