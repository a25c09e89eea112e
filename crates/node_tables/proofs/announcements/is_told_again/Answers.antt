use Rattle.std.proofs.Common.{◌≡◌, ◌∷◌, None, subst}
use Rattle.mesh_model.specs.Knowledge.Told.{message_changes}
use Rattle.mesh_model.specs.Tables.Judging.{announcement_row, wanted_request}
use Rattle.mesh_model.specs.Tables.Known.{Announced, known_by}
use Rattle.mesh_model.specs.Tables.Versions.{Stamp}
use Rattle.node_tables.proofs.KnownLemmas.{told_stamp, with_tables}
use Rattle.tt_global.specs.Globals.{GlobalsStand}
use Rattle.node_tables.proofs.announcements.is_told_again.Goals as goal

pub returns-in-Some-clause-noted : goal.returns-in-Some-clause-noted
returns-in-Some-clause-noted g c = λ yes me known number stands.
    let kept = c.args.kept.now in
    let table = c.args.table.now in
    let is = told_stamp table c.in-Some.byte c.in-Some.sums.now (c.tells.ensures.0 yes) c.in-Some.ensures.sums in
    with_tables g.A.Algo.stands kept kept.globals me _ known stands (subst (λ (s : Stamp). GlobalsStand kept.globals (Announced c.args.orig number s (message_changes table) ∷ known.tables)) is
    (c.in-Some.ensures.again known.tables number (message_changes table) stands.tables))

pub returns-in-Some-clause-unwanted : goal.returns-in-Some-clause-unwanted
returns-in-Some-clause-unwanted g c = λ yes me known stands.
    let table = c.args.table.now in
    let is = told_stamp table c.in-Some.byte c.in-Some.sums.now (c.tells.ensures.0 yes) c.in-Some.ensures.sums in
    subst (λ (s : Stamp). wanted_request (announcement_row (known_by known.tables c.args.orig).held s (message_changes table)).outcome ≡ None) is
    (c.in-Some.ensures.unasked known.tables (message_changes table) stands.tables)
