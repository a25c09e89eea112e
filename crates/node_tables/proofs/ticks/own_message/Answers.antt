use Rattle.std.proofs.Common.{Err, Ok, arith}
use Rattle.std.proofs.lemmas.Result.{err_from_is_err_and}
use Rattle.mesh_model.specs.Acts.OwnContainers.{own_containers}
use Rattle.mesh_model.specs.Acts.Rows.{alias_acts, message_acts}
use Rattle.mesh_model.specs.Commits.Announcements.{announcement}
use Rattle.mesh_model.specs.Commits.History.{History, committed, present_table}
use Rattle.mesh_model.specs.Packets.Containers.{containers_spelling}
use Rattle.node_ground.specs.SettingsSeen.{settings_seen}
use Rattle.node_ground.proofs.PutsLemmas.{puts_behind, stops_among}
use Rattle.node_tables.proofs.TickLemmas.{committed_few}
use Rattle.node_tables.proofs.ticks.own_message.Goals as goal

pub returns-in_err-commit-clause-puts : goal.returns-in_err-commit-clause-puts
returns-in_err-commit-clause-puts g c = λ mentions history since stands late.
    let p = err_from_is_err_and c.from_residual.result c.from_residual.ensures.1 in
    let after : History = committed (present_table mentions c.args.at.now) history in
    rw (p.1, p.2) (stops_among g.P.Port.takes g.P.Port.same g.P.Port.over c.in_err-commit.field-0.0 c.args.port.now c.commit.new.port
    (alias_acts c.args.at.me history.commits after.commits) (message_acts c.args.head (containers_spelling (own_containers (settings_seen c.args.settings) (announcement after))))
    (c.in_err-commit.ensures.puts mentions history since stands late))

pub announce-requires-clause-few : goal.announce-requires-clause-few
announce-requires-clause-few g c =
    let few = c.requires.few in (
      few.0,
      committed (present_table few.0 c.args.at.now) few.1,
      c.args.at.now,
      c.in_ok-commit.ensures.committed few.0 few.1 few.2 few.3 few.4,
      committed_few few.0 few.1 c.args.at.now (few.5.present c.args.at.now (omega arith)) few.5.committed,
    )

pub returns-in_err-announce-clause-puts : goal.returns-in_err-announce-clause-puts
returns-in_err-announce-clause-puts g c = λ mentions history since stands late.
    let p = err_from_is_err_and c.from_residual-in_err-announce.result c.from_residual-in_err-announce.ensures.1 in
    let after : History = committed (present_table mentions c.args.at.now) history in
    rw (p.1, p.2) (puts_behind g.P.Port.takes g.P.Port.same g.P.Port.over c.args.port.now c.commit.new.port c.announce.new.port
    (alias_acts c.args.at.me history.commits after.commits) (message_acts c.args.head (containers_spelling (own_containers (settings_seen c.args.settings) (announcement after)))) (Err c.in_err-announce.field-0.0)
    (c.in_ok-commit.ensures.puts mentions history since stands late)
    (c.in_err-announce.ensures.puts mentions after c.args.at.now (c.in_ok-commit.ensures.committed mentions history since stands late)))

pub returns-clause-puts : goal.returns-clause-puts
returns-clause-puts g c = λ mentions history since stands late.
    let after : History = committed (present_table mentions c.args.at.now) history in
    puts_behind g.P.Port.takes g.P.Port.same g.P.Port.over c.args.port.now c.commit.new.port c.announce.new.port
    (alias_acts c.args.at.me history.commits after.commits) (message_acts c.args.head (containers_spelling (own_containers (settings_seen c.args.settings) (announcement after)))) (Ok tt)
    (c.in_ok-commit.ensures.puts mentions history since stands late)
    (c.in_ok-announce.ensures.puts mentions after c.args.at.now (c.in_ok-commit.ensures.committed mentions history since stands late))

pub returns-clause-committed : goal.returns-clause-committed
returns-clause-committed g c = λ mentions history since stands late.
    c.in_ok-announce.ensures.counted mentions (committed (present_table mentions c.args.at.now) history) c.args.at.now (c.in_ok-commit.ensures.committed mentions history since stands late)
