use Rattle.std.proofs.Common.{Err, Ok, subst}
use Rattle.std.proofs.lemmas.Result.{err_from_is_err_and}
use Rattle.mesh_model.specs.Acts.OwnContainers.{own_containers}
use Rattle.mesh_model.specs.Acts.Rows.{message_acts}
use Rattle.mesh_model.specs.Commits.Announcements.{announcement}
use Rattle.mesh_model.specs.Packets.Containers.{containers_spelling}
use Rattle.node_ground.specs.SettingsSeen.{settings_seen}
use Rattle.node_ground.specs.Puts.{Puts}
use Rattle.node_ground.proofs.PutsLemmas.{stops_free}
use Rattle.node_tables.proofs.TickLemmas.{announced_fits, announced_is}
use Rattle.node_tables.proofs.ticks.announce.Goals as goal

pub send_own-requires-clause-few : goal.send_own-requires-clause-few
send_own-requires-clause-few g c =
    let few = c.requires.few in
    announced_fits few.1 c.in_ok-announcement.announcement (c.in_ok-announcement.ensures.announced few.0 few.1 few.2 few.3) few.4

pub returns-in_err-announcement-clause-puts : goal.returns-in_err-announcement-clause-puts
returns-in_err-announcement-clause-puts g c = λ mentions history since stands.
    let p = err_from_is_err_and c.from_residual.result c.from_residual.ensures.1 in
    rw (p.1, p.2) (stops_free g.P.Port.takes g.P.Port.same g.P.Port.over c.args.port.now
    (message_acts c.args.head (containers_spelling (own_containers (settings_seen c.args.settings) (announcement history)))) (g.met.P.Port.same_refl c.args.port.now))

pub returns-in_err-send_own-clause-puts : goal.returns-in_err-send_own-clause-puts
returns-in_err-send_own-clause-puts g c = λ mentions history since stands.
    let p = err_from_is_err_and c.from_residual-in_err-send_own.result c.from_residual-in_err-send_own.ensures.1 in
    rw (p.1, p.2) (subst (λ told. Puts g.P.Port.takes g.P.Port.same g.P.Port.over c.args.port.now (message_acts c.args.head (containers_spelling (own_containers (settings_seen c.args.settings) told))) (Err c.in_err-send_own.field-0.0) c.send_own.new.port)
    (announced_is history c.in_ok-announcement.announcement (c.in_ok-announcement.ensures.announced mentions history since stands)) c.in_err-send_own.ensures)

pub returns-clause-puts : goal.returns-clause-puts
returns-clause-puts g c = λ mentions history since stands.
    subst (λ told. Puts g.P.Port.takes g.P.Port.same g.P.Port.over c.args.port.now (message_acts c.args.head (containers_spelling (own_containers (settings_seen c.args.settings) told))) (Ok tt) c.send_own.new.port)
    (announced_is history c.in_ok-announcement.announcement (c.in_ok-announcement.ensures.announced mentions history since stands)) c.in_ok-send_own.ensures
