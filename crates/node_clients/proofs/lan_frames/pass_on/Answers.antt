use Rattle.std.proofs.Common.{◌∙◌, Err, Ok, refl, sym}
use Rattle.std.proofs.lemmas.Result.{err_from_is_err_and}
use Rattle.mesh_codec.specs.Payloads.{seen_frame}
use Rattle.mesh_model.specs.Acts.Rows.{Own, own_by}
use Rattle.node_clients.proofs.LanLemmas.{known_on_its_way, on_its_way}
use Rattle.node_clients.proofs.lan_frames.pass_on.Goals as goal

pub returns-then-stays_on_lan-clause-puts : goal.returns-then-stays_on_lan-clause-puts
returns-then-stays_on_lan-clause-puts g c = λ log known after stands owns bridged.
    let own : Own = record (own_by c.args.at.me log) { mentions = after } in
    let stays = sym c.if-stays_on_lan.true ∙ rw c.key_to.ensures at (c.stays_on_lan.ensures c.args.at.me known own stands owns bridged) in
    on_its_way (g.A.Algo.queries c.args.at.me) c.args.at.me log c.args.at.now known after (seen_frame c.args.frame.now) stays g.P.Port.takes g.P.Port.same g.P.Port.over c.args.port.now c.args.port.now (Ok tt) refl

pub returns-in_err-client_frame-clause-puts : goal.returns-in_err-client_frame-clause-puts
returns-in_err-client_frame-clause-puts g c = λ log known after stands owns bridged.
    let p = err_from_is_err_and c.from_residual.result c.from_residual.ensures.1 in
    let own : Own = record (own_by c.args.at.me log) { mentions = after } in
    let stays = sym c.if-stays_on_lan.false ∙ rw c.key_to.ensures at (c.stays_on_lan.ensures c.args.at.me known own stands owns bridged) in
    rw (p.1, p.2) (on_its_way (g.A.Algo.queries c.args.at.me) c.args.at.me log c.args.at.now known after (seen_frame c.args.frame.now) stays g.P.Port.takes g.P.Port.same g.P.Port.over c.args.port.now c.client_frame.new.port (Err c.in_err-client_frame.field-0.0)
    (c.in_err-client_frame.ensures.puts known own stands owns))

pub returns-clause-puts : goal.returns-clause-puts
returns-clause-puts g c = λ log known after stands owns bridged.
    let own : Own = record (own_by c.args.at.me log) { mentions = after } in
    let stays = sym c.if-stays_on_lan.false ∙ rw c.key_to.ensures at (c.stays_on_lan.ensures c.args.at.me known own stands owns bridged) in
    on_its_way (g.A.Algo.queries c.args.at.me) c.args.at.me log c.args.at.now known after (seen_frame c.args.frame.now) stays g.P.Port.takes g.P.Port.same g.P.Port.over c.args.port.now c.client_frame.new.port (Ok tt) (c.in_ok-client_frame.ensures.puts known own stands owns)

pub returns-then-stays_on_lan-clause-noted : goal.returns-then-stays_on_lan-clause-noted
returns-then-stays_on_lan-clause-noted g c = λ log known after stands owns bridged.
    let own : Own = record (own_by c.args.at.me log) { mentions = after } in
    let stays = sym c.if-stays_on_lan.true ∙ rw c.key_to.ensures at (c.stays_on_lan.ensures c.args.at.me known own stands owns bridged) in
    known_on_its_way (g.A.Algo.queries c.args.at.me) c.args.at.me log c.args.at.now known after (seen_frame c.args.frame.now) stays stands

pub returns-clause-noted : goal.returns-clause-noted
returns-clause-noted g c = λ log known after stands owns bridged.
    let own : Own = record (own_by c.args.at.me log) { mentions = after } in
    let stays = sym c.if-stays_on_lan.false ∙ rw c.key_to.ensures at (c.stays_on_lan.ensures c.args.at.me known own stands owns bridged) in
    known_on_its_way (g.A.Algo.queries c.args.at.me) c.args.at.me log c.args.at.now known after (seen_frame c.args.frame.now) stays (c.in_ok-client_frame.ensures.noted known stands)
