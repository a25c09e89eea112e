use Rattle.std.proofs.Common.{Err, Ok, refl}
use Rattle.std.proofs.lemmas.Result.{err_from_is_err_and}
use Rattle.mesh_codec.specs.Payloads.{seen_frame}
use Rattle.mesh_model.specs.Clients.Lans.{bridge}
use Rattle.node_clients.proofs.LanLemmas.{behind_claim, claim_stops, held_back, known_after, let_pass, mentioned_by, passed_puts, passed_stops}
use Rattle.node_clients.proofs.SightLemmas.{none_mentioned, owned_news}
use Rattle.node_clients.proofs.lan_frames.carried.Goals as goal

pub pass_on-requires : goal.pass_on-requires
pass_on-requires g c = (_, c.in_ok-sight_client.ensures.noted c.requires.0 c.requires.1)

pub returns-in_err-claim_source-clause-puts : goal.returns-in_err-claim_source-clause-puts
returns-in_err-claim_source-clause-puts g c = λ log before bridged flags.
    let p = err_from_is_err_and c.from_residual.result c.from_residual.ensures.1 in
    let frame = seen_frame c.args.frame.now in
    let verdict = rw c.key_from-key.ensures at (c.from_lan-verdict.ensures c.args.at.me (bridge log).claims bridged.claims) in
    rw (p.1, p.2) (claim_stops g.P.Port.takes g.P.Port.same g.P.Port.over (g.A.Algo.queries c.args.at.me) c.args.at.me log c.args.at.now frame
    c.in_err-claim_source.field-0.0 c.args.port.now c.claim_source.new.port (c.in_err-claim_source.ensures log bridged verdict))

pub returns-then-not-verdict-clause-puts : goal.returns-then-not-verdict-clause-puts
returns-then-not-verdict-clause-puts g c = λ log before bridged flags.
    let frame = seen_frame c.args.frame.now in
    let verdict = rw c.key_from-key.ensures at (c.from_lan-verdict.ensures c.args.at.me (bridge log).claims bridged.claims) in
    behind_claim c.args.at.me log c.args.at.now frame (g.A.Algo.queries c.args.at.me) (held_back c.args.at.me log c.args.at.now frame verdict c.if-not-verdict.true) g.P.Port.takes g.P.Port.same g.P.Port.over
    c.args.port.now c.claim_source.new.port c.claim_source.new.port (Ok tt) (c.in_ok-claim_source.ensures log bridged verdict) refl

pub returns-then-not-verdict-clause-noted : goal.returns-then-not-verdict-clause-noted
returns-then-not-verdict-clause-noted g c = λ log before bridged flags.
    let frame = seen_frame c.args.frame.now in
    let verdict = rw c.key_from-key.ensures at (c.from_lan-verdict.ensures c.args.at.me (bridge log).claims bridged.claims) in
    known_after c.args.at.me log c.args.at.now frame (g.A.Algo.queries c.args.at.me) (held_back c.args.at.me log c.args.at.now frame verdict c.if-not-verdict.true) before.known

pub returns-then-not-verdict-clause-mentioned : goal.returns-then-not-verdict-clause-mentioned
returns-then-not-verdict-clause-mentioned g c = λ log before bridged flags.
    let frame = seen_frame c.args.frame.now in
    let verdict = rw c.key_from-key.ensures at (c.from_lan-verdict.ensures c.args.at.me (bridge log).claims bridged.claims) in
    mentioned_by c.args.at.me log c.args.at.now frame (held_back c.args.at.me log c.args.at.now frame verdict c.if-not-verdict.true) (none_mentioned c.args.locals.now c.args.at.me log before.clients)

pub returns-in_err-sight_client-clause-puts : goal.returns-in_err-sight_client-clause-puts
returns-in_err-sight_client-clause-puts g c = λ log before bridged flags.
    let p = err_from_is_err_and c.from_residual-in_err-sight_client.result c.from_residual-in_err-sight_client.ensures.1 in
    let frame = seen_frame c.args.frame.now in
    let verdict = rw c.key_from-key.ensures at (c.from_lan-verdict.ensures c.args.at.me (bridge log).claims bridged.claims) in
    rw (p.1, p.2) (passed_stops c.args.at.me log c.args.at.now frame (g.A.Algo.queries c.args.at.me) (let_pass c.args.at.me log c.args.at.now frame verdict c.if-not-verdict.false) g.P.Port.takes g.P.Port.same g.P.Port.over c.key_from-key.ensures
    c.args.port.now c.claim_source.new.port c.sight_client.new.port c.in_err-sight_client.field-0.0
    (c.in_ok-claim_source.ensures log bridged verdict) (c.in_err-sight_client.ensures.puts log before flags))

pub returns-in_err-pass_on-clause-puts : goal.returns-in_err-pass_on-clause-puts
returns-in_err-pass_on-clause-puts g c = λ log before bridged flags.
    let p = err_from_is_err_and c.from_residual-in_err-pass_on.result c.from_residual-in_err-pass_on.ensures.1 in
    let frame = seen_frame c.args.frame.now in
    let verdict = rw c.key_from-key.ensures at (c.from_lan-verdict.ensures c.args.at.me (bridge log).claims bridged.claims) in
    rw (p.1, p.2) (passed_puts c.args.at.me log c.args.at.now frame (g.A.Algo.queries c.args.at.me) (let_pass c.args.at.me log c.args.at.now frame verdict c.if-not-verdict.false) g.P.Port.takes g.P.Port.same g.P.Port.over c.key_from-key.ensures
    c.args.port.now c.claim_source.new.port c.sight_client.new.port c.pass_on.new.port (Err c.in_err-pass_on.field-0.0)
    (c.in_ok-claim_source.ensures log bridged verdict) (c.in_ok-sight_client.ensures.puts log before flags)
    (c.in_err-pass_on.ensures.puts log _ _ (rw c.key_from-key.ensures at (c.in_ok-sight_client.ensures.noted log before)) (owned_news before (rw c.key_from-key.ensures at (c.in_ok-sight_client.ensures.sighted log before flags))) bridged))

pub returns-clause-puts : goal.returns-clause-puts
returns-clause-puts g c = λ log before bridged flags.
    let frame = seen_frame c.args.frame.now in
    let verdict = rw c.key_from-key.ensures at (c.from_lan-verdict.ensures c.args.at.me (bridge log).claims bridged.claims) in
    passed_puts c.args.at.me log c.args.at.now frame (g.A.Algo.queries c.args.at.me) (let_pass c.args.at.me log c.args.at.now frame verdict c.if-not-verdict.false) g.P.Port.takes g.P.Port.same g.P.Port.over c.key_from-key.ensures
    c.args.port.now c.claim_source.new.port c.sight_client.new.port c.pass_on.new.port (Ok tt)
    (c.in_ok-claim_source.ensures log bridged verdict) (c.in_ok-sight_client.ensures.puts log before flags)
    (c.in_ok-pass_on.ensures.puts log _ _ (rw c.key_from-key.ensures at (c.in_ok-sight_client.ensures.noted log before)) (owned_news before (rw c.key_from-key.ensures at (c.in_ok-sight_client.ensures.sighted log before flags))) bridged)

pub returns-clause-noted : goal.returns-clause-noted
returns-clause-noted g c = λ log before bridged flags.
    let frame = seen_frame c.args.frame.now in
    let verdict = rw c.key_from-key.ensures at (c.from_lan-verdict.ensures c.args.at.me (bridge log).claims bridged.claims) in
    known_after c.args.at.me log c.args.at.now frame (g.A.Algo.queries c.args.at.me) (let_pass c.args.at.me log c.args.at.now frame verdict c.if-not-verdict.false)
    (c.in_ok-pass_on.ensures.noted log _ _ (rw c.key_from-key.ensures at (c.in_ok-sight_client.ensures.noted log before)) (owned_news before (rw c.key_from-key.ensures at (c.in_ok-sight_client.ensures.sighted log before flags))) bridged)

pub returns-clause-mentioned : goal.returns-clause-mentioned
returns-clause-mentioned g c = λ log before bridged flags.
    let frame = seen_frame c.args.frame.now in
    let verdict = rw c.key_from-key.ensures at (c.from_lan-verdict.ensures c.args.at.me (bridge log).claims bridged.claims) in
    mentioned_by c.args.at.me log c.args.at.now frame (let_pass c.args.at.me log c.args.at.now frame verdict c.if-not-verdict.false) (rw c.key_from-key.ensures at (c.in_ok-sight_client.ensures.sighted log before flags))
