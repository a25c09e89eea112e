use Rattle.std.proofs.Common.{◌≡◌, ◌∷◌, Err, None, Ok, subst}
use Rattle.std.proofs.lemmas.Result.{err_from_is_err_and}
use Rattle.mesh_model.specs.Acts.Choosing.{sighting_acts}
use Rattle.mesh_model.specs.Clients.Limits.{limit_of_mentions}
use Rattle.mesh_model.specs.Clients.Mentions.{mention, mentions, sighted_after}
use Rattle.mesh_model.specs.Commits.History.{history}
use Rattle.mesh_model.specs.Knowledge.Steps.{knowledge}
use Rattle.node_ground.proofs.OwnLemmas.{before_now}
use Rattle.node_clients.proofs.SightLemmas.{frame_refused, frame_taken, within_mention}
use Rattle.node_clients.proofs.seeing.sight_client.Goals as goal
use Rattle.tt_local.specs.Locals.{LocalsStand}

pub returns-in_err-newly-clause-puts : goal.returns-in_err-newly-clause-puts
returns-in_err-newly-clause-puts g c = λ log before flags.
    let p = err_from_is_err_and c.from_residual.result c.from_residual.ensures.1 in
    let me = c.args.at.me in
    let has = before.clients in
    let key = c.args.key in
    rw (p.1, p.2) (frame_refused g.P.Port.takes g.P.Port.same g.P.Port.over (mentions me log) c.args.at.now key c.args.flags (sighted_after log) flags
    c.in_err-newly.field-0.0 (c.in_err-newly.ensures.limit (mentions me log) (history me log) has.since has.stand (before_now c.args.locals.now me log c.args.at.now has before.later))
    c.args.port.now (sighting_acts (g.A.Algo.queries me) me log c.args.at.now key) (g.met.P.Port.same_refl c.args.port.now))

pub returns-in_err-sighting-clause-puts : goal.returns-in_err-sighting-clause-puts
returns-in_err-sighting-clause-puts g c = λ log before flags.
    let p = err_from_is_err_and c.from_residual-in_err-sighting.result c.from_residual-in_err-sighting.ensures.1 in
    let me = c.args.at.me in
    let has = before.clients in
    let key = c.args.key in
    let settled = before_now c.args.locals.now me log c.args.at.now has before.later in
    rw (p.1, p.2) (frame_taken g.P.Port.takes g.P.Port.same g.P.Port.over (mentions me log) c.args.at.now key c.args.flags (sighted_after log) flags
    (c.in_ok-newly.ensures.within (mentions me log) (history me log) has.since has.stand settled) c.args.port.now c.sighting.new.port
    (sighting_acts (g.A.Algo.queries me) me log c.args.at.now key) (Err c.in_err-sighting.field-0.0)
    (c.in_err-sighting.ensures.puts (knowledge (g.A.Algo.queries me) me log) log before.known
    (c.in_ok-newly.ensures.newly (mentions me log) (history me log) has.since has.stand settled)))

pub returns-clause-puts : goal.returns-clause-puts
returns-clause-puts g c = λ log before flags.
    let me = c.args.at.me in
    let has = before.clients in
    let key = c.args.key in
    let settled = before_now c.args.locals.now me log c.args.at.now has before.later in
    frame_taken g.P.Port.takes g.P.Port.same g.P.Port.over (mentions me log) c.args.at.now key c.args.flags (sighted_after log) flags
    (c.in_ok-newly.ensures.within (mentions me log) (history me log) has.since has.stand settled) c.args.port.now c.sighting.new.port
    (sighting_acts (g.A.Algo.queries me) me log c.args.at.now key) (Ok tt)
    (c.in_ok-sighting.ensures.puts (knowledge (g.A.Algo.queries me) me log) log before.known
    (c.in_ok-newly.ensures.newly (mentions me log) (history me log) has.since has.stand settled))

pub returns-clause-noted : goal.returns-clause-noted
returns-clause-noted g c = λ log before.
    let me = c.args.at.me in
    let has = before.clients in
    let settled = before_now c.args.locals.now me log c.args.at.now has before.later in
    c.in_ok-sighting.ensures.noted (knowledge (g.A.Algo.queries me) me log) log before.known
    (c.in_ok-newly.ensures.newly (mentions me log) (history me log) has.since has.stand settled)

pub returns-clause-sighted : goal.returns-clause-sighted
returns-clause-sighted g c = λ log before flags.
    let me = c.args.at.me in
    let has = before.clients in
    let now = c.args.at.now in
    let key = c.args.key in
    let settled = before_now c.args.locals.now me log now has before.later in
    record {
      since = has.since;
      stand = subst (λ news. LocalsStand c.see.new.self (record { moment = now; key = key; news = news } ∷ mentions me log) (history me log) has.since) flags
          (c.in_ok-newly.ensures.noted (mentions me log) (history me log) has.since has.stand);
      settled = has.settled;
      within = subst (λ news. limit_of_mentions (mentions me log) (mention now key news) ≡ None) flags
          (within_mention _ (c.in_ok-newly.ensures.within (mentions me log) (history me log) has.since has.stand settled));
    }
