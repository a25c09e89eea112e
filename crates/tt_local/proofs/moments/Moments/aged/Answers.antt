use Rattle.std.proofs.Common.{◌∙◌, ap, rules, tests}
use Rattle.std.proofs.lemmas.Iterator.{items_from_collect, YieldsList-from_map}
use Rattle.std.proofs.lemmas.Iterator.Consumers.{YieldsList-at, YieldsList-from_rest}
use Rattle.std.proofs.lemmas.Iterator.Search.{YieldsList-from_take_while}
use Rattle.std.proofs.lemmas.Result.{IfOk-at_ok}
use Rattle.tt_local.specs.Moments.{is_aged_moment}
use Rattle.tt_local.specs.Roster.{has_key}
use Rattle.tt_local.proofs.MomentsLemmas.{aged_found}
use Rattle.tt_local.proofs.moments.Moments.aged.Goals as goal

pub returns : goal.returns
returns c = λ at key has aged.
    let seen = c.self.inside.seen.keys in
    let are = IfOk-at_ok _ c.in_ok-keys.was (items_from_collect c.collect.result c.collect.ensures.ran
    (YieldsList-from_map _ (λ s. s.key)
    (YieldsList-at c.map.ensures.source (YieldsList-from_take_while {s = c.take_while.result} _ (λ s. is_aged_moment c.args.now s.moment)
    (YieldsList-at c.take_while.ensures.source (YieldsList-from_rest seen c.iter.ensures.rest)) c.take_while.ensures.closure c.take_while.ensures.done (λ x b q k. search (rules, tests))))
    c.map.ensures.closure (λ x r q k. search rules))) in
    ap (λ keys. has_key keys key) are
    ∙ aged_found c.args.now seen c.iter.ensures.ordered at key (rw c.self.view_is has) aged
