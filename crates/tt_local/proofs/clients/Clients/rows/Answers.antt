use Rattle.std.proofs.Common.{◌∙◌, rules, tests}
use Rattle.std.proofs.lemmas.Iterator.{items_from_collect}
use Rattle.std.proofs.lemmas.Iterator.Consumers.{YieldsList-from_filter_map, YieldsList-from_rest}
use Rattle.std.proofs.lemmas.Result.{IfOk-at_ok}
use Rattle.tt_local.specs.Clients.{client_row}
use Rattle.tt_local.proofs.ClientsLemmas.{rows_kept}
use Rattle.tt_local.proofs.clients.Clients.rows.Goals as goal

pub returns : goal.returns
returns c =
    λ mentions since stands late.
    IfOk-at_ok _ c.in_ok-rows.was (items_from_collect c.collect.result c.collect.ensures.ran
    (YieldsList-from_filter_map _ (λ e. client_row c.args.now e.0 e.1) (YieldsList-from_rest c.args.self.now cc)
    c.filter_map.ensures.closure (λ x r q k. search (rules, tests))))
    ∙ rows_kept c.args.self.now mentions since c.args.now stands late
