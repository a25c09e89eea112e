use Rattle.std.proofs.Common.{length, option_map, ap, ◌∙◌, rules, tests}
use Rattle.std.proofs.lemmas.Iterator.{items_from_collect}
use Rattle.std.proofs.lemmas.Iterator.Consumers.{YieldsList-from_filter_map, YieldsList-from_rest}
use Rattle.std.proofs.lemmas.List.{length-map}
use Rattle.std.proofs.lemmas.Result.{IfOk-at_ok}
use Rattle.mesh_model.specs.Clients.Present.{present_clients}
use Rattle.mesh_model.specs.declared.table_row.LocalRow.{LocalRow}
use Rattle.tt_local.specs.Clients.{client_row}
use Rattle.tt_local.proofs.ClientsLemmas.{vids_kept}
use Rattle.tt_local.proofs.clients.Clients.vids.Goals as goal

pub returns-clause-are : goal.returns-clause-are
returns-clause-are c =
    λ mentions since stands late.
    IfOk-at_ok _ c.in_ok-vids.was (items_from_collect c.collect.result c.collect.ensures.ran
    (YieldsList-from_filter_map _ (λ e. option_map (λ row. row.entry.key.vid) (client_row c.args.now e.0 e.1)) (YieldsList-from_rest c.args.self.now cc)
    c.filter_map.ensures.closure (λ x r q k. search (rules, tests))))
    ∙ vids_kept c.args.self.now mentions since c.args.now stands late

pub returns-clause-count : goal.returns-clause-count
returns-clause-count c =
    λ mentions since stands late.
    ap length (IfOk-at_ok _ c.in_ok-vids.was (items_from_collect c.collect.result c.collect.ensures.ran
    (YieldsList-from_filter_map _ (λ e. option_map (λ row. row.entry.key.vid) (client_row c.args.now e.0 e.1)) (YieldsList-from_rest c.args.self.now cc)
    c.filter_map.ensures.closure (λ x r q k. search (rules, tests))))
    ∙ vids_kept c.args.self.now mentions since c.args.now stands late)
    ∙ length-map (present_clients mentions c.args.now) (λ (row : LocalRow). row.entry.key.vid)
