use Rattle.std.proofs.Common.{◌∙◌, ◌%◌, ◌^◌, ap, rules, tests}
use Rattle.std.proofs.lemmas.Iterator.Consumers.{YieldsList-at, YieldsList-from_filter, YieldsList-from_filter_map, YieldsList-from_rest, count_from_yields_List}
use Rattle.mesh_model.specs.Routes.Addresses.{same_mac}
use Rattle.mesh_bla.specs.Claims.{kept_row}
use Rattle.mesh_bla.proofs.ClaimLemmas.{own_rows}
use Rattle.mesh_bla.proofs.claims.Claims.announce.Goals as goal

pub returns : goal.returns
returns c =
    λ me calls stands.
    ap (λ n. n % 2 ^ 32)
    (count_from_yields_List c.filter.result c.count-count.result c.count-count.ensures.ran
    (YieldsList-from_filter _ (λ row. same_mac row.holder c.args.self.now.me)
    (YieldsList-at c.filter.ensures.source
    (YieldsList-from_filter_map _ (λ e. kept_row c.args.now e.0 e.1) (YieldsList-from_rest c.args.self.now.kept cc)
    c.filter_map.ensures.closure (λ x r q k. search (rules, tests))))
    c.filter.ensures.closure (λ x r q k. search (rules, tests)))
    ∙ own_rows c.args.self.now me calls c.args.now stands)
