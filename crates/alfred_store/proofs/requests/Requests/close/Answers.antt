use Rattle.std.proofs.Common.{◌≡◌, Some, option_map, subst, sym, rules}
use Rattle.mesh_model.specs.Knowledge.FactStore.{open_request}
use Rattle.mesh_model.specs.Knowledge.Served.{FactRequest}
use Rattle.alfred_store.specs.RequestsStand.{RequestsStand}
use Rattle.alfred_store.proofs.RequestLemmas.{closed, closed_found}
use Rattle.alfred_store.proofs.requests.Requests.close.Goals as goal

pub returns-clause-closed : goal.returns-clause-closed
returns-clause-closed c =
    λ requests stands.
    let st = subst (λ kept. RequestsStand kept requests) (sym c.self.view_is) stands in
    let asked = c.type_asked.ensures requests stands in
    let found : option_map (λ (one : FactRequest). one.type_no) (open_request requests c.args.sender c.args.id) ≡ Some c.in_ok-type_no.type_no = search (rules, asked) in
    subst (λ after. RequestsStand c.swap_remove.new.self.entries after) (closed_found c.args.sender c.args.id requests c.in_ok-type_no.type_no found)
    (closed c.self.inside.kept.entries c.swap_remove.new.self.entries c.args.id c.swap_remove.ensures.updates.0 requests st)
