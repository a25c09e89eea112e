use Rattle.std.proofs.Common.{subst, sym}
use Rattle.alfred_store.specs.RequestsStand.{RequestsStand}
use Rattle.alfred_store.proofs.RequestLemmas.{opened}
use Rattle.alfred_store.proofs.requests.Requests.open.Goals as goal

pub returns-clause-ok : goal.returns-clause-ok
returns-clause-ok c =
    λ requests stands.
    opened c.self.inside.kept.entries c.insert.new.self.entries c.args.id (record { primary = c.args.primary; type_no = c.args.type_no }) c.in_ok-insert.ensures.updates.0 requests
    (subst (λ kept. RequestsStand kept requests) (sym c.self.view_is) stands)
