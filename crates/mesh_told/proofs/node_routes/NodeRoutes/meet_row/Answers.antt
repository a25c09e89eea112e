use Rattle.std.proofs.Common.{◌≡◌, IsSome, None, rules}
use Rattle.std.specs.Map.{lookup}
use Rattle.mesh_model.specs.Routes.Addresses.{same_mac}
use Rattle.mesh_told.proofs.MeetLemmas.{met_new, met_there}
use Rattle.mesh_told.proofs.node_routes.NodeRoutes.meet_row.Goals as goal

pub returns-then-is_none : goal.returns-then-is_none
returns-then-is_none c = λ rows old met. met_there rows c.args.row.now old c.args.self.now.next.entries met (λ some. search (rules, some))

pub returns-then-contains_key : goal.returns-then-contains_key
returns-then-contains_key c = λ rows old met.
    let there : IsSome (lookup (same_mac c.args.row.now.orig) c.args.self.now.next.entries) = search rules in
    met_there rows c.args.row.now old c.args.self.now.next.entries met (λ some. there)

pub returns : goal.returns
returns c = λ rows old met.
    let absent : lookup (same_mac c.args.row.now.orig) c.args.self.now.next.entries ≡ None = search rules in
    met_new rows c.args.row.now old c.args.self.now.next.entries met c.put.new.table.entries absent c.in_ok-put.ensures.updated.0 c.in_ok-put.ensures.rises
