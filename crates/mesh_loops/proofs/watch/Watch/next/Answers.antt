use Rattle.std.proofs.Common.{◌≡◌, subst, sym, rules}
use Rattle.mesh_loops.specs.Watch.{next_at}
use Rattle.mesh_loops.proofs.watch.Watch.next.Goals as goal

pub returns-in-Before : goal.returns-in-Before
returns-in-Before c = subst (λ when. c.flatten.result ≡ next_at c.args.self.now when c.args.pair) (sym c.in-Before.is) (search rules)

pub returns-in-Now : goal.returns-in-Now
returns-in-Now c = subst (λ when. c.flatten-in-Now.result ≡ next_at c.args.self.now when c.args.pair) (sym c.in-Now.is) (search rules)
