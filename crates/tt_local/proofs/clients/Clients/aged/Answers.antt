use Rattle.tt_local.proofs.MomentsLemmas.{aged_clients}
use Rattle.tt_local.proofs.clients.Clients.aged.Goals as goal

pub returns : goal.returns
returns c =
    rw (← c.self.view_is) (aged_clients c.args.now c.self.inside.map.entries c.self.inside.moments c.in_ok-keys.keys.items c.self.invariant c.in_ok-keys.ensures)
