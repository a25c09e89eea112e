use Rattle.std.proofs.Common.{◌≡◌, true, take, IsSome}
use Rattle.mesh_base.specs.declared.client.Key.{Key}
use Rattle.tt_local.specs.Clients.{client_at}
use Rattle.tt_local.specs.Roster.{has_key, Tracks}
use Rattle.tt_local.proofs.roster.Roster.renew.Given as goal

abbrev pub invariant-loop-key : goal.invariant-loop-key
invariant-loop-key l = record {
  clients : l.self.clients ≡ l.initial.self.clients;
  tracks : Tracks l.initial.self l.self;
  touched : (q : Key) → has_key (take l.key-index l.key-items) q ≡ true → IsSome (client_at l.initial.self.clients q) → has_key l.self.pending q ≡ true;
}
