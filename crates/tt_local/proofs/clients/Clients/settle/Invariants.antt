use Rattle.std.proofs.Common.{◌≤◌, length, take}
use Rattle.tt_local.specs.Roster.{IsSettled}
use Rattle.tt_local.proofs.clients.Clients.settle.Given as goal

abbrev pub invariant-loop-i : goal.invariant-loop-i
invariant-loop-i l = record {
  settled : IsSettled l.now (take l.i l.keys.keys) l.initial.self l.self;
  fewer : length l.self ≤ length l.initial.self;
}
