use Rattle.std.proofs.Common.{◌≡◌, ◌++◌, ◌-◌, ◌≤◌, length, take}
use Rattle.std.specs.Prelude.{flat_map}
use Rattle.mesh_model.specs.Text.Events.{event_line}
use Rattle.mesh_show.proofs.events.put_events.Given as goal

abbrev pub invariant-loop-done : goal.invariant-loop-done
invariant-loop-done l = record {
  text : l.out.items ≡ l.fn.out.items ++ flat_map (event_line l.names) (take l.done l.events);
  within : l.done ≤ length l.events;
}

abbrev pub decreases-loop-done : goal.decreases-loop-done
decreases-loop-done l = length l.events - l.done
