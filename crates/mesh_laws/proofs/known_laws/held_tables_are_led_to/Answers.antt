use Rattle.mesh_laws.proofs.KnownLemmas.{applied_onward, emptied_by_none, taken_in_parts, taken_onward, taken_whole}
use Rattle.mesh_laws.proofs.known_laws.held_tables_are_led_to.Goals as goal

pub returns : goal.returns
returns c = record { emptied = emptied_by_none; applied = applied_onward; onward = taken_onward; whole = taken_whole; in_parts = taken_in_parts }
