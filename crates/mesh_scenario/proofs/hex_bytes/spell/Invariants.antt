use Rattle.mesh_scenario.proofs.SpellLemmas.{Spells}
use Rattle.mesh_scenario.proofs.hex_bytes.spell.Given as goal

abbrev pub invariant-bytes : goal.invariant-bytes
invariant-bytes l = Spells l.digits l.bytes l.i l.greatest
