use Rattle.mesh_scenario.proofs.SpellLemmas.{value-at}
use Rattle.mesh_scenario.proofs.hex_bytes.digit.Goals as goal

pub returns : goal.returns
returns c = rw c.from.ensures (value-at c.args.byte c.ranges.byte.fits)
