use Rattle.std.proofs.Common.{◌+◌, ◌*◌, arith, rules}
use Rattle.mesh_scenario.proofs.SpellLemmas.{spells-more, spells-end}
use Rattle.mesh_scenario.proofs.hex_bytes.spell.Goals as goal

pub bytes-preserved : goal.bytes-preserved
bytes-preserved c =
    rw c.max-greatest.ensures (spells-more c.args.digits.now c.bytes.bytes c.bytes.i c.bytes.greatest (c.digit.result * 16 + c.digit-in-bytes.result) _
    (omega arith) (omega arith) (search rules) (search rules) c.bytes.invariant)

pub returns : goal.returns
returns c = spells-end c.args.digits.now c.bytes.bytes c.bytes.i c.bytes.greatest (omega arith) (omega arith) c.bytes.invariant
