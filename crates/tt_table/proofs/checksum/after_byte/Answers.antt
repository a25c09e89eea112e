use Rattle.std.proofs.Common.{◌∙◌, ap, bit_xor}
use Rattle.std.specs.Fn.{iterate}
use Rattle.mesh_model.specs.Tables.Checksum.{after_bit}
use Rattle.tt_table.proofs.Crc.{by_tables}
use Rattle.tt_table.proofs.checksum.after_byte.Goals as goal

pub returns : goal.returns
returns c = by_tables (bit_xor c.args.register c.from.result) ∙ ap (λ b. iterate after_bit 8 (bit_xor c.args.register b)) c.from.ensures
