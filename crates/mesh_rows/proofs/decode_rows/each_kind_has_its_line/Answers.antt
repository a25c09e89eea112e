use Rattle.std.proofs.Common.{refl}
use Rattle.mesh_rows.proofs.DecodeOnLiterals.{decode_on_literals}
use Rattle.mesh_rows.proofs.decode_rows.each_kind_has_its_line.Goals as goal

pub returns : goal.returns
unfolding decode_on_literals
returns c = record { bcast = refl; ogm2 = refl; unicast = refl; frag = refl; unicast4 = refl; icmp = refl }
