use Rattle.std.proofs.Common.{refl}
use Rattle.mesh_codec.proofs.put_header.put_unicast.Goals as goal

pub returns-clause-parts : goal.returns-clause-parts
returns-clause-parts c = λ told. (_, c.put_u8.ensures.part, (_, c.put_u8-2.ensures.part, (_, c.put_u8-3.ensures.part, (_, c.put_u8-4.ensures.part, (_, c.put_mac.ensures.part, refl)))))
