use Rattle.std.proofs.Common.{refl}
use Rattle.mesh_codec.proofs.put_header.put_ogm2.Goals as goal

pub returns-clause-parts : goal.returns-clause-parts
returns-clause-parts c = (_, c.put_u8.ensures.part, (_, c.put_u8-2.ensures.part, (_, c.put_u8-3.ensures.part, (_, c.put_u8-4.ensures.part, (_, c.put_u32.ensures.part, (_, c.put_mac.ensures.part, (_, c.put_u16.ensures.part, (_, c.put_u32-2.ensures.part, refl))))))))
