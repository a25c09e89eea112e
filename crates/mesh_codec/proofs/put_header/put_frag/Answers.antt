use Rattle.std.proofs.Common.{refl}
use Rattle.mesh_codec.proofs.put_header.put_frag.Goals as goal

pub returns-clause-parts : goal.returns-clause-parts
returns-clause-parts c = λ told. (_, c.put_u8.ensures.part, (_, c.put_u8-2.ensures.part, (_, c.put_u8-3.ensures.part, (_, c.put_fragment.ensures.part, (_, c.put_mac.ensures.part, (_, c.put_mac-2.ensures.part, (_, c.put_u16.ensures.part, (_, c.put_u16-2.ensures.part, refl))))))))
