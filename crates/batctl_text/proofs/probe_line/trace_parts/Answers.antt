use Rattle.std.proofs.Common.{refl, append_assoc}
use Rattle.batctl_text.proofs.probe_line.trace_parts.Goals as goal

pub returns-in-Unreachable : goal.returns-in-Unreachable
returns-in-Unreachable c = rw (c.in-Unreachable.is, c.from-in-Unreachable.ensures, c.name_part-in-Unreachable.ensures) (simp append_assoc refl)
