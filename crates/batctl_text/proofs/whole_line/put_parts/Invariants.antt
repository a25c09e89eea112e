use Rattle.std.proofs.Common.{◌≡◌, ◌++◌, take}
use Rattle.std.specs.List.{flat_map}
use Rattle.batctl_text.specs.Inner.Parts.{part_text}
use Rattle.batctl_text.proofs.whole_line.put_parts.Given as goal

abbrev pub invariant-loop-part : goal.invariant-loop-part
invariant-loop-part l = l.line ≡ l.initial.line ++ flat_map part_text (take l.part-index l.parts)
