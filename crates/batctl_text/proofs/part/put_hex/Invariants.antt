use Rattle.std.proofs.Common.{◌≡◌, ◌++◌, drop}
use Rattle.hex.specs.Hex.{encode_lower}
use Rattle.batctl_text.proofs.part.put_hex.Given as goal

abbrev pub invariant-loop-byte : goal.invariant-loop-byte
invariant-loop-byte l = l.line ++ encode_lower (drop l.byte-index l.bytes) ≡ l.initial.line ++ encode_lower l.bytes
