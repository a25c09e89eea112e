use Rattle.std.proofs.Common.{arith}
use Rattle.batctl_text.proofs.HexLemmas.{digits-more, digits-end}
use Rattle.batctl_text.proofs.part.put_hex.Goals as goal

pub loop-byte-preserved : goal.loop-byte-preserved
loop-byte-preserved c =
    digits-more c.args.line.now c.loop-byte.line c.put.new.self c.args.bytes.now c.loop-byte.byte-index c.high_digit.result c.low_digit.result (omega arith)
    c.high_digit.ensures c.low_digit.ensures c.in_ok-put.ensures c.loop-byte.invariant

pub returns : goal.returns
returns c = digits-end c.args.line.now c.loop-byte.line c.args.bytes.now c.loop-byte.byte-index (omega arith) c.loop-byte.invariant
