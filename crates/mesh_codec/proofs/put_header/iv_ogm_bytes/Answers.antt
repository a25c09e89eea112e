use Rattle.std.proofs.Common.{rules, ◌≡◌, length, arith}
use Rattle.mesh_codec.proofs.HeaderBytes.{iv_ogm_is}
use Rattle.mesh_codec.proofs.put_header.iv_ogm_bytes.Goals as goal

pub returns : goal.returns
returns c =
    let orig : length c.args.orig.0 ≡ 6 = search rules in
    let prev : length c.args.prev.0 ≡ 6 = search rules in
    iv_ogm_is c.args.ttl c.args.flags c.args.seq c.args.tq c.args.told c.args.orig.0 c.args.prev.0 c.to_be_bytes.result c.to_be_bytes-2.result (omega (arith, c.ranges.ttl.fits)) (omega (arith, c.ranges.flags.fits)) (omega (arith, c.ranges.tq.fits)) c.to_be_bytes.ensures c.to_be_bytes-2.ensures orig prev
