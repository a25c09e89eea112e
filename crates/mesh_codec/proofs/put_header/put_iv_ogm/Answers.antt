use Rattle.std.proofs.Common.{rules, ◌∙◌, ◌++◌, ap, arith}
use Rattle.mesh_model.specs.Packets.Layout.{Fits}
use Rattle.mesh_model.specs.Packets.Layout.Part.{address}
use Rattle.mesh_codec.proofs.put_header.put_iv_ogm.Goals as goal

pub returns-clause-parts : goal.returns-clause-parts
returns-clause-parts c =
    let orig : Fits (address c.args.orig) = search rules in
    let prev : Fits (address c.args.prev) = search rules in
    record {
      fits =
          (omega arith, (omega arith, (omega (arith, c.ranges.ttl.fits), (omega (arith, c.ranges.flags.fits), (omega (arith, c.ranges.seq.fits), (orig, (prev, (tt, (omega (arith, c.ranges.tq.fits), (omega (arith, c.ranges.told.fits), tt))))))))));
      items = c.put.ensures.items ∙ ap (λ l. c.args.out.now.items ++ l) c.iv_ogm_bytes.ensures;
      room = c.put.ensures.room;
    }
