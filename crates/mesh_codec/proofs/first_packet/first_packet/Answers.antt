use Rattle.std.proofs.Common.{◌∙◌}
use Rattle.std.proofs.lemmas.Result.{err_from_is_err_and}
use Rattle.mesh_codec.proofs.Behind.{too_few, other_version, right_version, read_first, all_after}
use Rattle.mesh_codec.proofs.Decoded.{are_bytes}
use Rattle.mesh_codec.proofs.Rewritten.{found_written}
use Rattle.mesh_codec.proofs.first_packet.first_packet.Goals as goal

pub returns-in_default-clause-err : goal.returns-in_default-clause-err
returns-in_default-clause-err c = too_few c.args.bytes.now c.in_default.len_below

pub returns-then-version-ne-VERSION-clause-err : goal.returns-then-version-ne-VERSION-clause-err
returns-then-version-ne-VERSION-clause-err c = other_version c.args.bytes.now c.in-len2-up.len_at_least c.if-version-ne-VERSION.true

pub returns-in_err-header_in-clause-err : goal.returns-in_err-header_in-clause-err
returns-in_err-header_in-clause-err c =
    let p = err_from_is_err_and c.from_residual.result c.from_residual.ensures.1 in
    rw (p.1, p.2) (right_version c.args.bytes.now c.in-len2-up.len_at_least c.if-version-ne-VERSION.false ∙ (rw (all_after c.args.bytes.now) at c.in_err-header_in.ensures.err))

pub returns-clause-ok : goal.returns-clause-ok
returns-clause-ok c =
    let is = read_first c.args.bytes.now c.in_ok-header_in.field-0 c.in-len2-up.len_at_least c.if-version-ne-VERSION.false (rw (all_after c.args.bytes.now) at c.in_ok-header_in.ensures.ok) in
    rw is c.cut.ensures.ok

pub returns-clause-err : goal.returns-clause-err
returns-clause-err c =
    let is = read_first c.args.bytes.now c.in_ok-header_in.field-0 c.in-len2-up.len_at_least c.if-version-ne-VERSION.false (rw (all_after c.args.bytes.now) at c.in_ok-header_in.ensures.ok) in
    rw is c.cut.ensures.err

pub returns-clause-written : goal.returns-clause-written
returns-clause-written c =
    found_written c.args.bytes.now c.cut.result (are_bytes c.args.bytes.now c.type_inv.bytes) (returns-clause-ok c)
