use Rattle.std.proofs.Common.{ap, arith, Err}
use Rattle.std.proofs.lemmas.Result.{err_from_is_err_and}
use Rattle.mesh_laws.proofs.FrameLemmas.{rest-shorter}
use Rattle.mesh_codec.specs.declared.failure.CodecErr.{CodecErr}
use Rattle.mesh_codec.specs.Inner.Reading.{seen_front}
use Rattle.mesh_codec.proofs.Decoded.{are_bytes, has_cause, right_answer, only_answer, no_cause, no_packet_begins, one_cause}
use Rattle.mesh_codec.proofs.decoding.decode.Goals as goal

pub returns-in_err-front-clause-cause : goal.returns-in_err-front-clause-cause
returns-in_err-front-clause-cause c =
    let p = err_from_is_err_and c.from_residual.result c.from_residual.ensures.1 in
    rw (p.1, p.2) (has_cause c.args.bytes.now c.in_err-front.field-0.0 (are_bytes c.args.bytes.now c.type_inv.bytes) c.in_err-front.ensures.err)

pub returns-in_err-front-clause-only : goal.returns-in_err-front-clause-only
returns-in_err-front-clause-only c = λ head tail used packet.
    absurd (no_packet_begins c.args.bytes.now c.in_err-front.field-0.0 head tail used c.in_err-front.ensures.err packet)

pub returns-in_err-front-clause-refused : goal.returns-in_err-front-clause-refused
returns-in_err-front-clause-refused c = λ error cause.
    let p = err_from_is_err_and c.from_residual.result c.from_residual.ensures.1 in
    rw (p.1, p.2) (ap (λ (e : CodecErr). Err e) (one_cause c.args.bytes.now c.in_err-front.field-0.0 error c.in_err-front.ensures.err cause))

pub overflow_sub-used : goal.overflow_sub-used
overflow_sub-used c = omega (arith, rest-shorter c.args.bytes.now (seen_front c.in_ok-front.front) c.in_ok-front.ensures.ok)

pub returns-clause-ok : goal.returns-clause-ok
returns-clause-ok c = right_answer c.args.bytes.now (seen_front c.in_ok-front.front) (are_bytes c.args.bytes.now c.type_inv.bytes) c.in_ok-front.ensures.ok

pub returns-clause-only : goal.returns-clause-only
returns-clause-only c = λ head tail used packet.
    only_answer c.args.bytes.now (seen_front c.in_ok-front.front) head tail used c.in_ok-front.ensures.ok packet

pub returns-clause-refused : goal.returns-clause-refused
returns-clause-refused c = λ error cause.
    absurd (no_cause c.args.bytes.now (seen_front c.in_ok-front.front) error c.in_ok-front.ensures.ok cause)
