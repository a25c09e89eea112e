use Rattle.std.proofs.Common.{◌≡◌, ◌+◌, ◌-◌, ◌*◌, ◌/◌, length, take, drop, ap, sym, ◌∙◌, arith}
use Rattle.std.specs.Prelude.{Some}
use Rattle.mesh_tvlv.proofs.PiecesLemmas.{slice_get-pieces, whole_pieces-past}
use Rattle.mesh_vis.proofs.view.piece.Goals as goal

pub returns-then-place-bytes-clause-value : goal.returns-then-place-bytes-clause-value
returns-then-place-bytes-clause-value c = sym (whole_pieces-past c.args.size c.args.bytes.now c.args.place (omega arith))

pub returns-clause-value : goal.returns-clause-value
returns-clause-value c =
    let start : _ = c.args.size * c.args.place in
    let same : start + c.args.size - start ≡ c.args.size = omega arith in
    ap (λ n. Some (take n (drop start c.args.bytes.now))) same
    ∙ sym (slice_get-pieces (length c.args.bytes.now / c.args.size) c.args.size c.args.bytes.now c.args.place (omega arith))
