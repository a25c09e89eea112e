use Rattle.std.proofs.Common.{◌≡◌, ◌*◌, ◌∙◌, ap, ap₂, arith, length, slice_get, Some, sym}
use Rattle.mesh_model.specs.declared.packet.Head.TheVariants.{Frag}
use Rattle.mesh_model.specs.Fragments.Cutting.{Cut, Reach, tail_size}
use Rattle.mesh_frag.proofs.CutLemmas.{begins_within, few, fragment_at, piece_at, within}
use Rattle.mesh_frag.proofs.cuts.Cuts.at.Goals as goal

pub overflow_cast-head : goal.overflow_cast-head
overflow_cast-head c =
    let kept = c.self.inside in
    let cut : Cut = record { most = kept.most; number = kept.number; me = kept.me; packet = kept.packet } in
    let place = within cut (record { ttl = kept.ttl; dst = kept.dst }) c.args.self.now c.args.place c.self.view_is (omega (arith, c.if-place-len.false, c.len.ensures)) in
    let small = few cut c.self.invariant c.args.place place in
    omega arith

pub piece_at-tail-requires : goal.piece_at-tail-requires
piece_at-tail-requires c =
    let kept = c.self.inside in
    let cut : Cut = record { most = kept.most; number = kept.number; me = kept.me; packet = kept.packet } in
    let place = within cut (record { ttl = kept.ttl; dst = kept.dst }) c.args.self.now c.args.place c.self.view_is (omega (arith, c.if-place-len.false, c.len.ensures)) in
    let begins = begins_within cut c.self.invariant c.args.place place in
    let size = ap (λ n. c.args.place * n) c.tail_size.ensures in
    let same = ap length c.as_slice.ensures.value in
    omega (arith, begins, size, same)

pub returns-clause-at_place : goal.returns-clause-at_place
returns-clause-at_place c =
    let kept = c.self.inside in
    let cut : Cut = record { most = kept.most; number = kept.number; me = kept.me; packet = kept.packet } in
    let reach : Reach = record { ttl = kept.ttl; dst = kept.dst } in
    let place = within cut reach c.args.self.now c.args.place c.self.view_is (omega (arith, c.if-place-len.false, c.len.ensures)) in
    let tail : piece_at (tail_size kept.most) kept.packet c.args.place ≡ c.piece_at-tail.result.now
    = sym (c.piece_at-tail.ensures ∙ ap₂ (λ size bytes. piece_at size bytes c.args.place) c.tail_size.ensures c.as_slice.ensures.value) in
    sym
    (ap (λ rows. slice_get rows c.args.place) (sym c.self.view_is)
    ∙ fragment_at cut reach c.args.place place
    ∙ ap₂ (λ total bytes. Some (Frag kept.ttl c.args.place 0 kept.dst kept.me kept.number total, bytes)) (sym c.len-2.ensures.value) tail)

pub returns-clause-fits : goal.returns-clause-fits
returns-clause-fits c =
    let kept = c.self.inside in
    let cut : Cut = record { most = kept.most; number = kept.number; me = kept.me; packet = kept.packet } in
    let place = within cut (record { ttl = kept.ttl; dst = kept.dst }) c.args.self.now c.args.place c.self.view_is (omega (arith, c.if-place-len.false, c.len.ensures)) in
    let small = few cut c.self.invariant c.args.place place in
    (omega (arith, small), omega arith)
