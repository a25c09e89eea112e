use Rattle.std.proofs.Common.{◌∙◌, ap, ap₂, length, sym}
use Rattle.std.specs.Int.{div_ceil}
use Rattle.mesh_model.specs.Fragments.Cutting.{Cut, Reach}
use Rattle.mesh_frag.proofs.CutLemmas.{count_is}
use Rattle.mesh_frag.proofs.cuts.Cuts.len.Goals as goal

pub returns : goal.returns
returns c =
    let kept = c.self.inside in
    let cut : Cut = record { most = kept.most; number = kept.number; me = kept.me; packet = kept.packet } in
    let reach : Reach = record { ttl = kept.ttl; dst = kept.dst } in
    c.div_ceil.ensures ∙ ap₂ div_ceil c.len.ensures.value c.tail_size.ensures ∙ sym (count_is cut reach) ∙ ap length c.self.view_is
