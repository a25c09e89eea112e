use Rattle.std.proofs.Common.{rules, ◌≡◌, length, vec_len, sym, ap, ◌∙◌}
use Rattle.mesh_post.proofs.FrameLemmas.{from_length}
use Rattle.mesh_post.proofs.frames.Frames.len.Goals as goal

pub returns : goal.returns
returns c =
    let i = c.self.inside in
    let len_is : vec_len i.words ≡ length i.words.items = search rules in
    c.len.ensures ∙ len_is ∙ sym (from_length i.bases.items i.far 0 i.words.items) ∙ ap length c.self.view_is
