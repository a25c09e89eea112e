use Rattle.std.proofs.Common.{rules, ◌≡◌, ◌∷◌, [], ◌++◌, length, vec_len, sym, ap, ◌∙◌}
use Rattle.mesh_post.specs.Posting.{posted_at, posted_from}
use Rattle.mesh_post.proofs.FrameLemmas.{all_more}
use Rattle.mesh_post.proofs.frames.Frames.pop.Goals as goal

pub returns-clause-some : goal.returns-clause-some
returns-clause-some c =
    let i = c.self.inside in
    let left = c.pop.new.self.items in
    let word = c.in_ok-word.word in
    let len_is : vec_len c.pop.new.self ≡ length left = search rules in
    let place_is : c.len-place.result ≡ length left = c.len-place.ensures ∙ len_is in
    let says : c.read.result ≡ posted_at i.bases.items i.far (length left) word
    = c.read.ensures ∙ ap (λ bases. posted_at bases i.far c.len-place.result word) c.deref.ensures.value ∙ ap (λ p. posted_at i.bases.items i.far p word) place_is in
    sym c.self.view_is ∙ ap (posted_from i.bases.items i.far 0) c.in_ok-word.ensures.items
    ∙ all_more i.bases.items i.far left word ∙ ap (λ f. posted_from i.bases.items i.far 0 left ++ f ∷ []) (sym says)
