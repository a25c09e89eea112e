use Rattle.std.proofs.Common.{rules, ◌≡◌, ◌∷◌, [], ◌++◌, ◌+◌, ◌*◌, ◌/◌, ◌<◌, length, refl, ap, ◌∙◌, arith}
use Rattle.std.proofs.lemmas.Option.{slice_get_within}
use Rattle.std.proofs.lemmas.Result.{err_from_is_err_and}
use Rattle.mesh_post.specs.Posting.{block_size, links_told, posted_at, posted_from}
use Rattle.mesh_post.proofs.FrameLemmas.{all_more, from_kept, in_block, word_says}
use Rattle.mesh_post.proofs.frames.Frames.push.Goals as goal

pub returns-in_err-base-clause-err : goal.returns-in_err-base-clause-err
returns-in_err-base-clause-err c =
    let i = c.self.inside in
    let g = c.base_of.ensures.grown in
    let error = err_from_is_err_and c.from_residual.result c.from_residual.ensures.1 in
    rw error.1 (from_kept i.bases.items g.0 _ i.far i.far i.words.items g.1 c.self.invariant.1 (λ other l. refl) ∙ c.self.view_is)

pub returns-in_err-behind-clause-err : goal.returns-in_err-behind-clause-err
returns-in_err-behind-clause-err c =
    let i = c.self.inside in
    let g = c.base_of.ensures.grown in
    let place_is : length i.words.items ≡ c.in-Ok.place = search rules in
    let error = err_from_is_err_and c.from_residual-in_err-behind.result c.from_residual-in_err-behind.ensures.1 in
    rw error.1 (from_kept i.bases.items g.0 _ i.far c.behind_of.new.far i.words.items g.1 c.self.invariant.1 (λ other l. c.behind_of.ensures.others other (omega (arith, l, place_is))) ∙ c.self.view_is)

pub returns-in_err-push-clause-err : goal.returns-in_err-push-clause-err
returns-in_err-push-clause-err c =
    let i = c.self.inside in
    let g = c.base_of.ensures.grown in
    let place_is : length i.words.items ≡ c.in-Ok.place = search rules in
    let same : c.push.new.self.items ≡ i.words.items = search rules in
    let error = err_from_is_err_and c.from_residual-in_err-push.result c.from_residual-in_err-push.ensures.1 in
    rw error.1 (ap (posted_from c.base_of.new.bases.items c.behind_of.new.far 0) same
    ∙ from_kept i.bases.items g.0 _ i.far c.behind_of.new.far i.words.items g.1 c.self.invariant.1 (λ other l. c.behind_of.ensures.others other (omega (arith, l, place_is))) ∙ c.self.view_is)

pub invariant_of-self-2 : goal.invariant_of-self-2
invariant_of-self-2 c =
    let i = c.self.inside in
    let place_is : length i.words.items ≡ c.in-Ok.place = search rules in
    let low : c.in-Ok.place < 4294967296 = search rules in
    let more : length c.push.new.self.items ≡ length i.words.items + 1 = search rules in
    let at = slice_get_within c.base_of.new.bases.items (c.in-Ok.place / block_size) c.in_ok-base.base c.in_ok-base.ensures.base in
    let block = in_block c.in-Ok.place (length c.base_of.new.bases.items) at in
    (omega (arith, low, place_is, more), omega (arith, block, place_is, more), c.base_of.ensures.told c.self.invariant.2)

pub returns-clause-ok : goal.returns-clause-ok
returns-clause-ok c =
    let i = c.self.inside in
    let g = c.base_of.ensures.grown in
    let bases = c.base_of.new.bases.items in
    let far = c.behind_of.new.far in
    let posted = c.args.posted in
    let place_is : length i.words.items ≡ c.in-Ok.place = search rules in
    let same = from_kept i.bases.items g.0 _ i.far far i.words.items g.1 c.self.invariant.1 (λ other l. c.behind_of.ensures.others other (omega (arith, l, place_is))) ∙ c.self.view_is in
    let low : posted.link < links_told = search rules in
    let word = c.in_ok-behind.behind * links_told + posted.link in
    let pushed : c.push.new.self.items ≡ i.words.items ++ word ∷ [] = search rules in
    let says = ap (λ p. posted_at bases far p word) place_is
    ∙ word_says bases far c.in-Ok.place c.in_ok-base.base c.in_ok-behind.behind posted low c.in_ok-base.ensures.base c.in_ok-behind.ensures.sending in
    ap (posted_from bases far 0) pushed ∙ all_more bases far i.words.items word
    ∙ ap (λ l. l ++ posted_at bases far (length i.words.items) word ∷ []) same ∙ ap (λ f. c.args.self.now ++ f ∷ []) says
