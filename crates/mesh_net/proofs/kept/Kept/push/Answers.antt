-- The bytes stand behind the others in the store, and the root behind the others.
use Rattle.std.proofs.Common.{◌≡◌, ◌++◌, ◌∷◌, [], ap, ◌∙◌, rules}
use Rattle.frame_store.specs.Frames.{frames}
use Rattle.mesh_net.proofs.KeptLemmas.{sendings_pushed}
use Rattle.mesh_net.proofs.kept.Kept.push.Goals as goal

pub returns-in-Ok-push : goal.returns-in-Ok-push
returns-in-Ok-push c =
    let old = c.self.inside.store in
    let roots : c.push_reserved.new.self.items
    ≡ c.self.inside.roots.items ++ c.in-Ok.root ∷ [] = search rules in
    let list : frames c.push.new.self.older c.push.new.self.grown
    ≡ frames old.older old.grown ++ c.args.sending.now.bytes ∷ []
    = c.in-Ok-push.ensures.ok ∙ ap (λ b. frames old.older old.grown ++ b ∷ []) c.as_slice.ensures.value in
    rw (roots, list, c.in-Ok.ensures.1)
    (sendings_pushed (frames old.older old.grown) c.self.inside.roots.items
    c.args.sending.now.bytes c.args.sending.now.root c.self.invariant.count)
    ∙ ap (λ ss. ss ++ c.args.sending.now ∷ []) c.self.view_is
