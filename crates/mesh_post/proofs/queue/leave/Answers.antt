use Rattle.std.proofs.Common.{refl, sym, ◌∙◌}
use Rattle.mesh_post.proofs.QueueLemmas.{first_key, key_leaves}
use Rattle.mesh_post.proofs.RisingLemmas.{early_leaves}
use Rattle.mesh_post.proofs.queue.leave.Goals as goal

pub returns-then-is_before : goal.returns-then-is_before
returns-then-is_before c = early_leaves c.args.h c.in-Some.first.now c.args.waiting.now.keys (first_key c.args.waiting.now.keys c.in-Some.first.now c.in-Some.ensures.first c.in-Some.ensures.all_from) (sym c.is_before.ensures ∙ c.if-is_before.true)

pub returns : goal.returns
returns c =
    let k = first_key c.args.waiting.now.keys c.in-Some.first.now c.in-Some.ensures.first c.in-Some.ensures.all_from in
    key_leaves c.args.h c.in-Some.first.now c.args.waiting.now.keys c.pop_first.new.self.keys c.pop_first.result (c.pop_first.ensures.variant.1 (c.in-Some.ensures.variant.0 refl)) c.pop_first.ensures.removal c.pop_first.ensures.all_above
    k.0 c.requires (sym c.is_before.ensures ∙ c.if-is_before.false) k.1
