use Rattle.std.proofs.Common.{rules, tests, ◌≡◌, sym, ap, subst, ◌∙◌, filter}
use Rattle.std.proofs.lemmas.Fn.{filter_same}
use Rattle.mesh_post.specs.Refused.{stays}
use Rattle.mesh_post.specs.Waiting.{IsRising}
use Rattle.mesh_post.proofs.Before.{filter_rises}
use Rattle.mesh_post.proofs.rising.Rising.forget.Goals as goal

pub invariant_of-self-inside : goal.invariant_of-self-inside
invariant_of-self-inside c =
    let kept : c.retain.new.self.items ≡ filter (stays c.args.frames c.args.puts) c.self.inside.waiting.items = filter_same _ (stays c.args.frames c.args.puts) _ (λ x b f called. search (rules, tests)) _ _ c.retain.ensures.filtered in
    (subst IsRising (sym kept) (filter_rises (stays c.args.frames c.args.puts) c.self.inside.waiting.items c.self.inside.rising), tt)

pub returns : goal.returns
returns c =
    let kept : c.retain.new.self.items ≡ filter (stays c.args.frames c.args.puts) c.self.inside.waiting.items = filter_same _ (stays c.args.frames c.args.puts) _ (λ x b f called. search (rules, tests)) _ _ c.retain.ensures.filtered in
    kept ∙ ap (filter (stays c.args.frames c.args.puts)) c.self.view_is
