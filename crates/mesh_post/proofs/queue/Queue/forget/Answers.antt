use Rattle.std.proofs.Common.{rules, tests, ◌≡◌, ◌++◌, Bool, sym, ap, ◌∙◌, filter, List}
use Rattle.std.proofs.lemmas.Fn.{filter_same}
use Rattle.mesh_model.specs.declared.happening.Happening.{Happening}
use Rattle.mesh_post.specs.Refused.{stays}
use Rattle.mesh_post.proofs.Midway.{filter_append}
use Rattle.mesh_post.proofs.queue.Queue.forget.Goals as goal

pub returns : goal.returns
returns c =
    let i = c.self.inside in
    let test : Happening → Bool = stays c.args.frames c.args.puts in
    let kept : c.retain.new.self.keys ≡ filter test i.others.keys = filter_same _ test _ (λ x b f called. search (rules, tests)) _ _ c.retain.ensures.filtered in
    let third : List Happening = i.third ++ i.others.keys in
    let second : List Happening = i.second ++ third in
    ap (λ l. l ++ (c.forget-2.new.self ++ (c.forget-3.new.self ++ c.retain.new.self.keys))) c.forget.ensures
    ∙ ap (λ l. filter test i.first ++ (l ++ (c.forget-3.new.self ++ c.retain.new.self.keys))) c.forget-2.ensures
    ∙ ap (λ l. filter test i.first ++ (filter test i.second ++ (l ++ c.retain.new.self.keys))) c.forget-3.ensures
    ∙ ap (λ l. filter test i.first ++ (filter test i.second ++ (filter test i.third ++ l))) kept
    ∙ ap (λ l. filter test i.first ++ (filter test i.second ++ l)) (sym (filter_append test i.third i.others.keys))
    ∙ ap (λ l. filter test i.first ++ l) (sym (filter_append test i.second third))
    ∙ sym (filter_append test i.first second)
    ∙ ap (filter test) c.self.view_is
