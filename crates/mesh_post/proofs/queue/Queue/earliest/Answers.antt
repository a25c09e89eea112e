use Rattle.std.proofs.Common.{subst, ◌++◌, List, append_assoc, ◌∙◌}
use Rattle.mesh_model.specs.declared.happening.Happening.{Happening}
use Rattle.mesh_post.specs.Waiting.{IsEarliest}
use Rattle.mesh_post.proofs.RisingLemmas.{first_alone}
use Rattle.mesh_post.proofs.queue.Queue.earliest.Goals as goal

pub returns-then-are_empty : goal.returns-then-are_empty
returns-then-are_empty c =
    let i = c.self.inside in
    subst (λ (q : List Happening). IsEarliest q c.earlier-ahead.result) c.self.view_is
    (first_alone i.first i.second (i.third ++ i.others.keys) c.earlier-ahead.result (c.are_empty.ensures c.if-are_empty.true)
    (c.earlier-ahead.ensures i.first i.second c.earliest.ensures c.earliest-2.ensures))

pub returns : goal.returns
returns c =
    let i = c.self.inside in
    subst (λ (q : List Happening). IsEarliest q c.earlier-2.result) (append_assoc i.first i.second (i.third ++ i.others.keys) ∙ c.self.view_is)
    (c.earlier-2.ensures (i.first ++ i.second) (i.third ++ i.others.keys) (c.earlier-ahead.ensures i.first i.second c.earliest.ensures c.earliest-2.ensures)
    (c.earlier.ensures i.third i.others.keys c.earliest-3.ensures c.first_of.ensures))
