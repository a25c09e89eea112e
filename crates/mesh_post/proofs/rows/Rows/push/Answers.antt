-- What is noted is the throughput of each link back.
use Rattle.std.proofs.Common.{◌≡◌, ◌++◌, ◌∷◌, [], ap, ◌∙◌, rules}
use Rattle.mesh_post.specs.Inner.Links.{backs_of, between, noted}
use Rattle.mesh_post.proofs.RowLemmas.{backs_linked}
use Rattle.mesh_post.proofs.rows.Rows.push.Goals as goal

pub invariant_of-self-2 : goal.invariant_of-self-2
invariant_of-self-2 c =
    let row = c.args.row in
    let value = c.as_slice-rows.ensures.value in
    let rows : c.push_reserved.new.self.items ≡ c.self.inside.rows.items ++ row ∷ [] = search rules in
    let backs : c.push_reserved-2.new.self.items ≡ c.self.inside.backs.items ++ c.throughput.result ∷ [] = search rules in
    c.note.ensures
    ∙ ap (noted (between row.to row.from) c.throughput-2.result c.as_slice-rows.result.now) backs
    ∙ backs_linked c.self.inside.rows.items row c.as_slice-rows.result.now c.self.inside.backs.items c.throughput-2.result c.throughput.result (value ∙ rows) c.self.invariant c.throughput-2.ensures c.throughput.ensures
    ∙ ap backs_of value
