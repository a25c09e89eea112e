use Rattle.std.proofs.Common.{◌∙◌, List, ℕ, ◌++◌, ap}
use Rattle.mesh_model.specs.Run.Generated.{summary_line}
use Rattle.mesh_generate.proofs.LineLemmas.{line_of_6}
use Rattle.mesh_generate.proofs.summary.summary_line.Goals as goal

pub returns : goal.returns
unfolding summary_line
returns c =
    let counts = c.args.counts in
    let text = summary_line counts.nodes counts.frames counts.received counts.commits counts.ok in
    line_of_6 c.new-line.result.items c.put_named_number.new.out.items c.put_named_number-2.new.out.items c.put_named_number-3.new.out.items c.put_named_number-4.new.out.items
    c.put_named_number-5.new.out.items c.put_named_number-6.new.out.items _ _ _ _ _ _ _ (rw c.from-nodes.ensures at c.in_ok-put_named_number.ensures) (rw c.from.ensures at c.in_ok-put_named_number-2.ensures)
    c.in_ok-put_named_number-3.ensures c.in_ok-put_named_number-4.ensures c.in_ok-put_named_number-5.ensures (rw c.from-nodes.ensures at c.in_ok-put_named_number-6.ensures)
    c.in_ok-extend_from_slice.ensures.items
    ∙ ap (λ (front : List ℕ). front ++ text) c.new-line.ensures.items
