use Rattle.std.proofs.Common.{rules, tests, ◌∙◌, ap, ◌==◌}
use Rattle.std.proofs.lemmas.Iterator.Consumers.{YieldsList-from_filter, count_from_yields_List}
use Rattle.std.proofs.lemmas.Iterator.Splits.{YieldsList-from_slice_split}
use Rattle.std.proofs.lemmas.List.Sums.{length-filter}
use Rattle.std.specs.List.{slice_split}
use Rattle.std.specs.Slice.Iter.{split_rest, split_done, split_callee}
use Rattle.mesh_model.specs.Run.Generated.{is_received, received_lines}
use Rattle.mesh_model.specs.Scenario.Lines.{newline}
use Rattle.mesh_generate.proofs.summary.received_lines.Goals as goal

pub returns : goal.returns
unfolding received_lines
returns c =
    let source = c.filter.ensures.source in
    count_from_yields_List c.filter.result c.count.result c.count.ensures.ran
    (YieldsList-from_filter {s = c.filter.result} _ is_received
    (YieldsList-from_slice_split _ (λ byte. byte == newline) c.args.text.now (ap split_rest source ∙ c.split.ensures.rest) (ap split_done source ∙ c.split.ensures.done)
    (ap split_callee source ∙ c.split.ensures.closure) (λ x b q k. search (rules, tests)))
    c.filter.ensures.closure (λ x b q k. search (rules, tests)))
    ∙ length-filter is_received (slice_split (λ byte. byte == newline) c.args.text.now)
