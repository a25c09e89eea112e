use Rattle.std.proofs.Common.{◌∙◌, sym, codes}
use Rattle.clap.proofs.WalkLemmas.{first_value-rows}
use Rattle.clap.specs.Words.{found_of, rows_of}
use Rattle.mesh_words.proofs.WordLemmas.{joined_loop, joined_scenario}
use Rattle.mesh_words.proofs.values.call_of_values.Goals as goal

pub returns-then-is_set-clause-call : goal.returns-then-is_set-clause-call
returns-then-is_set-clause-call c =
    let found = found_of c.args.matches.now in
    c.loop_call.ensures.call
    ∙ joined_loop (rows_of found) _ _ _ _ (c.get_str-bisect.ensures ∙ first_value-rows found (codes "bisect")) (c.get_str-frames.ensures ∙ first_value-rows found (codes "frames"))
    (c.get_str-nodes.ensures ∙ first_value-rows found (codes "generate")) (c.get_str-file.ensures ∙ first_value-rows found (codes "file")) (sym c.is_set.ensures ∙ c.if-is_set.true)

pub returns-clause-call : goal.returns-clause-call
returns-clause-call c =
    let found = found_of c.args.matches.now in
    c.scenario_call.ensures.call
    ∙ joined_scenario (rows_of found) _ _ _ _ (c.get_str-bisect.ensures ∙ first_value-rows found (codes "bisect")) (c.get_str-frames.ensures ∙ first_value-rows found (codes "frames"))
    (c.get_str-nodes.ensures ∙ first_value-rows found (codes "generate")) (c.get_str-file.ensures ∙ first_value-rows found (codes "file")) (sym c.is_set.ensures ∙ c.if-is_set.false)
