use Rattle.std.proofs.Common.{rules, sym, ◌∙◌}
use Rattle.mesh_scenario.proofs.WordsLemmas.{line_words-some, line_words-none}
use Rattle.mesh_scenario.proofs.words.Words.next.Goals as goal

pub returns-then-is_empty-clause-none : goal.returns-then-is_empty-clause-none
returns-then-is_empty-clause-none c = line_words-none _ c.self.inside.rest.now c.separators.result (search rules)
    c.separators.ensures.value (sym c.is_empty.ensures ∙ c.if-is_empty.true)

pub returns-clause-some : goal.returns-clause-some
returns-clause-some c = line_words-some _ c.self.inside.rest.now _ _ c.separators.result _ (search rules)
    c.separators.ensures.value (sym c.is_empty.ensures ∙ c.if-is_empty.false)
    c.word_length.ensures.value c.split_at.ensures.front c.split_at.ensures.back
