use Rattle.std.proofs.Common.{◌∙◌, sym, ap, arith, Some}
use Rattle.mesh_words.proofs.WordLemmas.{named, unnamed}
use Rattle.mesh_words.proofs.values.nodes_of_word.Goals as goal

pub returns-in_default-clause-named : goal.returns-in_default-clause-named
returns-in_default-clause-named c = sym (unnamed c.args.word.now (λ taken. c.in_default.ensures.value.0 (taken.0, omega (arith, taken.3))))

pub returns-then-nodes-lt-LEAST_NODES-clause-named : goal.returns-then-nodes-lt-LEAST_NODES-clause-named
returns-then-nodes-lt-LEAST_NODES-clause-named c = sym (unnamed c.args.word.now (λ taken. omega (arith, c.in-Ok.ensures.value.0.1, taken.2)))

pub returns-then-nodes-gt-MOST_NODES-clause-named : goal.returns-then-nodes-gt-MOST_NODES-clause-named
returns-then-nodes-gt-MOST_NODES-clause-named c = sym (unnamed c.args.word.now (λ taken. omega (arith, c.in-Ok.ensures.value.0.1, taken.3)))

pub returns-clause-named : goal.returns-clause-named
returns-clause-named c =
    let h = c.in-Ok.ensures.value.0 in
    ap Some h.1 ∙ sym (named c.args.word.now (h.0.0, omega (arith, h.1), omega (arith, h.1), omega (arith, h.1)))
