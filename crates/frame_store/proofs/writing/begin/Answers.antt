-- A chunk is begun behind the others.
use Rattle.std.proofs.Common.{rules}
use Rattle.frame_store.proofs.WritingLemmas.{begins}
use Rattle.frame_store.proofs.writing.begin.Goals as goal

pub returns-clause-ok : goal.returns-clause-ok
returns-clause-ok c = begins _ _ c.fresh.new.grown _ c.in_ok-chunk.chunk c.append.new.self _ _
    c.requires.stand c.requires.filled (search rules) c.requires.longer
    c.in_ok-chunk.ensures.ok c.append.ensures c.push_reserved.ensures.items
    (search rules) (search rules) (search rules) (search rules)
    (search rules) (search rules) (search rules)
