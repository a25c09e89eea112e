-- The youngest chunk leaves the list and comes back longer.
use Rattle.std.proofs.Common.{rules}
use Rattle.frame_store.proofs.WritingLemmas.{lengthens}
use Rattle.frame_store.proofs.writing.lengthen.Goals as goal

pub returns : goal.returns
returns c = lengthens _ _ _ c.pop.new.self.items c.unwrap-youngest.result c.append.new.self _ _
    c.requires.stand c.requires.filled (search rules)
    (rw c.unwrap-youngest.ensures at c.pop.ensures.items) c.push_reserved.ensures.items
    c.append.ensures c.requires.fits
    (search rules) (search rules) (search rules) (search rules)
    (search rules) (search rules) (search rules)
