-- Of younger chunks the last one becomes the last older one.
use Rattle.std.proofs.Common.{append_assoc, rules}
use Rattle.frame_store.proofs.StoreLemmas.{settles}
use Rattle.frame_store.proofs.settling.settle.Goals as goal

pub returns-in-Some-clause-stands : goal.returns-in-Some-clause-stands
returns-in-Some-clause-stands c =
    settles c.args.older.now _ c.args.grown.now _ c.pop.new.self.items c.in-Some.youngest
    c.requires.stands (search rules) (search rules)
    (rw (
      rw c.unwrap.ensures at c.append-in-Some.ensures.items,
      c.push_reserved.ensures.items,
      c.replace-full.ensures.value,
      c.append.ensures,
      c.filled.ensures,
    ) (append_assoc c.args.older.now.closed.items _ c.pop.new.self.items))
    (search rules) (search rules)
    (search rules) (search rules) (search rules) (search rules) (search rules)
