use Rattle.std.proofs.Common.{subst, sym}
use Rattle.alfred_store.specs.PrimariesStand.{PrimariesStand}
use Rattle.alfred_store.proofs.PrimaryLemmas.{noted}
use Rattle.alfred_store.proofs.primaries.Primaries.note.Goals as goal

pub returns-clause-ok : goal.returns-clause-ok
returns-clause-ok c =
    λ calls stands.
    let done = c.in_ok-insert_sorted.ensures in
    noted c.args.primary c.args.now c.self.inside.kept.entries c.insert_sorted.new.self.entries done.sorted done.unique done.updates.0 calls
    (subst (λ kept. PrimariesStand kept calls) (sym c.self.view_is) stands)
