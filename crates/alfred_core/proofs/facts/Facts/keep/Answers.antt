use Rattle.std.proofs.Common.{subst, sym}
use Rattle.mesh_model.specs.contracts.service.FactKeyOrd.TheImpl.Laws.{matches_eq-law}
use Rattle.mesh_model.specs.declared.service.KeptFact.{KeptFact}
use Rattle.alfred_core.specs.Facts.{FactsStand}
use Rattle.alfred_core.proofs.FactLemmas.{noted}
use Rattle.alfred_core.proofs.facts.Facts.keep.Goals as goal

pub returns-clause-ok : goal.returns-clause-ok
returns-clause-ok c =
    λ me calls call stands by.
    let one : KeptFact = record { moment = c.args.now; mark = c.args.mark; fact = c.args.fact } in
    let done = c.in_ok-insert_sorted.ensures in
    noted _ matches_eq-law (record { me = c.self.inside.me; kept = c.self.inside.kept.entries }) c.key_of.result one c.insert_sorted.new.self.entries c.key_of.ensures done.sorted done.unique done.updates.0 me calls call
    (subst (λ facts. FactsStand facts me calls) (sym c.self.view_is) stands) by
