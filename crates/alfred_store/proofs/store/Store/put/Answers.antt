use Rattle.alfred_store.proofs.store.Store.put.Goals as goal

pub returns-clause-ok : goal.returns-clause-ok
returns-clause-ok c =
    λ me known stands. record {
      facts = c.in_ok-put.ensures.ok me known.services.facts stands.facts;
      primaries = stands.primaries;
      pushes = stands.pushes;
      answers = stands.answers;
      requests = stands.requests;
      ids = stands.ids;
    }
