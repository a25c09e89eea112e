use Rattle.tt_local.proofs.ClientsLemmas.{none_changed}
use Rattle.tt_local.proofs.clients.Clients.depart.Goals as goal

pub returns-in_default-clause-departed : goal.returns-in_default-clause-departed
returns-in_default-clause-departed c = λ now. none_changed c.args.self.now c.args.key _ c.get.result c.get.ensures c.in_default.is

pub returns-in_default-clause-roamed : goal.returns-in_default-clause-roamed
returns-in_default-clause-roamed c = λ now. none_changed c.args.self.now c.args.key _ c.get.result c.get.ensures c.in_default.is
