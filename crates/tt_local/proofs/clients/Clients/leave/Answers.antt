use Rattle.std.proofs.Common.{refl}
use Rattle.tt_local.proofs.ClientsLemmas.{none_changed}
use Rattle.tt_local.proofs.clients.Clients.leave.Goals as goal

pub returns-in_default : goal.returns-in_default
returns-in_default c = record { news = λ now. none_changed c.args.self.now c.args.key _ c.get.result c.get.ensures c.in_default.is; as_long = refl }
