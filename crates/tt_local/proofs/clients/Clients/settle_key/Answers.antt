use Rattle.std.proofs.Common.{◌≡◌, ◌∙◌, ap, false, is_none, not, sym}
use Rattle.tt_local.specs.Clients.{client_row}
use Rattle.tt_local.proofs.ClientsLemmas.{unchanged}
use Rattle.tt_local.proofs.RosterLemmas.{settles_same, settles_unknown}
use Rattle.tt_local.proofs.clients.Clients.settle_key.Goals as goal

pub returns-in_default-clause-settled : goal.returns-in_default-clause-settled
returns-in_default-clause-settled c =
    unchanged c.args.self.now c.args.key _ (settles_unknown c.args.now c.args.key _ (sym c.get.ensures ∙ c.in_default.is))

pub returns-else-is_aged-clause-settled : goal.returns-else-is_aged-clause-settled
returns-else-is_aged-clause-settled c =
    let there : is_none (client_row c.args.now c.args.key c.in-Some.client) ≡ false = ap is_none (sym c.row.ensures) ∙ ap not c.if-is_none.ensures in
    unchanged c.args.self.now c.args.key _ (settles_same c.args.now c.args.key _ c.in-Some.client (sym c.get.ensures ∙ c.in-Some.is) there (sym c.is_aged.ensures ∙ c.if-is_aged.false))
