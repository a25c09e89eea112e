use Rattle.std.proofs.Common.{◌≡◌, ◌∙◌, option_and_then, rules}
use Rattle.tt_local.specs.Clients.{client_at, client_row}
use Rattle.tt_local.proofs.ClientsLemmas.{row_kept}
use Rattle.tt_local.proofs.clients.Clients.row.Goals as goal

pub returns-clause-present : goal.returns-clause-present
returns-clause-present c =
    let kept : c.row.result ≡ option_and_then (client_row c.args.now c.args.key) (client_at c.args.self.now c.args.key) = search rules in
    λ mentions since stands late. kept ∙ row_kept c.args.self.now mentions since c.args.now stands late c.args.key

pub returns-in_err-get-clause-present : goal.returns-in_err-get-clause-present
returns-in_err-get-clause-present c =
    let kept : c.from_residual.result ≡ option_and_then (client_row c.args.now c.args.key) (client_at c.args.self.now c.args.key) = search rules in
    λ mentions since stands late. kept ∙ row_kept c.args.self.now mentions since c.args.now stands late c.args.key
