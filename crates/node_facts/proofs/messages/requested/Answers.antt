use Rattle.std.proofs.Common.{◌≡◌, ◌∙◌, ap, rules, sym, tests}
use Rattle.std.proofs.lemmas.Result.{err_from_is_err_and}
use Rattle.mesh_messages.specs.LentFacts.{lent_facts}
use Rattle.mesh_model.specs.declared.line_form.AlfredMode.TheVariants.{Primary as IsPrimary}
use Rattle.mesh_model.specs.Clients.Settings.{Settings}
use Rattle.node_facts.proofs.messages.requested.Goals as goal

pub returns-in_err-send_transaction : goal.returns-in_err-send_transaction
returns-in_err-send_transaction g c = λ known stands.
    let p = err_from_is_err_and c.from_residual-in_err-send_transaction.result c.from_residual-in_err-send_transaction.ensures.1 in
    let primary : c.args.kept.now.services.settings.fact_store ≡ IsPrimary = search (rules, tests) in
    let facts = ap lent_facts c.as_slice.ensures.value ∙ c.in_ok-facts.ensures c.args.at.me known stands.services.store in
    rw (p.1, p.2, sym (ap (λ (s : Settings). s.fact_store) stands.services.settings) ∙ primary, sym facts) (c.in_err-send_transaction.ensures known stands)

pub returns : goal.returns
returns g c = λ known stands.
    let primary : c.args.kept.now.services.settings.fact_store ≡ IsPrimary = search (rules, tests) in
    let facts = ap lent_facts c.as_slice.ensures.value ∙ c.in_ok-facts.ensures c.args.at.me known stands.services.store in
    rw (sym (ap (λ (s : Settings). s.fact_store) stands.services.settings) ∙ primary, sym facts) (c.in_ok-send_transaction.ensures known stands)
