use Rattle.tt_local.proofs.ClientsLemmas.{none_came}
use Rattle.tt_local.proofs.MomentsLemmas.{moments_kept}
use Rattle.std.proofs.Common.{length, ◌∙◌, Some, ap, sym, is_some}
use Rattle.std.proofs.lemmas.Bool.{false≢true}
use Rattle.tt_local.specs.Clients.{client_at}
use Rattle.tt_local.proofs.clients.Clients.put.Goals as goal

pub invariant_of-self-2 : goal.invariant_of-self-2
invariant_of-self-2 c =
    moments_kept c.self.inside.map.entries c.insert.new.self.entries c.self.inside.moments c.args.key (Some c.args.client) c.self.invariant
    c.in_ok-insert.ensures.updates.0 c.insert.ensures.ordered (rw c.self.view_is c.requires.same)

pub returns-clause-put : goal.returns-clause-put
returns-clause-put c = rw (← c.self.view_is) c.in_ok-insert.ensures.updates.0

pub returns-in_err-insert-clause-known : goal.returns-in_err-insert-clause-known
returns-in_err-insert-clause-known c = λ there.
    absurd (false≢true (ap is_some (sym c.in_err-insert.ensures.absent) ∙ ap (λ cs. is_some (client_at cs c.args.key)) c.self.view_is ∙ there))

pub returns-clause-as_long : goal.returns-clause-as_long
returns-clause-as_long c = λ there.
    let done = c.in_ok-insert.ensures in
    let was = ap is_some done.old ∙ ap (λ cs. is_some (client_at cs c.args.key)) c.self.view_is ∙ there in
    rw (← c.self.view_is) (none_came (length c.self.inside.map.entries) _ _ done.len was)
