use Rattle.std.proofs.Common.{◌≡◌, ◌∙◌, length, None, Some, ap, is_some, subst, sym}
use Rattle.std.proofs.lemmas.Bool.{false≢true}
use Rattle.std.proofs.lemmas.Result.{IfOk-at_ok}
use Rattle.tt_local.specs.Clients.{client_at, HasClient}
use Rattle.tt_local.specs.Moments.{moment_of}
use Rattle.tt_local.proofs.ClientsLemmas.{none_came}
use Rattle.tt_local.proofs.MomentsLemmas.{moments_after, ok_where_known}
use Rattle.tt_local.proofs.clients.Clients.unsight.Goals as goal

pub unwrap-requires : goal.unwrap-requires
unwrap-requires c =
    let there : client_at c.self.inside.map.entries c.args.key ≡ Some c.args.client = rw c.self.view_is c.requires.there in
    ok_where_known c.insert-replaced.result _ c.insert-replaced.ensures.absent (λ absent. false≢true (ap is_some (sym absent ∙ there)))

pub invariant_of-self : goal.invariant_of-self
invariant_of-self c =
    moments_after c.self.inside.map.entries c.insert-replaced.new.self.entries c.self.inside.moments c.forget.new.self c.args.key (Some c.unsighted.result) None c.self.invariant
    (IfOk-at_ok _ c.unwrap.ensures c.insert-replaced.ensures.updates).0 c.insert-replaced.ensures.ordered
    (ap moment_of c.unsighted.ensures) c.forget.ensures.forgotten

pub returns-clause-unsighted : goal.returns-clause-unsighted
returns-clause-unsighted c =
    rw (← c.self.view_is) (subst (λ client. HasClient c.args.key (Some client) c.self.inside.map.entries c.insert-replaced.new.self.entries) c.unsighted.ensures
    (IfOk-at_ok _ c.unwrap.ensures c.insert-replaced.ensures.updates).0)

pub returns-clause-as_long : goal.returns-clause-as_long
returns-clause-as_long c =
    let there : client_at c.self.inside.map.entries c.args.key ≡ Some c.args.client = rw c.self.view_is c.requires.there in
    let len = IfOk-at_ok _ c.unwrap.ensures c.insert-replaced.ensures.len in
    let old = IfOk-at_ok _ c.unwrap.ensures c.insert-replaced.ensures.old in
    rw (← c.self.view_is) (none_came (length c.self.inside.map.entries) _ _ len (ap is_some (old ∙ there)))
