use Rattle.std.proofs.Common.{◌∙◌, IsSome, is_some, ap, subst, sym}
use Rattle.tt_local.specs.Clients.{client_at}
use Rattle.tt_local.specs.Roster.{RosterView}
use Rattle.tt_local.proofs.roster.Roster.touch.Goals as goal

pub touch_known-requires : goal.touch_known-requires
touch_known-requires c =
    subst (λ (v : RosterView). IsSome (client_at v.clients c.args.key)) c.self.view_is
    (ap is_some (sym c.get.ensures) ∙ sym c.is_some.ensures ∙ c.if-is_some.true)
