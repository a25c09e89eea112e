use Rattle.std.proofs.Common.{subst, sym}
use Rattle.mesh_model.specs.Clients.Mentions.{Mention, Left}
use Rattle.tt_local.specs.Locals.{LocalsView, LocalsStand}
use Rattle.tt_local.proofs.ClientsLemmas.{mentioned}
use Rattle.tt_local.proofs.RosterLemmas.{still_tracked}
use Rattle.tt_local.proofs.VlansLemmas.{named_left}
use Rattle.tt_local.proofs.locals.Locals.leave.Goals as goal

pub invariant_of-self : goal.invariant_of-self
invariant_of-self c = (
  still_tracked c.self.inside.roster c.leave.new.self c.self.inside.journal.table c.leave.ensures.tracks c.self.invariant.0,
  named_left c.self.inside.vlans.items c.self.inside.roster.clients c.leave.new.self.clients c.args.key (c.leave.ensures.news 0) c.self.invariant.1,
)

pub returns : goal.returns
returns c = record {
  noted = λ mentions history since now stands.
      let was = subst (λ (v : LocalsView). LocalsStand v mentions history since) (sym c.self.view_is) stands in
      let mention : Mention = record { moment = now; key = c.args.key; news = Left } in record {
        clients = mentioned c.self.inside.roster.clients c.leave.new.self.clients mentions since mention (c.leave.ensures.news now) c.tell_order.ensures.clients was.clients;
        journal = was.journal;
      };
}
