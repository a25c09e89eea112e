use Rattle.std.proofs.Common.{subst, sym}
use Rattle.mesh_model.specs.Clients.Mentions.{Mention, Departed, Roamed}
use Rattle.tt_local.specs.Locals.{LocalsView, LocalsStand}
use Rattle.tt_local.proofs.ClientsLemmas.{mentioned}
use Rattle.tt_local.proofs.RosterLemmas.{still_tracked}
use Rattle.tt_local.proofs.VlansLemmas.{named_departed}
use Rattle.tt_local.proofs.locals.Locals.gone.Goals as goal

pub invariant_of-self : goal.invariant_of-self
invariant_of-self c = (
  still_tracked c.self.inside.roster c.depart.new.self c.self.inside.journal.table c.depart.ensures.tracks c.self.invariant.0,
  named_departed c.self.inside.vlans.items c.self.inside.roster.clients c.depart.new.self.clients c.args.key (c.depart.ensures.departed 0) c.self.invariant.1,
)

pub returns-clause-departed : goal.returns-clause-departed
returns-clause-departed c = λ mentions history since now stands.
    let was = subst (λ (v : LocalsView). LocalsStand v mentions history since) (sym c.self.view_is) stands in
    let mention : Mention = record { moment = now; key = c.args.key; news = Departed } in record {
      clients = mentioned c.self.inside.roster.clients c.depart.new.self.clients mentions since mention (c.depart.ensures.departed now) c.tell_order.ensures.clients was.clients;
      journal = was.journal;
    }

pub returns-clause-roamed : goal.returns-clause-roamed
returns-clause-roamed c = λ mentions history since now stands.
    let was = subst (λ (v : LocalsView). LocalsStand v mentions history since) (sym c.self.view_is) stands in
    let mention : Mention = record { moment = now; key = c.args.key; news = Roamed } in record {
      clients = mentioned c.self.inside.roster.clients c.depart.new.self.clients mentions since mention (c.depart.ensures.roamed now) c.tell_order.ensures.clients was.clients;
      journal = was.journal;
    }
