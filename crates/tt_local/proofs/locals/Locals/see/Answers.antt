use Rattle.std.proofs.Common.{subst, sym}
use Rattle.std.proofs.lemmas.Result.{err_from_is_err_and}
use Rattle.mesh_model.specs.Clients.Mentions.{Mention, Sighted}
use Rattle.tt_local.specs.Locals.{LocalsView, LocalsStand}
use Rattle.tt_local.proofs.ClientsLemmas.{mentioned}
use Rattle.tt_local.proofs.RosterLemmas.{still_tracked}
use Rattle.tt_local.proofs.VlansLemmas.{named_after}
use Rattle.tt_local.proofs.locals.Locals.see.Goals as goal

pub invariant_of-self-2 : goal.invariant_of-self-2
invariant_of-self-2 c = (
  still_tracked c.self.inside.roster c.sight.new.self c.self.inside.journal.table c.in_ok-sight.ensures.tracks c.self.invariant.0,
  named_after c.self.inside.vlans.items c.name.new.named.items c.self.inside.roster.clients c.sight.new.self.clients c.args.now c.args.key (Sighted c.args.flags) c.in_ok-sight.ensures.news c.name.ensures.kept c.in_ok-name.ensures.named c.self.invariant.1,
)

pub returns-in_err-newly-clause-limit : goal.returns-in_err-newly-clause-limit
returns-in_err-newly-clause-limit c =
    let p = err_from_is_err_and c.from_residual.result c.from_residual.ensures.1 in
    rw (p.1, p.2) c.in_err-newly.ensures.limit

pub returns-clause-noted : goal.returns-clause-noted
returns-clause-noted c = λ mentions history since stands.
    let was = subst (λ (v : LocalsView). LocalsStand v mentions history since) (sym c.self.view_is) stands in
    let mention : Mention = record { moment = c.args.now; key = c.args.key; news = Sighted c.args.flags } in record {
      clients = mentioned c.self.inside.roster.clients c.sight.new.self.clients mentions since mention (c.in_ok-sight.ensures.news) c.tell_order.ensures.clients was.clients;
      journal = was.journal;
    }
