use Rattle.std.proofs.Common.{subst, sym}
use Rattle.tt_local.specs.Locals.{LocalsView, LocalsStand}
use Rattle.tt_local.proofs.JournalLemmas.{journal_restarted, no_clients, none_tracked}
use Rattle.tt_local.proofs.VlansLemmas.{none_named}
use Rattle.tt_local.proofs.locals.Locals.restart.Goals as goal

pub invariant_of-self-2 : goal.invariant_of-self-2
invariant_of-self-2 c = (
  none_tracked c.new.result c.restart.new.self.table c.new.ensures.clients c.in_ok-restart.ensures.empty,
  none_named c.self.inside.vlans.items c.new.result.clients c.new.ensures.clients,
)

pub returns-clause-restarted : goal.returns-clause-restarted
returns-clause-restarted c = λ mentions history since stands.
    let was = subst (λ (v : LocalsView). LocalsStand v mentions history since) (sym c.self.view_is) stands in
    record {
      clients = no_clients c.new.result.clients c.new.ensures.clients;
      journal = journal_restarted c.self.inside.journal c.restart.new.self history c.in_ok-restart.ensures.committed c.in_ok-restart.ensures.twin c.in_ok-restart.ensures.restarted was.journal;
    }
