use Rattle.std.proofs.Common.{◌≡◌, ◌+◌, ◌≤◌, ◌∙◌, suc, Some, length, arith, ap, sym, subst}
use Rattle.mesh_model.specs.Commits.History.{committed, History, present_table}
use Rattle.mesh_model.specs.Tables.Strict.{apply_strictly}
use Rattle.mesh_laws.proofs.TableChanges.{changeset_leads}
use Rattle.tt_local.specs.Clients.{present_entries}
use Rattle.tt_local.specs.Roster.{IsTracked}
use Rattle.tt_local.specs.Vlans.{AreNamed}
use Rattle.tt_local.proofs.CommitLemmas.{settled_stands, settled_tracked}
use Rattle.tt_local.proofs.CommittingLemmas.{changes_are, found, journal_new, journal_same, leads, next_number, no_number, one_more, same_where_none}
use Rattle.tt_local.proofs.JournalLemmas.{journal_committed, table_after}
use Rattle.tt_local.proofs.VlansLemmas.{named_settled}
use Rattle.tt_local.proofs.locals.Locals.commit.Goals as goal

pub invariant_of-self-then-len-eq0 : goal.invariant_of-self-then-len-eq0
invariant_of-self-then-len-eq0 g c =
    let lead = leads c.args.now c.renew.new.self.clients c.self.inside.journal.table _ _ c.table-table.ensures c.tell_order-2.ensures c.tell_order.ensures.clients c.in_ok-changes.ensures in
    let same = same_where_none _ _ _ lead (sym c.len.ensures ∙ c.if-len-eq0.true) in (
      subst (IsTracked c.settle.new.self) (sym same)
          (settled_tracked c.args.now c.renew.new.self c.settle.new.self c.tell_order.ensures.clients c.in_ok-renew.ensures.renewed c.settle.ensures.settled),
      named_settled c.self.inside.vlans.items c.args.now c.renew.new.self.pending c.renew.new.self.clients c.settle.new.self.clients c.settle.ensures.settled
          (subst (AreNamed c.self.inside.vlans.items) (sym c.renew.ensures.clients) c.self.invariant.1),
    )

pub returns-then-len-eq0-clause-committed : goal.returns-then-len-eq0-clause-committed
returns-then-len-eq0-clause-committed g c = λ mentions history since stands late.
    let clients = c.renew.new.self.clients in
    let lead = leads c.args.now clients c.self.inside.journal.table _ _ c.table-table.ensures c.tell_order-2.ensures c.tell_order.ensures.clients c.in_ok-changes.ensures in
    let was = found _ c.args.self.now clients mentions history since c.args.now c.self.view_is c.renew.ensures.clients stands late in
    record {
      clients = settled_stands c.args.now c.renew.new.self.pending clients c.settle.new.self.clients mentions since c.settle.ensures.settled c.settle.ensures.order was.clients late;
      journal = journal_same clients c.self.inside.journal mentions history since c.args.now _ lead was (sym c.len.ensures ∙ c.if-len-eq0.true);
    }

pub returns-then-len-eq0-clause-number : goal.returns-then-len-eq0-clause-number
returns-then-len-eq0-clause-number g c = λ mentions history since stands late.
    let clients = c.renew.new.self.clients in
    let lead = leads c.args.now clients c.self.inside.journal.table _ _ c.table-table.ensures c.tell_order-2.ensures c.tell_order.ensures.clients c.in_ok-changes.ensures in
    let was = found _ c.args.self.now clients mentions history since c.args.now c.self.view_is c.renew.ensures.clients stands late in
    sym (no_number clients c.self.inside.journal mentions history since c.args.now _ lead was (sym c.len.ensures ∙ c.if-len-eq0.true))

pub commit-requires : goal.commit-requires
commit-requires g c =
    let present = present_entries c.args.now c.renew.new.self.clients in
    let lead = leads c.args.now c.renew.new.self.clients c.self.inside.journal.table _ _ c.table-table.ensures c.tell_order-2.ensures c.tell_order.ensures.clients c.in_ok-changes.ensures in
    record { strict = (present, ap (apply_strictly c.self.inside.journal.table) lead.are ∙ changeset_leads c.self.inside.journal.table present lead.ordered lead.others) }

pub returns-in_err-commit-clause-steps : goal.returns-in_err-commit-clause-steps
returns-in_err-commit-clause-steps g c = λ mentions history since stands late.
    let clients = c.renew.new.self.clients in
    let lead = leads c.args.now clients c.self.inside.journal.table _ _ c.table-table.ensures c.tell_order-2.ensures c.tell_order.ensures.clients c.in_ok-changes.ensures in
    let was = found _ c.args.self.now clients mentions history since c.args.now c.self.view_is c.renew.ensures.clients stands late in
    subst (λ n. c.commit.new.steps ≤ c.args.steps.now + n) (ap length (changes_are clients c.self.inside.journal mentions history since c.args.now _ lead was)) c.commit.ensures.steps

pub invariant_of-self-2 : goal.invariant_of-self-2
invariant_of-self-2 g c =
    let clients = c.renew.new.self.clients in
    let lead = leads c.args.now clients c.self.inside.journal.table _ _ c.table-table.ensures c.tell_order-2.ensures c.tell_order.ensures.clients c.in_ok-changes.ensures in (
      subst (IsTracked c.settle-2.new.self)
          (sym (table_after c.in_ok-changes.changes c.self.inside.journal c.commit.new.self (present_entries c.args.now clients) c.in_ok-commit.ensures.committed lead.are lead.ordered lead.others))
          (settled_tracked c.args.now c.renew.new.self c.settle-2.new.self c.tell_order.ensures.clients c.in_ok-renew.ensures.renewed c.settle-2.ensures.settled),
      named_settled c.self.inside.vlans.items c.args.now c.renew.new.self.pending clients c.settle-2.new.self.clients c.settle-2.ensures.settled
          (subst (AreNamed c.self.inside.vlans.items) (sym c.renew.ensures.clients) c.self.invariant.1),
    )

pub returns-clause-committed : goal.returns-clause-committed
returns-clause-committed g c = λ mentions history since stands late.
    let clients = c.renew.new.self.clients in
    let lead = leads c.args.now clients c.self.inside.journal.table _ _ c.table-table.ensures c.tell_order-2.ensures c.tell_order.ensures.clients c.in_ok-changes.ensures in
    let was = found _ c.args.self.now clients mentions history since c.args.now c.self.view_is c.renew.ensures.clients stands late in
    let some : length c.in_ok-changes.changes ≡ 0 → ⊥ = λ zero. (let no = c.if-len-eq0.false in let counted = c.len.ensures in absurd (omega (arith, no, counted, zero))) in
    let new = journal_committed c.in_ok-changes.changes c.self.inside.journal c.commit.new.self history (present_entries c.args.now clients) c.in_ok-commit.ensures.committed c.in_ok-commit.ensures.twin
    c.in_ok-commit.ensures.goes_on was.journal lead.are lead.others in
    record {
      clients = settled_stands c.args.now c.renew.new.self.pending clients c.settle-2.new.self.clients mentions since c.settle-2.ensures.settled c.settle-2.ensures.order was.clients late;
      journal = journal_new clients c.self.inside.journal mentions history since c.args.now _ lead was some c.commit.new.self new;
    }

pub returns-clause-number : goal.returns-clause-number
returns-clause-number g c = λ mentions history since stands late.
    let clients = c.renew.new.self.clients in
    let lead = leads c.args.now clients c.self.inside.journal.table _ _ c.table-table.ensures c.tell_order-2.ensures c.tell_order.ensures.clients c.in_ok-changes.ensures in
    let was = found _ c.args.self.now clients mentions history since c.args.now c.self.view_is c.renew.ensures.clients stands late in
    let some : length c.in_ok-changes.changes ≡ 0 → ⊥ = λ zero. (let no = c.if-len-eq0.false in let counted = c.len.ensures in absurd (omega (arith, no, counted, zero))) in
    let new = returns-clause-committed g c mentions history since stands late in
    let counted : c.last.result + 1 ≡ suc (length history.commits) = c.last.ensures.last mentions (committed (present_table mentions c.args.now) history) c.args.now new
    ∙ ap (λ (h : History). length h.commits) (one_more clients c.self.inside.journal mentions history since c.args.now _ lead was some) in
    let number : c.last.result ≡ length history.commits = omega (arith, counted) in
    ap Some number ∙ sym (next_number clients c.self.inside.journal mentions history since c.args.now _ lead was some)

pub returns-clause-steps : goal.returns-clause-steps
returns-clause-steps g c = λ mentions history since stands late.
    let clients = c.renew.new.self.clients in
    let lead = leads c.args.now clients c.self.inside.journal.table _ _ c.table-table.ensures c.tell_order-2.ensures c.tell_order.ensures.clients c.in_ok-changes.ensures in
    let was = found _ c.args.self.now clients mentions history since c.args.now c.self.view_is c.renew.ensures.clients stands late in
    subst (λ n. c.commit.new.steps ≤ c.args.steps.now + n) (ap length (changes_are clients c.self.inside.journal mentions history since c.args.now _ lead was)) c.commit.ensures.steps
