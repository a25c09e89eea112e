-- What a commit finds, and how it leaves clients and journal.
use Rattle.std.proofs.Common.{◌≡◌, ◌≤◌, ◌∙◌, ℕ, List, length, Some, None, sym, ap, ap₂, subst}
use Rattle.mesh_base.specs.declared.client.Entry.{Entry}
use Rattle.mesh_base.specs.declared.client.Key.{Key}
use Rattle.mesh_model.specs.declared.table_change.Change.{Change}
use Rattle.mesh_model.specs.Clients.Mentions.{Mention}
use Rattle.mesh_model.specs.Commits.History.{committed, History, present_table, with_commit}
use Rattle.mesh_model.specs.Commits.Versions.{last_commit}
use Rattle.mesh_model.specs.Tables.Changes.{IsInKeyOrder, changeset}
use Rattle.tt_local.specs.Clients.{AreInOrder, ClientsStand, present_entries}
use Rattle.tt_local.specs.Journal.{JournalStands, JournalView, new_number}
use Rattle.tt_local.specs.Locals.{LocalsStand, LocalsView}
use Rattle.tt_local.specs.declared.client.Client.{Client}
use Rattle.tt_local.proofs.ChangesLemmas.{present_ordered}
use Rattle.tt_local.proofs.CommitLemmas.{committed_new, committed_same, number_new, number_same, present_is, same_without}

-- changes lead from the table of the last commit to that of the present clients
pub record Leads (table present : List Entry) (changes : List Change) : Type 0 where
  pub ordered : IsInKeyOrder table
  pub others : IsInKeyOrder present
  pub are : changes ≡ changeset table present

-- those that were found do
pub leads : (now : ℕ) (clients : List (Key × Client)) (table seen : List Entry) (changes : List Change) → seen ≡ table → IsInKeyOrder seen → AreInOrder clients → changes ≡ changeset seen (present_entries now clients)
    → Leads table (present_entries now clients) changes
leads now clients table seen changes same ordered in_order are = record {
  ordered = subst IsInKeyOrder same ordered;
  others = present_ordered now clients in_order;
  are = are ∙ ap (λ t. changeset t (present_entries now clients)) same;
}

-- where there are none the tables are the same
pub same_where_none : (table present : List Entry) (changes : List Change) → Leads table present changes → length changes ≡ 0 → table ≡ present
same_where_none table present changes lead none = same_without table present changes lead.ordered lead.others lead.are none

-- clients and journal stand for mentions and history, and the present clients are those of a moment
pub record Found (kept : List (Key × Client)) (view : JournalView) (mentions : List Mention) (history : History) (since now : ℕ) : Type 0 where
  pub clients : ClientsStand kept mentions since
  pub journal : JournalStands view history
  pub told : present_entries now kept ≡ present_table mentions now

pub found : (inside view : LocalsView) (clients : List (Key × Client)) (mentions : List Mention) (history : History) (since now : ℕ) → inside ≡ view → clients ≡ inside.clients → LocalsStand view mentions history since → since ≤ now
    → Found clients inside.journal mentions history since now
found inside view clients mentions history since now is renewed stands late =
    let was = subst (λ (v : LocalsView). LocalsStand v mentions history since) (sym is) stands in
    let then = subst (λ cs. ClientsStand cs mentions since) (sym renewed) was.clients in
    record { clients = then; journal = was.journal; told = present_is clients mentions since now then late }

module _ (clients : List (Key × Client)) (journal : JournalView) (mentions : List Mention) (history : History) (since now : ℕ) (changes : List Change)
    (lead : Leads journal.table (present_entries now clients) changes) (was : Found clients journal mentions history since now) where
  abbrev last : List Entry
  last = (last_commit history.commits).table

  -- the changes are those from the last commit's table to that of the mentions
  pub changes_are : changes ≡ changeset last (present_table mentions now)
  changes_are = lead.are ∙ ap₂ changeset was.journal.table was.told

  same_then : length changes ≡ 0 → last ≡ present_table mentions now
  same_then none = sym was.journal.table ∙ same_where_none journal.table (present_entries now clients) changes lead none ∙ was.told

  -- ---- where there are none
  pub journal_same : length changes ≡ 0 → JournalStands journal (committed (present_table mentions now) history)
  journal_same none = subst (JournalStands journal) (sym (committed_same history (present_table mentions now) (same_then none))) was.journal

  pub no_number : length changes ≡ 0 → new_number (present_table mentions now) history ≡ None
  no_number none = number_same history (present_table mentions now) (same_then none)

  -- ---- where there are some
  module _ (some : length changes ≡ 0 → ⊥) where
    last_ordered : IsInKeyOrder last
    last_ordered = subst IsInKeyOrder was.journal.table lead.ordered

    are_some : length (changeset last (present_table mentions now)) ≡ 0 → ⊥
    are_some none = some (ap length changes_are ∙ none)

    -- the history has one more commit
    pub one_more : committed (present_table mentions now) history ≡ with_commit (present_table mentions now) history
    one_more = committed_new history (present_table mentions now) last_ordered are_some

    pub next_number : new_number (present_table mentions now) history ≡ Some (length history.commits)
    next_number = number_new history (present_table mentions now) last_ordered are_some

    pub journal_new : (new : JournalView) → JournalStands new (with_commit (present_entries now clients) history) → JournalStands new (committed (present_table mentions now) history)
    journal_new new stands = subst (JournalStands new) (ap (λ t. with_commit t history) was.told ∙ sym one_more) stands
