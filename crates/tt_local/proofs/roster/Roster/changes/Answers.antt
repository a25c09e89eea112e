use Rattle.std.proofs.Common.{◌≡◌, ◌∙◌, ◌++◌, [], map, filter_map, sym, ap, ap₂, subst, arith}
use Rattle.std.proofs.lemmas.List.{nil_from_length}
use Rattle.mesh_model.specs.Tables.Changes.{addition, changeset, deletion}
use Rattle.tt_local.specs.Clients.{present_entries}
use Rattle.tt_local.specs.Roster.{RosterView, gone_entry, new_entry}
use Rattle.tt_local.proofs.ChangesLemmas.{changes_are}
use Rattle.tt_local.proofs.roster.Roster.changes.Goals as goal

pub returns-then-len-eq0 : goal.returns-then-len-eq0
returns-then-len-eq0 c =
    let roster = c.args.self.now in
    let table = c.args.table.now.entries in
    let none : roster.pending ≡ [] = sym (ap (λ (r : RosterView). r.pending) c.self.view_is) ∙ nil_from_length c.self.inside.pending.keys (omega (arith, c.len.ensures, c.if-len-eq0.true)) in
    c.new.ensures
    ∙ subst (λ keys. map deletion (filter_map (gone_entry c.args.now roster.clients table) keys) ++ map addition (filter_map (new_entry c.args.now roster.clients table) keys) ≡ changeset table (present_entries c.args.now roster.clients)) none
    (changes_are c.args.now roster table c.requires.renewed c.requires.tracked c.tell_order-2.ensures c.tell_order.ensures.clients c.tell_order.ensures.pending)

pub returns : goal.returns
returns c =
    c.in_ok-push_all-2.ensures
    ∙ ap₂ (λ a b. a ++ b)
    (c.in_ok-push_all.ensures ∙ ap₂ (λ a b. a ++ b) c.new-changes.ensures (ap (map deletion) (c.as_slice.ensures.value ∙ c.in_ok-gone.ensures)))
    (ap (map addition) (c.as_slice-2.ensures.value ∙ c.in_ok-came.ensures))
    ∙ changes_are c.args.now c.args.self.now c.args.table.now.entries c.requires.renewed c.requires.tracked
    c.tell_order-2.ensures c.tell_order.ensures.clients c.tell_order.ensures.pending
