use Rattle.std.proofs.Common.{arith, ◌∙◌, sym, ap}
use Rattle.std.proofs.lemmas.Result.{IfOk-at_ok}
use Rattle.mesh_base.specs.contracts.client.KeyOrd.TheImpl.Laws.{total-law, matches_eq-law}
use Rattle.tt_local.specs.Roster.{PendingView, has_key}
use Rattle.tt_local.proofs.OrderedMapLemmas.{added_tied, any_tied, strict_from, sorted_from_strict}
use Rattle.tt_local.proofs.RosterLemmas.{known_added, one_longer}
use Rattle.tt_local.proofs.pending.Pending.add.Goals as goal

pub invariant_of-self : goal.invariant_of-self
invariant_of-self c =
    strict_from total-law _ matches_eq-law _
    (IfOk-at_ok _ c.unwrap.ensures c.insert_sorted.ensures.sorted (sorted_from_strict total-law _ matches_eq-law _ c.self.invariant))
    c.insert_sorted.ensures.unique

pub returns-then-not-has-clause-added : goal.returns-then-not-has-clause-added
returns-then-not-has-clause-added c =
    rw (← c.self.view_is) (added_tied total-law _ matches_eq-law c.args.key c.self.inside.keys.keys c.insert_sorted.new.self.keys (IfOk-at_ok _ c.unwrap.ensures c.insert_sorted.ensures.updates).0)

pub returns-then-not-has-clause-room : goal.returns-then-not-has-clause-room
returns-then-not-has-clause-room c =
    let len = IfOk-at_ok _ c.unwrap.ensures c.insert_sorted.ensures.len in
    let was = IfOk-at_ok _ c.unwrap.ensures c.insert_sorted.ensures.added in
    let spared = c.insert_sorted.ensures.spare in
    let absent = any_tied total-law _ matches_eq-law c.args.key c.self.inside.keys.keys ∙ ap (λ (v : PendingView). has_key v.keys c.args.key) c.self.view_is ∙ sym c.has.ensures ∙ c.if-not-has.true in
    let longer = one_longer _ c.unwrap.result.1 was absent len in
    rw (← c.self.view_is) (omega (arith, longer, spared))

pub returns-else-not-has-clause-added : goal.returns-else-not-has-clause-added
returns-else-not-has-clause-added c = known_added c.args.self.now.keys c.args.key (sym c.has.ensures ∙ c.if-not-has.false)
