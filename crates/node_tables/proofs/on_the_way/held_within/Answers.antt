use Rattle.std.proofs.Common.{sym, ◌∙◌, true, false}
use Rattle.node_tables.proofs.WayLemmas.{held_is}
use Rattle.tt_global.specs.Globals.{asked_version}
use Rattle.node_tables.proofs.on_the_way.held_within.Goals as goal

pub returns-then-not-is_within_limits-clause-held : goal.returns-then-not-is_within_limits-clause-held
returns-then-not-is_within_limits-clause-held g c = λ me known stands.
    held_is (g.A.Algo.queries me) known c.args.now c.args.orig (asked_version (c.in_ok-byte.byte, c.in_ok-byte.table)) false
    (sym (c.live.ensures me known.routes stands.routes) ∙ c.if-not-live.false) (c.in_ok-byte.ensures known.tables stands.tables)
    (sym (c.is_within_limits.ensures c.in_ok-byte.byte) ∙ c.if-not-is_within_limits.true)

pub returns-clause-held : goal.returns-clause-held
returns-clause-held g c = λ me known stands.
    held_is (g.A.Algo.queries me) known c.args.now c.args.orig (asked_version (c.in_ok-byte.byte, c.in_ok-byte.table)) true
    (sym (c.live.ensures me known.routes stands.routes) ∙ c.if-not-live.false) (c.in_ok-byte.ensures known.tables stands.tables)
    (sym (c.is_within_limits.ensures c.in_ok-byte.byte) ∙ c.if-not-is_within_limits.false)

pub returns-clause-within : goal.returns-clause-within
returns-clause-within g c = sym (c.is_within_limits.ensures c.in_ok-byte.byte) ∙ c.if-not-is_within_limits.false
