use Rattle.std.proofs.Common.{◌∙◌}
use Rattle.mesh_base.specs.contracts.client.KeyOrd.TheImpl.Laws.{total-law, matches_eq-law}
use Rattle.tt_local.proofs.OrderedMapLemmas.{any_tied}
use Rattle.tt_local.proofs.pending.Pending.has.Goals as goal

pub returns : goal.returns
returns c =
    c.contains.ensures ∙ rw (← c.self.view_is) (any_tied total-law _ matches_eq-law c.args.key c.self.inside.keys.keys)
