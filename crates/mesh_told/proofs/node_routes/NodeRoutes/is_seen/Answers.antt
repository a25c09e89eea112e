use Rattle.std.proofs.Common.{rules}
use Rattle.mesh_told.proofs.TableLemmas.{one_more_seen}
use Rattle.mesh_told.proofs.node_routes.NodeRoutes.is_seen.Goals as goal

pub loop-place-preserved : goal.loop-place-preserved
loop-place-preserved c =
    one_more_seen c.args.self.now.seen.items c.args.rows.now c.loop-place.place c.loop-place.invariant (c.is_seen_at.ensures (search rules))
