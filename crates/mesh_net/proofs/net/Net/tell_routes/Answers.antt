use Rattle.std.proofs.Common.{◌∙◌, subst, sym}
use Rattle.mesh_model.specs.Net.Limits.{scenario_setup}
use Rattle.mesh_model.specs.Net.Watching.{lines_told}
use Rattle.mesh_net.specs.NetStands.{SeatsStand}
use Rattle.mesh_net.specs.Watching.{HasWatched, WatchStands}
use Rattle.mesh_net.proofs.WatchLemmas.{unwatched, watched}
use Rattle.mesh_net.proofs.net.Net.tell_routes.Goals as goal

pub returns-in_default-clause-told : goal.returns-in_default-clause-told
returns-in_default-clause-told g c = λ older last ticks mesh step all stands.
    let none = unwatched (scenario_setup g.A.Algo.queries) c.args.h mesh mesh.watch c.args.log.now
    (subst (λ watch. WatchStands watch mesh.watch) c.in_default.is stands) in
    subst (λ watch. HasWatched (lines_told (scenario_setup g.A.Algo.queries) c.args.h mesh) watch mesh.watch c.args.log.now c.args.log.now) (sym c.in_default.is) none

pub returns-clause-told : goal.returns-clause-told
returns-clause-told g c = λ older last ticks mesh step all stands.
    watched (scenario_setup g.A.Algo.queries) c.args.h mesh mesh.watch c.in-Some.told c.tell_all.new.told c.as_slice-2.result.now c.args.log.now c.tell_all.new.log
    (subst (λ watch. WatchStands watch mesh.watch) c.in-Some.is stands)
    (c.as_slice-2.ensures.value ∙ c.in_ok-places.ensures older last ticks mesh step) (λ before told. c.in_ok-tell_all.ensures.told mesh.nodes before (subst (λ seats. SeatsStand g.A.Algo.queries g.A.Algo.stands seats mesh.nodes) (sym c.as_slice.ensures.value) all) told)
