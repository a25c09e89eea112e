use Rattle.std.proofs.lemmas.Result.{err_from_is_err_and}
use Rattle.mesh_scene.proofs.NetLemmas.{net_settled}
use Rattle.mesh_scene.proofs.PlaceLemmas.{named_so}
use Rattle.mesh_scene.proofs.TableLemmas.{node_at}
use Rattle.mesh_scene.proofs.scene.Scene.node_of.Goals as goal

pub returns-clause-found : goal.returns-clause-found
returns-clause-found g c = λ state stands.
    let is = c.in_ok-place.ensures.found state stands in
    let there = node_at state c.args.name.now c.in_ok-place.place is.at in
    record {
      place = c.in_ok-place.place;
      row = there.0;
      allowed = is.allowed;
      at = is.at;
      found = there.1;
      kept = record {
        standing = c.node.ensures state.choice state.clock state.mesh there.0 stands.net_is there.1;
        named = named_so state c.args.name.now c.in_ok-place.place there.0 is.at there.1;
        past = net_settled g.A.Algo.queries g.A.Algo.stands c.args.self.now.net state.choice state.clock state.mesh c.in_ok-place.place there.0 stands.net_is there.1;
      };
    }

pub returns-in_err-place-clause-unknown : goal.returns-in_err-place-clause-unknown
returns-in_err-place-clause-unknown g c = λ state stands.
    let p = err_from_is_err_and c.from_residual.result c.from_residual.ensures.1 in
    rw (p.1, p.2) (c.in_err-place.ensures.refused state stands)
