use Rattle.std.proofs.Common.{refl}
use Rattle.mesh_node.proofs.GivenLemmas.{has_none}
use Rattle.mesh_node.proofs.node.Node.new.Goals as goal

pub returns : goal.returns
returns g c = record {
  keeps = record {
    mac = refl;
    kept = c.new-2.ensures c.requires;
    clients = has_none _ c.args.me c.new.ensures;
    bridge = c.new-3.ensures;
    rising = tt;
    alive = refl;
  };
  cuts = refl;
}
