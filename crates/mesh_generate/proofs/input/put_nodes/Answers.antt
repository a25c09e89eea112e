use Rattle.mesh_generate.proofs.LineLemmas.{no_nodes, node_more}
use Rattle.mesh_generate.proofs.input.put_nodes.Goals as goal

pub loop-place-init : goal.loop-place-init
loop-place-init c = no_nodes c.args.out.now.items

pub loop-place-preserved : goal.loop-place-preserved
loop-place-preserved c =
    node_more c.args.out.now.items c.loop-place.out.items c.put_node_line.new.out.items c.loop-place.place c.loop-place.invariant c.in_ok-put_node_line.ensures
