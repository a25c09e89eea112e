use Rattle.mesh_generate.proofs.LineLemmas.{links_more, no_links}
use Rattle.mesh_generate.proofs.input.put_ring.Goals as goal

pub loop-place-init : goal.loop-place-init
loop-place-init c = no_links c.args.out.now.items c.args.nodes

pub loop-place-preserved : goal.loop-place-preserved
loop-place-preserved c =
    links_more c.args.out.now.items c.loop-place.out.items c.put_link_line.new.out.items c.put_link_line-in-loop-place.new.out.items c.args.nodes c.loop-place.place
    c.loop-place.invariant c.in_ok-put_link_line.ensures c.in_ok-put_link_line-2.ensures
