use Rattle.mesh_tvlv.specs.Walk.{seen}
use Rattle.batctl_text.proofs.TextLemmas.{part_printed}
use Rattle.batctl_text.proofs.container.put_part.Goals as goal

pub returns-clause-ok : goal.returns-clause-ok
returns-clause-ok c = part_printed c.args.out.now.items c.part_start.new.out.items c.put_vlans.new.out.items c.put_changes.new.out.items (seen c.args.container.now) _ _ c.in-Ok.table
    c.in-Ok.number c.in-Ok.count c.in-Ok.ensures.reads c.in_ok-part_start.ensures.ok c.in_ok-put_vlans.ensures.ok c.in_ok-put_changes.ensures.ok
