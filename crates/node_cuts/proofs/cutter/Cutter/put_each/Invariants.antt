use Rattle.std.proofs.Common.{◌≡◌, ◌≤◌, ◌+◌, length}
use Rattle.std.specs.Vec.Iter.{into_iter_items, into_iter_len}
use Rattle.mesh_model.specs.Acts.Cuts.{cuts_among}
use Rattle.node_cuts.specs.Collected.{cutter_of}
use Rattle.node_cuts.proofs.CutLemmas.{CutsOnFrom}
use Rattle.node_cuts.proofs.cutter.Cutter.put_each.Given as goal

abbrev pub invariant-loop-act : goal.invariant-loop-act
invariant-loop-act g l =
    (into_iter_len l.act-iterator ≡ length (into_iter_items l.act-iterator))
    × (l.self.cuts ≤ 65535)
    × (l.self.cuts + cuts_among l.self.most (into_iter_items l.act-iterator) ≡ l.fn.self.cuts + cuts_among l.fn.self.most l.fn.acts.items)
    × CutsOnFrom g.P.Port.takes g.P.Port.same g.P.Port.over (cutter_of l.fn.self) l.fn.port l.fn.acts.items (cutter_of l.self) l.port (into_iter_items l.act-iterator)
