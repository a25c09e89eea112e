use Rattle.std.proofs.Common.{◌≡◌, take}
use Rattle.std.specs.List.{best_of}
use Rattle.mesh_model.specs.Routes.Addresses.{is_smaller}
use Rattle.mesh_loops.proofs.watch.least_of.Given as goal

abbrev pub invariant-loop-node : goal.invariant-loop-node
invariant-loop-node l =
    l.least ≡ best_of is_smaller l.fn.first (take l.node-index l.others)
