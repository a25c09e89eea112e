use Rattle.std.proofs.Common.{List, Some, take}
use Rattle.mesh_base.specs.declared.address.Mac.{Mac}
use Rattle.mesh_model.specs.Services.Facts.{FactCall}
use Rattle.alfred_core.specs.Facts.{FactsStand}
use Rattle.alfred_store.specs.StoreStands.{taken_calls}
use Rattle.alfred_store.proofs.store.take_whole.Given as goal

abbrev pub invariant-loop-i : goal.invariant-loop-i
invariant-loop-i l = (me : Mac) (calls : List FactCall) → FactsStand l.initial.facts me calls
    → FactsStand l.facts me (taken_calls l.now l.sender (Some (take l.i l.came)) calls)
