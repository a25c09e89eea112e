use Rattle.std.proofs.Common.{◌≡◌, take}
use Rattle.std.specs.Prelude.{filter_map}
use Rattle.mesh_base.specs.declared.address.Mac.{Mac}
use Rattle.mesh_model.specs.Knowledge.Known.{Knowledge}
use Rattle.mesh_model.specs.Tables.Known.{originators_by}
use Rattle.mesh_show.specs.Inner.Parts.{live_row}
use Rattle.tt_global.specs.Globals.{GlobalsStand}
use Rattle.mesh_show.proofs.known.live_rows.Given as goal

abbrev pub invariant-loop-place : goal.invariant-loop-place
invariant-loop-place g l = (me : Mac) (known : Knowledge) → g.A.Algo.stands l.algo me known.routes → GlobalsStand l.globals known.tables
    → l.rows.items ≡ filter_map (live_row (g.A.Algo.queries me) known l.now) (take l.place (originators_by known.tables))
