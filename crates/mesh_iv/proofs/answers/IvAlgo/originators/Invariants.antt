use Rattle.std.proofs.Common.{◌≡◌, filter_map, take}
use Rattle.mesh_base.specs.declared.address.Mac.{Mac}
use Rattle.mesh_model.specs.Routes.Hearings.{heard}
use Rattle.mesh_model.specs.Routes.Life.{heard_originators}
use Rattle.mesh_model.specs.Routes.RouteLog.{RouteLog}
use Rattle.mesh_iv.specs.Answers.{row_of_orig}
use Rattle.mesh_iv.specs.Tables.{StandsFor}
use Rattle.mesh_iv.proofs.answers.IvAlgo.originators.Given as goal

abbrev pub invariant-loop-place : goal.invariant-loop-place
invariant-loop-place l = (me : Mac) (log : RouteLog) → StandsFor me l.self log → l.rows.items ≡ filter_map (row_of_orig me log l.now) (take l.place (heard_originators (heard me log)))
