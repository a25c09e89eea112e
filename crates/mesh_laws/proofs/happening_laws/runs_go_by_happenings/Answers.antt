use Rattle.std.proofs.Common.{refl, ap, ◌∙◌, Ok, Err, is_none}
use Rattle.mesh_model.specs.Net.Runs.{Course, begin, course_after}
use Rattle.mesh_laws.proofs.Schedule.Due.{finds_next}
use Rattle.mesh_laws.proofs.Schedule.Runs.{done_stays, one_turn}
use Rattle.mesh_laws.proofs.Schedule.Kept.{fine_start}
use Rattle.mesh_laws.proofs.happening_laws.runs_go_by_happenings.Goals as goal

pub returns : goal.returns
returns c = λ setup t mesh can.
    let o : Course = begin mesh in
    let finds = finds_next t mesh can.sound in
    let fine = fine_start t mesh can.sound can.begins in (
      λ quiet. done_stays setup t o (ap is_none (finds.1.1 quiet)),
      λ h next. (
        λ after e. one_turn setup t o h (Ok after) can.fits fine can.ends refl ((finds.0 h).1 next) e,
        λ limit e. one_turn setup t o h (Err limit) can.fits fine can.ends refl ((finds.0 h).1 next) e ∙ done_stays setup t (course_after mesh h (Err limit)) refl,
      ),
    )
