use Rattle.mesh_model.specs.Net.Due.{ticks_by}
use Rattle.mesh_model.specs.Net.Runs.{begin}
use Rattle.mesh_laws.proofs.Schedule.Steps.{at_place, delivered_effect, given_effect, no_ticks}
use Rattle.mesh_laws.proofs.Schedule.Kept.{bytes_after, bytes_kept, frames_stay}
use Rattle.mesh_laws.proofs.sound_laws.frames_keep_their_bytes.Goals as goal

pub returns-clause-stay : goal.returns-clause-stay
returns-clause-stay c = λ setup t mesh. frames_stay setup t (begin mesh)

pub returns-clause-runs : goal.returns-clause-runs
returns-clause-runs c = λ setup t mesh. bytes_kept setup t (begin mesh)

pub returns-clause-deliveries : goal.returns-clause-deliveries
returns-clause-deliveries c = λ setup place now mesh after kept e.
    let effect = delivered_effect setup mesh place now after e in
    bytes_after setup no_ticks now mesh after kept effect.nodes effect.adds

pub returns-clause-inputs : goal.returns-clause-inputs
returns-clause-inputs c = λ setup place now root given mesh after kept gives e.
    let effect = given_effect setup mesh place now root given after gives e in
    bytes_after setup (at_place place (ticks_by given)) now mesh after kept effect.nodes effect.adds
