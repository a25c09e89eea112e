use Rattle.mesh_model.specs.Net.Due.{ticks_by}
use Rattle.mesh_laws.proofs.Schedule.Steps.{at_place, delivered_effect, given_effect, no_ticks, step_is, ticks_of}
use Rattle.mesh_laws.proofs.Schedule.Added.{added}
use Rattle.mesh_laws.proofs.Schedule.ToCome.{links_add_nothing, links_stay, nodes_add_later, nodes_stay, stays_to_come}
use Rattle.mesh_laws.proofs.sound_laws.what_is_to_come_stays.Goals as goal

pub returns-clause-happenings : goal.returns-clause-happenings
returns-clause-happenings c = λ setup mesh after h x e happens.
    let step = step_is setup mesh h after e in
    stays_to_come setup (ticks_of h.class h.place) h.moment mesh after x step.nodes step.count step.adds happens

pub returns-clause-inputs : goal.returns-clause-inputs
returns-clause-inputs c = λ setup place now root given mesh after x gives e happens.
    let effect = given_effect setup mesh place now root given after gives e in
    stays_to_come setup (at_place place (ticks_by given)) now mesh after x effect.nodes effect.count effect.adds happens

pub returns-clause-later : goal.returns-clause-later
returns-clause-later c = λ setup place now root given mesh after x sound gives e happens.
    let effect = given_effect setup mesh place now root given after gives e in
    added setup (at_place place (ticks_by given)) now mesh after x sound effect.nodes effect.adds happens

pub returns-clause-nodes : goal.returns-clause-nodes
returns-clause-nodes c = λ mesh node x. (nodes_stay mesh node x, nodes_add_later mesh node x)

pub returns-clause-links : goal.returns-clause-links
returns-clause-links c = λ mesh link x sound. (links_stay mesh link x sound, links_add_nothing mesh link x sound)

pub returns-clause-deliveries : goal.returns-clause-deliveries
returns-clause-deliveries c = λ setup place now mesh after x sound e.
    let effect = delivered_effect setup mesh place now after e in
    (stays_to_come setup no_ticks now mesh after x effect.nodes effect.count effect.adds, added setup no_ticks now mesh after x sound effect.nodes effect.adds)
