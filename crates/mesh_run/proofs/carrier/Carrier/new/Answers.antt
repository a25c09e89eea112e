use Rattle.mesh_run.proofs.carrier.Carrier.new.Goals as goal

pub returns-in-Scenario-clause-stands : goal.returns-in-Scenario-clause-stands
returns-in-Scenario-clause-stands c = rw c.in-Scenario.is c.new.ensures

pub returns-in-Routes-clause-stands : goal.returns-in-Routes-clause-stands
returns-in-Routes-clause-stands c = rw c.in-Routes.is c.new-in-Routes.ensures
