use Rattle.std.proofs.Common.{◌≡◌, ◌++◌, drop}
use Rattle.mesh_model.specs.Services.Pictures.{clients_in}
use Rattle.node_facts.proofs.pictures.first_clients.Given as goal

abbrev pub invariant-loop-entry : goal.invariant-loop-entry
invariant-loop-entry l = clients_in l.table ≡ l.clients.items ++ clients_in (drop l.entry-index l.table)
