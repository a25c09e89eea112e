use Rattle.std.proofs.Common.{refl, ◌∷◌, []}
use Rattle.std.specs.List.{filter}
use Rattle.mesh_model.specs.Text.Events.{is_shown}
use Rattle.mesh_post.proofs.ActLemmas.{has_printed}
use Rattle.mesh_post.proofs.port.NetPortPort.put.Goals as goal

pub returns-in-Ok-clause-taken : goal.returns-in-Ok-clause-taken
returns-in-Ok-clause-taken c = rw c.in-Print.is (record {
  post = refl;
  log = refl;
  sender = refl;
  choice = refl;
  grew = record { more = filter (is_shown c.args.self.now.post.now.choice) (c.in-Print.event ∷ []); is = c.in-Ok.ensures.ok };
  took = λ queries older last ticks mesh step may. has_printed queries c.args.self.now.post.now older last ticks c.args.self.now.sender mesh c.in-Print.event c.args.self.now.log.now c.print.new.log step c.in-Ok.ensures.ok;
})
