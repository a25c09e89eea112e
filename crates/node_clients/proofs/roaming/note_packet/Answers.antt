use Rattle.std.proofs.Common.{subst, Option}
use Rattle.std.specs.List.{cons_option}
use Rattle.mesh_model.specs.Clients.Mentions.{Mention}
use Rattle.tt_local.specs.Locals.{LocalsStand}
use Rattle.node_clients.proofs.roaming.note_packet.Goals as goal

pub returns-in-Some : goal.returns-in-Some
returns-in-Some c = λ mentions history since now stands.
    subst (λ (o : Option Mention). LocalsStand c.gone.new.self (cons_option o mentions) history since) (c.in-Some.ensures now)
    (c.gone.ensures.roamed mentions history since now stands)
