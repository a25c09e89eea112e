use Rattle.tt_local.proofs.JournalLemmas.{first_journal, no_clients}
use Rattle.tt_local.proofs.locals.Locals.new.Goals as goal

pub returns : goal.returns
returns c = record { clients = no_clients c.new.result.clients c.new.ensures.clients; journal = first_journal c.new-2.result c.new-2.ensures }
