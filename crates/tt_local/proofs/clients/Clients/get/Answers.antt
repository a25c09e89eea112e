use Rattle.std.proofs.Common.{◌∙◌}
use Rattle.tt_local.proofs.clients.Clients.get.Goals as goal

pub returns : goal.returns
returns c = c.copied.ensures ∙ rw (← c.self.view_is) c.get.ensures.value
