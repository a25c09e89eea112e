use Rattle.std.proofs.Common.{◌∙◌, ap, sym}
use Rattle.mesh_model.specs.Routes.Numbers.{greatest}
use Rattle.mesh_algo.specs.WordBack.{newest_back}
use Rattle.mesh_algo.proofs.seq_window.SeqWindow.greatest.Goals as goal

pub returns : goal.returns
returns c = sym (newest_back c.self.inside.newest c.self.inside.word c.self.invariant) ∙ ap (λ l. greatest l) c.self.view_is
