use Rattle.std.proofs.Common.{◌/◌, length, sym, ◌∙◌}
use Rattle.std.proofs.lemmas.List.{length-map}
use Rattle.mesh_tvlv.proofs.PiecesLemmas.{length_pieces}
use Rattle.mesh_vis.proofs.view.VisView.clients.Goals as goal

pub returns : goal.returns
returns c = rw (← c.self.view_is) (sym (length-map _ _ ∙ length_pieces (length c.self.inside.clients.now / 8) 8 c.self.inside.clients.now))
