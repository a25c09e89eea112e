use Rattle.std.proofs.Common.{◌/◌, length, sym, ◌∙◌}
use Rattle.std.proofs.lemmas.List.{length-map}
use Rattle.mesh_tvlv.proofs.PiecesLemmas.{length_pieces}
use Rattle.mesh_tvlv.proofs.translation.TtView.changes.Goals as goal

pub returns : goal.returns
returns c = rw (← c.self.view_is) (sym (length-map _ _ ∙ length_pieces (length c.self.inside.changes.now / 12) 12 c.self.inside.changes.now))
