use Rattle.std.proofs.Common.{◌≡◌, ◌∙◌, is_some, subst}
use Rattle.mesh_model.specs.Services.Transactions.{part_at}
use Rattle.alfred_core.proofs.PartLemmas.{has_kept}
use Rattle.alfred_core.proofs.parts.Parts.has.Goals as goal

pub returns : goal.returns
returns c =
    subst (λ parts. c.contains_key.result ≡ is_some (part_at parts c.args.number)) c.self.view_is
    (c.contains_key.ensures ∙ has_kept c.self.inside.kept.entries c.args.number)
