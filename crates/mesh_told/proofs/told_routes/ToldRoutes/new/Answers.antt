use Rattle.std.proofs.Common.{◌≡◌, [], rules, subst, sym}
use Rattle.mesh_told.specs.Told.{TableStands, seen_at, table_of}
use Rattle.mesh_told.proofs.NodeLemmas.{Tables, none_stand}
use Rattle.mesh_told.proofs.told_routes.ToldRoutes.new.Goals as goal

pub returns : goal.returns
returns c =
    let empty : c.new.result.entries ≡ [] = search rules in
    record { each = λ node. subst (λ (es : Tables). TableStands node (table_of es node) (seen_at es node) []) (sym empty) (none_stand node) }
