use Rattle.std.proofs.Common.{◌≡◌, ◌∙◌, ◌∷◌, ◌++◌, [], ap₂, subst, sym, nat_eq, None}
use Rattle.std.specs.Map.{lookup}
use Rattle.indexmap.specs.IndexMap.{get}
use Rattle.indexmap.proofs.CallerLemmas.{insert_entry-new}
use Rattle.mesh_frag.proofs.parts.Parts.add.Goals as goal

pub returns-clause-ok : goal.returns-clause-ok
returns-clause-ok c =
    let none : get nat_eq c.self.inside.tails c.args.place ≡ None = subst (λ parts. lookup (nat_eq c.args.place) parts ≡ None) (sym c.self.view_is) c.requires in
    c.in_ok-insert.ensures.entries
    ∙ insert_entry-new nat_eq c.self.inside.tails c.args.place c.in_ok-copy.copy none
    ∙ ap₂ (λ parts tail. parts ++ (c.args.place, tail) ∷ []) c.self.view_is c.in_ok-copy.ensures.ok
