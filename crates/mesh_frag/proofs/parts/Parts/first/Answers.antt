use Rattle.std.proofs.Common.{◌≡◌, None, nat_eq, rules, subst, sym}
use Rattle.std.specs.Map.{lookup}
use Rattle.mesh_model.specs.Fragments.Assembly.{bytes_below}
use Rattle.mesh_frag.proofs.PartLemmas.{lacking}
use Rattle.mesh_frag.proofs.parts.Parts.first.Goals as goal

pub returns-in-None : goal.returns-in-None
returns-in-None c =
    let none : lookup (nat_eq c.loop-place.place-counter) c.self.inside.tails.entries ≡ None = search rules in
    subst (λ parts. None ≡ bytes_below parts c.args.count) c.self.view_is
    (sym (lacking c.self.inside.tails.entries c.loop-place.place-counter c.args.count none c.loop-place-test.true))
