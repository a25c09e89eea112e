use Rattle.std.proofs.Common.{sym, subst, refl, List, Some, drop}
use Rattle.mesh_model.specs.declared.happening.Happening.{Happening}
use Rattle.mesh_post.specs.Waiting.{IsEarliest, IsRising, Leaves}
use Rattle.mesh_post.proofs.RisingLemmas.{first_leaves, rest_rises}
use Rattle.mesh_post.proofs.rising.Rising.pop_due.Goals as goal

pub invariant_of-self-inside : goal.invariant_of-self-inside
invariant_of-self-inside c = (subst IsRising (sym c.pop_front.ensures.rest) (rest_rises c.self.inside.waiting.items c.self.inside.rising), tt)

pub returns-clause-some : goal.returns-clause-some
returns-clause-some c =
    let xs = c.self.inside.waiting.items in
    let front : Leaves c.args.first xs (drop 1 xs) = first_leaves c.args.first xs c.self.inside.rising (subst (λ q. IsEarliest q (Some c.args.first)) (sym c.self.view_is) c.requires) in (
      refl,
      record {
        waited = c.requires.0;
        leaves = subst (λ (q : List Happening). Leaves c.args.first q c.pop_front.new.self.items) c.self.view_is (subst (Leaves c.args.first xs) (sym c.pop_front.ensures.rest) front);
        within = c.if-first-t.false;
      },
    )
