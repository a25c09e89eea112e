use Rattle.std.proofs.Common.{◌≡◌, IfSome, rules, slice_get, sym, tests, true}
use Rattle.indexmap.proofs.CallerLemmas.{filter-RetainsPairs}
use Rattle.mesh_frag.specs.Kept.{is_young}
use Rattle.mesh_frag.proofs.MomentLemmas.{first_young}
use Rattle.mesh_frag.proofs.frags.drop_aged.Goals as goal

pub returns-then-is_aged-clause-kept : goal.returns-then-is_aged-clause-kept
returns-then-is_aged-clause-kept c =
    λ first last rise.
    filter-RetainsPairs _ (λ row. is_young c.args.now row.1) _ (λ k v b w h called. search rules) c.args.rows.now.entries c.retain.new.self.entries c.retain.ensures.filtered

pub returns-else-is_aged-clause-kept : goal.returns-else-is_aged-clause-kept
returns-else-is_aged-clause-kept c =
    let fresh : IfSome (slice_get c.args.rows.now.entries 0) (λ row. is_young c.args.now row.1 ≡ true) = search (rules, tests) in
    λ first last rise. sym (first_young c.args.now first last c.args.rows.now.entries fresh rise)
