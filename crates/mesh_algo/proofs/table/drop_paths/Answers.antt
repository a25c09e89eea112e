use Rattle.std.proofs.Common.{◌∙◌, ap, sym, not, rules}
use Rattle.indexmap.proofs.CallerLemmas.{filter-RetainsPairs}
use Rattle.mesh_model.specs.Routes.Addresses.{same_mac}
use Rattle.mesh_algo.specs.Pairs.{rows_kept}
use Rattle.mesh_algo.proofs.table.drop_paths.Goals as goal

pub returns-then-begins-clause-kept : goal.returns-then-begins-clause-kept
returns-then-begins-clause-kept g c =
    filter-RetainsPairs _ (λ e. not (same_mac e.0.orig c.args.orig)) _ (λ k v b w h called. search rules) c.args.paths.now.entries c.retain.new.self.entries c.retain.ensures.filtered
    ∙ ap (λ b. rows_kept b c.args.orig c.args.paths.now.entries) (sym c.if-begins.true)
