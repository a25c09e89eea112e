use Rattle.std.proofs.Common.{◌∙◌, ap, ap₂, sym, subst, None, rules}
use Rattle.std.specs.List.Sorted.{IsStrictlySortedBy}
use Rattle.std.specs.Map.{keys_of}
use Rattle.mesh_model.specs.Routes.AlgorithmV.{v_score}
use Rattle.mesh_algo.specs.Pairs.{pair_order}
use Rattle.mesh_algo.specs.Walk.{walk}
use Rattle.mesh_v.specs.Rows.{path_score, up_in}
use Rattle.mesh_v.proofs.StandLemmas.{best_none, best_some}
use Rattle.mesh_v.proofs.v.V.best.Goals as goal

pub returns-in_err-life : goal.returns-in_err-life
returns-in_err-life c =
    λ me log stands. c.from_residual.ensures ∙ best_none (v_score log c.args.now) _ (sym (c.life.ensures me log stands) ∙ search rules)

pub returns : goal.returns
returns c =
    λ me log stands.
    let rows = ap (λ t. t.paths) c.self.view_is in
    c.best_of.ensures (subst (λ r. IsStrictlySortedBy pair_order (keys_of r)) (sym rows) stands.paths_stand.rise)
    ∙ ap₂ (λ o r. walk (path_score (up_in c.args.now o) c.in_ok-life.life.newest) c.args.orig None r) (ap (λ t. t.origs) c.self.view_is) rows
    ∙ best_some me c.args.self.now log c.args.now c.args.orig c.in_ok-life.life stands (sym (c.life.ensures me log stands) ∙ search rules)
