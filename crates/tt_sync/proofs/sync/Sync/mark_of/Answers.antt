use Rattle.std.proofs.Common.{◌≡◌, ◌∙◌, option_and_then, rules}
use Rattle.std.specs.Map.{lookup}
use Rattle.mesh_model.specs.Marks.RoamingMarks.{target_by}
use Rattle.tt_sync.proofs.SyncLemmas.{same_fields, target_found}
use Rattle.tt_sync.proofs.sync.Sync.mark_of.Goals as goal

pub returns : goal.returns
returns c =
    let found : c.standing_target.result ≡ option_and_then (target_by c.args.now) (lookup (same_fields c.args.key) c.args.self.now.marks) = search rules in
    λ made stands. found ∙ target_found c.args.self.now made stands c.args.now c.args.key

pub returns-in_err-get : goal.returns-in_err-get
returns-in_err-get c =
    let found : c.from_residual.result ≡ option_and_then (target_by c.args.now) (lookup (same_fields c.args.key) c.args.self.now.marks) = search rules in
    λ made stands. found ∙ target_found c.args.self.now made stands c.args.now c.args.key
