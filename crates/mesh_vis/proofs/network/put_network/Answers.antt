use Rattle.std.proofs.Common.{◌≡◌, ◌++◌, ◌∙◌, Bor, ap, false, map}
use Rattle.serde_json.specs.View.{view}
use Rattle.serde_json.specs.Written.{compact_text, has_float}
use Rattle.mesh_model.specs.declared.service.KeptFact.{KeptFact}
use Rattle.mesh_model.specs.Text.Pictures.{network_text}
use Rattle.mesh_vis.proofs.Written.{network_plain}
use Rattle.mesh_vis.proofs.network.put_network.Goals as goal

pub returns-clause-ok : goal.returns-clause-ok
unfolding network_text
returns-clause-ok c =
    let is = c.in_ok-network.ensures in
    let plain : has_float (view c.in_ok-network.network) ≡ false = ap has_float is ∙ network_plain (map (λ (row : Bor KeptFact). row.now.fact) c.args.rows.now) in
    c.in_ok-extend_from_slice.ensures.items
    ∙ ap (λ xs. c.args.out.now.items ++ xs) (c.as_slice.ensures.value ∙ c.in_ok-text.ensures.text plain ∙ ap compact_text is)
