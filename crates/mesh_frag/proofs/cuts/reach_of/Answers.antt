use Rattle.std.proofs.Common.{◌∙◌, ap, option_map, sym}
use Rattle.mesh_model.specs.Fragments.Cutting.{Reach}
use Rattle.mesh_frag.proofs.CutLemmas.{decoded, undecoded}
use Rattle.mesh_frag.proofs.cuts.reach_of.Goals as goal

pub returns-in-Ok : goal.returns-in-Ok
returns-in-Ok c = c.reach_of_head.ensures ∙ ap (option_map (λ (reach : Reach). (reach.ttl, reach.dst))) (decoded c.args.bytes.now c.in-Ok.head c.in-Ok.field-0-1.now c.in-Ok.field-0-2 c.in-Ok.ensures.ok)

pub returns-in-Err : goal.returns-in-Err
returns-in-Err c = sym (ap (option_map (λ (reach : Reach). (reach.ttl, reach.dst))) (undecoded c.args.bytes.now c.in-Err.field-0 c.in-Err.ensures.cause))
