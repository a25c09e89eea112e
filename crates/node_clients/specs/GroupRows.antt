-- How a frame for a group goes to some receivers, as it is carried. The main words are
-- `each_addressed` and `after_fan`.
use Rattle.std.specs.Prelude.{ℕ, List, [], ◌∷◌, filter_map, map, Option, Some, None, if◌then◌else◌}
use Rattle.mesh_base.specs.declared.address.Mac.{Mac}
use Rattle.mesh_base.specs.declared.event.Reason.TheVariants.{Mc}
use Rattle.mesh_model.specs.declared.act.Act.{Act}
use Rattle.mesh_model.specs.Acts.GroupRows.{addressed}
use Rattle.mesh_model.specs.Knowledge.Addressee.{Way, way_to}
use Rattle.mesh_model.specs.Knowledge.Known.{Knowledge}
use Rattle.mesh_model.specs.Knowledge.Steps.{after_sent}
use Rattle.mesh_model.specs.Packets.Numbers.{first_ttl}
use Rattle.mesh_model.specs.Routes.Queries.{Queries}
use Rattle.mesh_model.specs.Services.Groups.{fan_of, is_flood}

-- what is carried goes on a way, where there is one
abbrev pub on_its_way : Queries → Knowledge → ℕ → List ℕ → Option Way → List Act
on_its_way q known now payload None = []
on_its_way q known now payload (Some way) = addressed q known now first_ttl way payload ∷ []

-- what is carried goes to a receiver
abbrev pub one_addressed : Queries → Knowledge → ℕ → List ℕ → Mac → List Act
one_addressed q known now payload receiver =
    on_its_way q known now payload (way_to q known now Mc receiver)

-- what is carried goes to each receiver
abbrev pub each_addressed : Queries → Knowledge → ℕ → List ℕ → List Mac → List Act
each_addressed q known now payload receivers =
    map (λ way. addressed q known now first_ttl way payload)
    (filter_map (way_to q known now Mc) receivers)

-- what is known after a frame went to so many receivers
abbrev pub after_fan : ℕ → Knowledge → Knowledge
after_fan receivers known = if is_flood (fan_of receivers) then after_sent known else known
