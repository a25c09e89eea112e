-- The limit that a new client passes, and what a refusal says of it. The main word is `HasLimit`.
use Rattle.std.specs.Prelude.{◌≡◌, ℕ, List, Option, Some, None, is_none, if◌then◌else◌, ⊤}
use Rattle.mesh_base.specs.declared.client.Key.{Key}
use Rattle.mesh_model.specs.declared.ending.LimitName.{LimitName}
use Rattle.mesh_model.specs.declared.ending.LimitName.TheVariants as limit
use Rattle.mesh_model.specs.Clients.Limits.{limit_beside}
use Rattle.mesh_model.specs.Clients.Mentions.{Mention}
use Rattle.mesh_model.specs.Clients.Present.{present_clients, present_row}
use Rattle.tt_local.specs.declared.failure.LocalErr.{LocalErr}
use Rattle.tt_local.specs.declared.failure.LocalErr.TheVariants.{Clients, Vlans, Memory}

-- the limit that a key passes where it becomes present at a moment after these mentions
abbrev pub limit_at : List Mention → ℕ → Key → Option LimitName
limit_at mentions now key =
    if is_none (present_row mentions now key)
    then limit_beside (present_clients mentions now) key.vid else None

-- the limit that was passed is the one that the refusal names; want of memory is free
abbrev pub HasLimit : Option LimitName → LocalErr → Type 0
HasLimit passed Clients = passed ≡ Some limit.Clients
HasLimit passed Vlans = passed ≡ Some limit.Vlans
HasLimit passed Memory = ⊤
