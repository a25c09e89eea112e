-- How many clients a node may have: 4,096 that are present at once, joined groups included, in 16
-- VLANs. A sighting or a joining of a key that isn't present passes a limit where there would be
-- more; `clients` is looked at before `vlans`. The main word is `passed_limit`.
use Rattle.std.specs.Prelude.{ℕ, ◌==◌, ◌&&◌, nat_lt, nat_le, Bool, true, false, List, [], ◌∷◌, ◌++◌, length, map, Option, Some, None, is_none, if◌then◌else◌}
use Rattle.std.specs.List.{list_any}
use Rattle.std.specs.Option.{option_or}
use Rattle.mesh_base.specs.declared.address.Mac.{Mac}
use Rattle.mesh_base.specs.declared.client.Vid.{Vid}
use Rattle.mesh_model.specs.declared.ending.LimitName.{LimitName}
use Rattle.mesh_model.specs.declared.ending.LimitName.TheVariants.{Clients, Vlans}
use Rattle.mesh_model.specs.declared.table_row.LocalRow.{LocalRow}
use Rattle.mesh_model.specs.Clients.Log.{Given, Log}
use Rattle.mesh_model.specs.Clients.Mentions.{Mention, News, Sighted, Departed, Roamed, Joined, Left, mentions, mentions_by}
use Rattle.mesh_model.specs.Clients.Present.{present_clients, present_row}

-- the most clients that are present at a node
abbrev pub clients_limit : ℕ
clients_limit = 4096

-- the most VLANs with clients that are present at a node
abbrev pub vlans_limit : ℕ
vlans_limit = 16

-- VLANs, each once
abbrev pub distinct_vids : List Vid → List Vid
distinct_vids [] = []
distinct_vids (vid ∷ rest) =
    (if list_any (λ other. other.0 == vid.0) rest then [] else vid ∷ []) ++ distinct_vids rest

-- whether one more client is too many beside these
abbrev pub passes_clients : List LocalRow → Bool
passes_clients rows = nat_le clients_limit (length rows)

-- whether a client in this VLAN makes too many VLANs beside these
abbrev pub passes_vlans : List LocalRow → Vid → Bool
passes_vlans rows vid =
    nat_lt vlans_limit (length (distinct_vids (vid ∷ map (λ row. row.entry.key.vid) rows)))

-- the limit that a new client in this VLAN passes beside these
abbrev pub limit_beside : List LocalRow → Vid → Option LimitName
limit_beside rows vid =
    if passes_clients rows then Some Clients
    else if passes_vlans rows vid then Some Vlans else None

-- whether news make their key present
abbrev pub makes_present : News → Bool
makes_present (Sighted flags) = true
makes_present Departed = false
makes_present Roamed = false
makes_present Joined = true
makes_present Left = false

-- whether a mention right after these makes a key present that wasn't
abbrev pub is_newly_present : List Mention → Mention → Bool
is_newly_present older mention =
    makes_present mention.news && is_none (present_row older mention.moment mention.key)

-- the limit that a mention right after these passes
abbrev pub limit_of_mention : List Mention → Mention → Option LimitName
limit_of_mention older mention =
    if is_newly_present older mention
    then limit_beside (present_clients older mention.moment) mention.key.vid else None

-- the limit that the first mention to pass one passes
abbrev pub limit_of_mentions : List Mention → List Mention → Option LimitName
limit_of_mentions older [] = None
limit_of_mentions older (mention ∷ rest) =
    option_or (limit_of_mention older mention) (limit_of_mentions older rest)

-- the limit that an input at a moment, right after the log of the node of an address, passes
abbrev pub passed_limit : Mac → Log → ℕ → Given → Option LimitName
passed_limit me log now given = limit_of_mentions (mentions me log) (mentions_by me log now given)
