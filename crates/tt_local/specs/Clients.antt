-- How a list of clients by key stands for a node's mentions: from a moment on, each key has the row
-- of its last sighting while that counts, and the row of its last joining. The main word is
-- `ClientsStand`.
use Rattle.std.specs.Prelude.{◌≡◌, ℕ, ◌-◌, ◌≤◌, Bool, true, false, List, filter_map, map, Option, Some, None, option_and_then, option_map, if◌then◌else◌}
use Rattle.std.specs.List.Sorted.{IsStrictlySortedBy}
use Rattle.std.specs.Map.{keys_of, lookup}
use Rattle.std.specs.Option.{option_or}
use Rattle.mesh_base.specs.KeyOrder.{key_order}
use Rattle.mesh_base.specs.declared.client.Entry.{Entry}
use Rattle.mesh_base.specs.declared.client.Key.{Key}
use Rattle.mesh_model.specs.declared.table_row.LocalRow.{LocalRow}
use Rattle.mesh_model.specs.Clients.Mentions.{Mention, News, Sighted, Departed, Roamed, Joined, Left}
use Rattle.mesh_model.specs.Clients.Present.{same_key, last_mention, last_membership, row_after, row_by}
use Rattle.tt_local.specs.declared.client.Client.{Client}
use Rattle.tt_local.specs.declared.sighting.Sighting.{Sighting}

-- the row of a key with this last sighting, while it counts
abbrev pub sighting_row : ℕ → Key → Sighting → Option LocalRow
sighting_row now key sighting = row_after key (now - sighting.moment) (Sighted sighting.flags)

-- the row of a client by its sighting
abbrev pub sighted_row : ℕ → Key → Client → Option LocalRow
sighted_row now key client = option_and_then (sighting_row now key) client.sighting

-- the row of a client as a joined group
abbrev pub group_row : Key → Client → Option LocalRow
group_row key client = if client.joined then row_after key 0 Joined else None

-- the row of a client, where it is present
abbrev pub client_row : ℕ → Key → Client → Option LocalRow
client_row now key client = option_or (group_row key client) (sighted_row now key client)

-- the client of a key
abbrev pub client_at : List (Key × Client) → Key → Option Client
client_at clients key = lookup (same_key key) clients

-- the keys ascend
abbrev pub AreInOrder : List (Key × Client) → Type 0
AreInOrder clients = IsStrictlySortedBy key_order (keys_of clients)

-- these clients by key are those of a node with these mentions, from a moment on
pub record ClientsStand (clients : List (Key × Client)) (mentions : List Mention) (since : ℕ)
    : Type 0 where
  -- each key has its last sighting, while that counts
  pub sighted : (key : Key) (now : ℕ) → since ≤ now →
      option_and_then (sighted_row now key) (client_at clients key)
      ≡ option_and_then (row_by now) (last_mention mentions key)
  -- each key is joined where its last membership is a joining
  pub joined : (key : Key) (now : ℕ) →
      option_and_then (group_row key) (client_at clients key)
      ≡ option_and_then (row_by now) (last_membership mentions key)
  -- the keys ascend
  pub ordered : AreInOrder clients

-- the key of a client became joined or left
abbrev pub with_joined : Bool → Client → Client
with_joined joined client = record { sighting = client.sighting; joined = joined }

-- a client has this sighting, or none
abbrev pub with_sighting : Option Sighting → Client → Client
with_sighting sighting client = record { sighting = sighting; joined = client.joined }

-- a client of which nothing is known, where there is none
abbrev pub known_client : Option Client → Client
known_client None = record { sighting = None; joined = false }
known_client (Some client) = client

-- what is known of a key after news at a moment
abbrev pub client_after : ℕ → News → Option Client → Option Client
client_after now (Sighted flags) before =
    Some (with_sighting (Some (record { flags = flags; moment = now })) (known_client before))
client_after now Departed before = option_map (with_sighting None) before
client_after now Roamed before = option_map (with_sighting None) before
client_after now Joined before = Some (with_joined true (known_client before))
client_after now Left before = option_map (with_joined false) before

-- the client of one key became this, and the others are as before
abbrev pub HasClient : Key → Option Client → List (Key × Client) → List (Key × Client) → Type 0
HasClient key client old new = (other : Key) → client_at new other
    ≡ (if same_key key other then client else client_at old other)

-- the client of one key became what it is after news at a moment
abbrev pub HasNews : ℕ → Key → News → List (Key × Client) → List (Key × Client) → Type 0
HasNews now key news old new = HasClient key (client_after now news (client_at old key)) old new

-- the table of the clients that are present
abbrev pub present_entries : ℕ → List (Key × Client) → List Entry
present_entries now clients =
    map (λ row. row.entry) (filter_map (λ e. client_row now e.0 e.1) clients)
