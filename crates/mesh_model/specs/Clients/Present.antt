-- The clients that are present at a node at a moment. A key is present where its last mention is a
-- sighting less than 600,000 ms old, with the flags of that sighting; a joined group is present,
-- with flags 0 and without an age, from its joining to its leaving, whatever else is said of it.
-- The main word is `present_clients`.
use Rattle.std.specs.Prelude.{ℕ, ◌-◌, ◌&&◌, nat_lt, Bool, true, false, not, List, [], ◌∷◌, find, filter_map, Option, Some, None, option_and_then, if◌then◌else◌}
use Rattle.std.specs.Option.{option_or}
use Rattle.std.specs.Ordering.{is_eq, match_ordering}
use Rattle.mesh_base.specs.KeyOrder.{key_order}
use Rattle.mesh_base.specs.declared.client.Entry.{Entry}
use Rattle.mesh_base.specs.declared.client.Key.{Key}
use Rattle.mesh_model.specs.declared.table_row.LocalRow.{LocalRow}
use Rattle.mesh_model.specs.Clients.Mentions.{Mention, News, Sighted, Departed, Roamed, Joined, Left}

-- how long a sighting counts, in milliseconds
abbrev pub sighting_age : ℕ
sighting_age = 600000

-- whether two keys are one
abbrev pub same_key : Key → Key → Bool
same_key a b = is_eq (key_order a b)

-- whether news are of a group's joining or leaving
abbrev pub is_membership : News → Bool
is_membership (Sighted flags) = false
is_membership Departed = false
is_membership Roamed = false
is_membership Joined = true
is_membership Left = true

-- the last mention of a key, joining and leaving apart
abbrev pub last_mention : List Mention → Key → Option Mention
last_mention mentions key = find (λ m. same_key key m.key && not (is_membership m.news)) mentions

-- the last joining or leaving of a key
abbrev pub last_membership : List Mention → Key → Option Mention
last_membership mentions key = find (λ m. same_key key m.key && is_membership m.news) mentions

-- the entry of a key with its flags
abbrev pub entry_with : Key → ℕ → Entry
entry_with key flags = record { key = key; flags = flags }

-- the row of a key of which this was said so many milliseconds ago: a sighting that still counts,
-- or a joining
abbrev pub row_after : Key → ℕ → News → Option LocalRow
row_after key age (Sighted flags) =
    if nat_lt age sighting_age then Some (record { entry = entry_with key flags; age = Some age })
    else None
row_after key age Departed = None
row_after key age Roamed = None
row_after key age Joined = Some (record { entry = entry_with key 0; age = None })
row_after key age Left = None

-- the row that a last mention gives at a moment
abbrev pub row_by : ℕ → Mention → Option LocalRow
row_by now mention = row_after mention.key (now - mention.moment) mention.news

-- a key's row at a moment, where it is present: as a joined group, or else as a client
abbrev pub present_row : List Mention → ℕ → Key → Option LocalRow
present_row mentions now key = option_or
    (option_and_then (row_by now) (last_membership mentions key))
    (option_and_then (row_by now) (last_mention mentions key))

-- the keys of a list with one more, in key order and each once
abbrev pub insert_key : Key → List Key → List Key
insert_key key [] = key ∷ []
insert_key key (first ∷ rest) =
    match_ordering (key_order key first) (key ∷ first ∷ rest) (first ∷ rest)
    (first ∷ insert_key key rest)

-- the keys that are mentioned, in key order and each once
abbrev pub mentioned_keys : List Mention → List Key
mentioned_keys [] = []
mentioned_keys (m ∷ older) = insert_key m.key (mentioned_keys older)

-- the present clients at a moment, in key order
abbrev pub present_clients : List Mention → ℕ → List LocalRow
present_clients mentions now = filter_map (present_row mentions now) (mentioned_keys mentions)
