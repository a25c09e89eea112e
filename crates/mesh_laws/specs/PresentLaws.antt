-- Laws of present clients, for all mentions: the list has of each key the row that its last mention
-- and its last membership decide, it stands in key order, and older mentions change nothing where
-- newer ones tell of the key.
use Rattle.std.specs.Prelude.{◌≡◌, ℕ, List, ◌++◌, map, find, Option, IsSome}
use Rattle.std.specs.List.Sorted.{IsStrictlySortedBy}
use Rattle.mesh_base.specs.KeyOrder.{key_order}
use Rattle.mesh_base.specs.declared.client.Key.{Key}
use Rattle.mesh_model.specs.declared.table_row.LocalRow.{LocalRow}
use Rattle.mesh_model.specs.Clients.Mentions.{Mention}
use Rattle.mesh_model.specs.Clients.Present.{same_key, last_mention, last_membership, present_row, present_clients}

-- the row of a key in a list
abbrev pub row_in : List LocalRow → Key → Option LocalRow
row_in rows key = find (λ row. same_key key row.entry.key) rows

-- the list has of each key the row that its last mention and its last membership decide
abbrev pub HasTheRowOfEachKey : Type 0
HasTheRowOfEachKey = (now : ℕ) → (mentions : List Mention) → (key : Key) →
    row_in (present_clients mentions now) key ≡ present_row mentions now key

-- a key's last mention stays what it is, whatever was said before
abbrev pub KeepsLastMention : Type 0
KeepsLastMention = (newer older : List Mention) → (key : Key) →
    IsSome (last_mention newer key) →
    last_mention (newer ++ older) key ≡ last_mention newer key

-- a key's last membership stays what it is, whatever was said before
abbrev pub KeepsLastMembership : Type 0
KeepsLastMembership = (newer older : List Mention) → (key : Key) →
    IsSome (last_membership newer key) →
    last_membership (newer ++ older) key ≡ last_membership newer key

-- a key's row stays what it is, whatever was said before, where both are told
abbrev pub KeepsRow : Type 0
KeepsRow = (now : ℕ) → (newer older : List Mention) → (key : Key) →
    IsSome (last_mention newer key) → IsSome (last_membership newer key) →
    present_row (newer ++ older) now key ≡ present_row newer now key

-- the present clients stand in key order, each key once
abbrev pub IsInKeyOrder : Type 0
IsInKeyOrder = (now : ℕ) → (mentions : List Mention) →
    IsStrictlySortedBy key_order (map (λ row. row.entry.key) (present_clients mentions now))
