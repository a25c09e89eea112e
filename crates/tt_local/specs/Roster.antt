-- What a node keeps of its clients between commits: the clients by key, and in key order the keys
-- that are pending, which may differ from the last commit. No public clause cites this file. The
-- main word is `Tracks`.
use Rattle.std.specs.Prelude.{◌≡◌, ℕ, ◌≤◌, ◌-◌, ◌==◌, nat_lt, Bool, true, false, List, length, Option, Some, None, option_and_then, option_map, is_none, not, IsSome, if◌then◌else◌}
use Rattle.std.specs.List.{list_any}
use Rattle.std.specs.List.Sorted.{IsStrictlySortedBy}
use Rattle.mesh_base.specs.KeyOrder.{key_order}
use Rattle.mesh_base.specs.declared.client.Entry.{Entry}
use Rattle.mesh_base.specs.declared.client.Key.{Key}
use Rattle.mesh_model.specs.Clients.Present.{same_key, entry_with, sighting_age}
use Rattle.mesh_model.specs.Tables.Changes.{flags_at}
use Rattle.tt_local.specs.declared.client.Client.{Client}
use Rattle.tt_local.specs.declared.sighting.Sighting.{Sighting}
use Rattle.tt_local.specs.Clients.{client_at, client_row, with_sighting}

-- keys in order, and for how many in all there is room
pub record PendingView : Type 0 where
  pub keys : List Key
  pub room : ℕ

-- clients by key, the keys that are pending, and for how many of these there is room
pub record RosterView : Type 0 where
  pub clients : List (Key × Client)
  pub pending : List Key
  pub room : ℕ

-- clients and pending keys are as before
abbrev pub IsSame : RosterView → RosterView → Type 0
IsSame old new = (new.clients ≡ old.clients) × (new.pending ≡ old.pending)

-- whether a key is among keys
abbrev pub has_key : List Key → Key → Bool
has_key keys key = list_any (same_key key) keys

-- keys ascend
abbrev pub AreSorted : List Key → Type 0
AreSorted keys = IsStrictlySortedBy key_order keys

-- the pending keys are clients', and there is room for those of all clients
pub record Fits (clients : List (Key × Client)) (pending : PendingView) : Type 0 where
  pub among : (key : Key) → has_key pending.keys key ≡ true → IsSome (client_at clients key)
  pub room : length clients ≤ pending.room

-- a key that isn't pending afterwards wasn't before, and its client is as before
abbrev pub Tracks : RosterView → RosterView → Type 0
Tracks old new = (key : Key) → has_key new.pending key ≡ false →
    (has_key old.pending key ≡ false) × (client_at new.clients key ≡ client_at old.clients key)

-- the flags of a client whatever the age of its sighting
abbrev pub kept_flags : Client → Option ℕ
kept_flags client =
    if client.joined then Some 0 else option_map (λ sighting. sighting.flags) client.sighting

-- the flags of a key that is present at a moment
abbrev pub present_flags : ℕ → List (Key × Client) → Key → Option ℕ
present_flags now clients key = option_map (λ row. row.entry.flags)
    (option_and_then (client_row now key) (client_at clients key))

-- a table has each key that isn't pending with the flags that its client has
abbrev pub IsTracked : RosterView → List Entry → Type 0
IsTracked roster table = (key : Key) → has_key roster.pending key ≡ false →
    flags_at table key ≡ option_and_then kept_flags (client_at roster.clients key)

-- each key that isn't pending is present at a moment with the flags that its client has
abbrev pub IsRenewed : ℕ → RosterView → Type 0
IsRenewed now roster = (key : Key) → has_key roster.pending key ≡ false →
    present_flags now roster.clients key
    ≡ option_and_then kept_flags (client_at roster.clients key)

-- whether flags are those of a key
abbrev pub are_flags : ℕ → Option ℕ → Bool
are_flags flags None = false
are_flags flags (Some other) = flags == other

-- the entry of a key that has flags, where others differ
abbrev pub differing_entry : Key → Option ℕ → Option ℕ → Option Entry
differing_entry key None others = None
differing_entry key (Some flags) others =
    if are_flags flags others then None else Some (entry_with key flags)

-- the entry that a table has of a key and that isn't present at a moment
abbrev pub gone_entry : ℕ → List (Key × Client) → List Entry → Key → Option Entry
gone_entry now clients table key =
    differing_entry key (flags_at table key) (present_flags now clients key)

-- the entry of a key that is present at a moment and that a table doesn't have
abbrev pub new_entry : ℕ → List (Key × Client) → List Entry → Key → Option Entry
new_entry now clients table key =
    differing_entry key (present_flags now clients key) (flags_at table key)

-- whether there is a sighting that counts no longer at a moment
abbrev pub is_aged_sighting : ℕ → Option Sighting → Bool
is_aged_sighting now None = false
is_aged_sighting now (Some sighting) = not (nat_lt (now - sighting.moment) sighting_age)

-- whether the sighting of a client counts no longer at a moment
abbrev pub is_aged : ℕ → Client → Bool
is_aged now client = is_aged_sighting now client.sighting

-- a client without a sighting that counts no longer at a moment
abbrev pub counting : ℕ → Client → Client
counting now client = if is_aged now client then with_sighting None client else client

-- what is kept of a key's client that was pending at a commit: none where it isn't present
abbrev pub settled_client : ℕ → Key → Option Client → Option Client
settled_client now key client =
    if is_none (option_and_then (client_row now key) client) then None
    else option_map (counting now) client

-- of the clients of these keys there is what is kept at a moment, and the others are as before
abbrev pub IsSettled : ℕ → List Key → List (Key × Client) → List (Key × Client) → Type 0
IsSettled now keys old new = (key : Key) → client_at new key
    ≡ (if has_key keys key then settled_client now key (client_at old key)
    else client_at old key)
