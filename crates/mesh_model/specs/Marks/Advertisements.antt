-- The advertisements of roaming clients: a client was advertised too often where its fifth last
-- advertisement is less than 20,000 ms old. Moments never fall from call to call, so it is the
-- oldest of five that are all so young. The main word is `too_many`.
use Rattle.std.specs.Prelude.{ℕ, ◌-◌, nat_lt, List, [], ◌∷◌, slice_get, Option, Some, None, option_and_then, if◌then◌else◌}
use Rattle.mesh_base.specs.declared.client.Key.{Key}
use Rattle.mesh_model.specs.Clients.Present.{same_key}
use Rattle.mesh_model.specs.Marks.Calls.{Call, Calls, Marked, Released, Unmarked, Advised, Asked, Forgotten}

-- how long an advertisement counts, in milliseconds
abbrev pub advert_age : ℕ
advert_age = 20000

-- when a client was advertised after a call, newest first, from before
abbrev pub next_sent : Call → Key → List ℕ → List ℕ
next_sent (Marked now k target told) key before = before
next_sent (Released target byte) key before = before
next_sent (Unmarked k) key before = before
next_sent (Advised now k) key before = if same_key k key then now ∷ before else before
next_sent (Asked now orig) key before = before
next_sent (Forgotten orig) key before = before

-- when a client was advertised, newest first
abbrev pub sent_by : Calls → Key → List ℕ
sent_by [] key = []
sent_by (call ∷ older) key = next_sent call key (sent_by older key)

-- an advertisement's moment, while it counts
abbrev pub if_young : ℕ → ℕ → Option ℕ
if_young now sent_at = if nat_lt (now - sent_at) advert_age then Some sent_at else None

-- the fifth last of moments, newest first, while it counts
abbrev pub fifth_young : ℕ → List ℕ → Option ℕ
fifth_young now sent = option_and_then (if_young now) (slice_get sent 4)

-- when the oldest of five advertisements was sent that let no further one out
abbrev pub too_many : ℕ → Calls → Key → Option ℕ
too_many now calls key = fifth_young now (sent_by calls key)
