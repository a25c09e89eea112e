-- The moments of the clients' last sightings, in their order. No public clause cites this file. The
-- main word is `AreMoments`.
use Rattle.std.specs.Prelude.{◌≡◌, ℕ, ◌-◌, ◌==◌, nat_lt, Bool, false, not, List, Option, Some, None, option_and_then, option_map, if◌then◌else◌}
use Rattle.std.specs.List.{list_any}
use Rattle.std.specs.Ordering.{is_eq, nat_cmp, ordering_then}
use Rattle.std.specs.declared.cmp.Ordering.{Ordering}
use Rattle.mesh_base.specs.KeyOrder.{key_order}
use Rattle.mesh_base.specs.declared.client.Key.{Key}
use Rattle.mesh_model.specs.Clients.Present.{same_key, sighting_age}
use Rattle.tt_local.specs.declared.client.Client.{Client}
use Rattle.tt_local.specs.declared.moments.Seen.{Seen}
use Rattle.tt_local.specs.Clients.{AreInOrder, client_at}

-- how two sightings stand to one another: by their moments, and at one moment by their keys
abbrev pub seen_order : Seen → Seen → Ordering
seen_order a b = ordering_then (nat_cmp a.moment b.moment) (key_order a.key b.key)

-- whether a key has a moment among these
abbrev pub has_moment : List Seen → ℕ → Key → Bool
has_moment seen moment key =
    list_any (λ other. is_eq (seen_order (record { moment = moment; key = key }) other)) seen

-- whether this is the moment, where there is one
abbrev pub is_moment : ℕ → Option ℕ → Bool
is_moment at None = false
is_moment at (Some moment) = moment == at

-- whether a sighting at a moment counts no longer
abbrev pub is_aged_moment : ℕ → ℕ → Bool
is_aged_moment now moment = not (nat_lt (now - moment) sighting_age)

-- a key has this moment, or none, and the others have theirs as before
abbrev pub HasMoved : Key → Option ℕ → List Seen → List Seen → Type 0
HasMoved key moment old new = (at : ℕ) (other : Key) → has_moment new at other
    ≡ (if same_key key other then is_moment at moment else has_moment old at other)

-- the moment of the last sighting of a client
abbrev pub moment_of : Client → Option ℕ
moment_of client = option_map (λ sighting. sighting.moment) client.sighting

-- the moment of the last sighting of a key
abbrev pub moment_at : List (Key × Client) → Key → Option ℕ
moment_at clients key = option_and_then moment_of (client_at clients key)

-- the keys of clients ascend, and the moments of their sightings are these
pub record AreMoments (clients : List (Key × Client)) (seen : List Seen) : Type 0 where
  pub ordered : AreInOrder clients
  pub moments : (at : ℕ) (key : Key) →
      has_moment seen at key ≡ is_moment at (moment_at clients key)
