-- Laws of what calls leave of marks and of advertisements, for all calls: the list of marks has of
-- each client the client's mark and stands in key order, and a client was advertised too often
-- where a fifth of its advertisements counts.
use Rattle.std.specs.Prelude.{◌≡◌, ◌≤◌, ℕ, ◌-◌, nat_lt, List, [], ◌∷◌, filter, slice_get}
use Rattle.std.specs.List.{AllByRecursion}
use Rattle.std.specs.List.Sorted.{IsStrictlySortedBy}
use Rattle.std.specs.Map.{keys_of, lookup}
use Rattle.mesh_base.specs.KeyOrder.{key_order}
use Rattle.mesh_base.specs.declared.client.Key.{Key}
use Rattle.mesh_model.specs.Clients.Present.{same_key}
use Rattle.mesh_model.specs.Marks.Calls.{Calls}
use Rattle.mesh_model.specs.Marks.RoamingMarks.{mark_by, marks_by}
use Rattle.mesh_model.specs.Marks.Advertisements.{advert_age, fifth_young}

-- the list of marks has of each client the client's mark
abbrev pub HasTheMarkOfEachKey : Type 0
HasTheMarkOfEachKey =
    (made : Calls) (key : Key) → lookup (same_key key) (marks_by made) ≡ mark_by made key

-- the list of marks stands in key order
abbrev pub IsInKeyOrder : Type 0
IsInKeyOrder = (made : Calls) → IsStrictlySortedBy key_order (keys_of (marks_by made))

-- of moments, newest first, none is later than one before it
abbrev pub Falls : List ℕ → Type 0
Falls [] = Unit {0}
Falls (moment ∷ older) = AllByRecursion (λ t. t ≤ moment) older × Falls older

-- the moments of advertisements that count
abbrev pub young_sent : ℕ → List ℕ → List ℕ
young_sent now sent = filter (λ sent_at. nat_lt (now - sent_at) advert_age) sent

-- where moments fall, the fifth last counts exactly where five count, and is the oldest of them
abbrev pub FifthIsTooMany : Type 0
FifthIsTooMany = (now : ℕ) (sent : List ℕ) → Falls sent →
    fifth_young now sent ≡ slice_get (young_sent now sent) 4
