-- The roaming mark of a client: the node at which the client is since it roamed. A mark stands
-- until the client is marked anew or unmarked, until its target is released under another byte than
-- the target had told when the mark was made (any byte, where it had told none), and for less than
-- 600,000 ms. The main words are `mark_of` and `marks_at`.
use Rattle.std.specs.Prelude.{ℕ, ◌-◌, ◌&&◌, ◌==◌, nat_lt, Bool, true, not, List, [], ◌∷◌, filter, filter_map, Option, Some, None, option_map, option_and_then, if◌then◌else◌}
use Rattle.std.specs.BTreeMap.{insert_entry}
use Rattle.std.specs.Map.{remove_entry}
use Rattle.mesh_base.specs.KeyOrder.{key_order}
use Rattle.mesh_base.specs.declared.address.Mac.{Mac}
use Rattle.mesh_base.specs.declared.client.Key.{Key}
use Rattle.mesh_model.specs.declared.roaming_mark.RoamingMark.{RoamingMark}
use Rattle.mesh_model.specs.Clients.Present.{same_key}
use Rattle.mesh_model.specs.Marks.Calls.{Call, Calls, Marked, Released, Unmarked, Advised, Asked, Forgotten}
use Rattle.mesh_model.specs.Routes.Addresses.{same_mac}

-- how long a mark stands, in milliseconds
abbrev pub mark_age : ℕ
mark_age = 600000

-- a mark of a client that went to a target at a moment
abbrev pub mark_to : ℕ → Mac → Option ℕ → RoamingMark
mark_to now target told = record { moment = now; target = target; told = told }

-- whether a byte is another than the one that was told; where none was told, any is
abbrev pub is_other : Option ℕ → ℕ → Bool
is_other None byte = true
is_other (Some told) byte = not (told == byte)

-- whether a mark ends where this target is released under this byte
abbrev pub is_ended : Mac → ℕ → RoamingMark → Bool
is_ended target byte mark = same_mac mark.target target && is_other mark.told byte

-- a mark after the release of a target under a byte, where it still stands
abbrev pub released : Mac → ℕ → RoamingMark → Option RoamingMark
released target byte mark = if is_ended target byte mark then None else Some mark

-- a client's mark after a call, from its mark before, ages apart
abbrev pub next_mark : Call → Key → Option RoamingMark → Option RoamingMark
next_mark (Marked now k target told) key before =
    if same_key k key then Some (mark_to now target told) else before
next_mark (Released target byte) key before = option_and_then (released target byte) before
next_mark (Unmarked k) key before = if same_key k key then None else before
next_mark (Advised now k) key before = before
next_mark (Asked now orig) key before = before
next_mark (Forgotten orig) key before = before

-- a client's mark after calls, its age apart
abbrev pub mark_by : Calls → Key → Option RoamingMark
mark_by [] key = None
mark_by (call ∷ older) key = next_mark call key (mark_by older key)

-- all marks after a call, in key order, from those before, ages apart
abbrev pub next_marks : Call → List (Key × RoamingMark) → List (Key × RoamingMark)
next_marks (Marked now k target told) before =
    insert_entry key_order before k (mark_to now target told)
next_marks (Released target byte) before = filter (λ e. not (is_ended target byte e.1)) before
next_marks (Unmarked k) before = remove_entry (same_key k) before
next_marks (Advised now k) before = before
next_marks (Asked now orig) before = before
next_marks (Forgotten orig) before = before

-- all marks after calls, in key order, ages apart
abbrev pub marks_by : Calls → List (Key × RoamingMark)
marks_by [] = []
marks_by (call ∷ older) = next_marks call (marks_by older)

-- whether a mark still stands by its age
abbrev pub is_young : ℕ → RoamingMark → Bool
is_young now mark = nat_lt (now - mark.moment) mark_age

-- the target of a mark, while it stands
abbrev pub target_by : ℕ → RoamingMark → Option Mac
target_by now mark = if is_young now mark then Some mark.target else None

-- the target of a client's mark at a moment, where one stands
abbrev pub mark_of : ℕ → Calls → Key → Option Mac
mark_of now calls key = option_and_then (target_by now) (mark_by calls key)

-- a client and its target, while its mark stands
abbrev pub mark_row : ℕ → Key × RoamingMark → Option (Key × Mac)
mark_row now e = option_map (λ target. (e.0, target)) (target_by now e.1)

-- the marks that stand at a moment, in key order: each client with its target
abbrev pub marks_at : ℕ → Calls → List (Key × Mac)
marks_at now calls = filter_map (mark_row now) (marks_by calls)
