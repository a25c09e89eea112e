-- Groups: which of them multicast flags want, and how a frame goes to so many receivers. Flag bit 0
-- wants groups that begin 01:00:5e:00:00 and the group 33:33:00:00:00:01, bit 1 those that begin
-- 01:00:5e, bit 2 those that begin 33:33. The main words are `is_wanted` and `fan_of`.
use Rattle.std.specs.Prelude.{ℕ, ◌/◌, ◌%◌, ◌==◌, ◌&&◌, ◌||◌, nat_le, Bool, true, false, List, [], ◌∷◌, length, take, bytes_eq, if◌then◌else◌}
use Rattle.mesh_base.specs.declared.address.Mac.{Mac}
use Rattle.mesh_model.specs.declared.service.Fan.{Fan}
use Rattle.mesh_model.specs.declared.service.Fan.TheVariants.{Nobody, Each, Flood}

-- whether an address begins with these bytes
abbrev pub begins : List ℕ → Mac → Bool
begins front group = bytes_eq (take (length front) group.0) front

-- whether the flag of a value is set
abbrev pub is_set : ℕ → ℕ → Bool
is_set value flags = flags / value % 2 == 1

-- whether flags want a group
abbrev pub is_wanted : Mac → ℕ → Bool
is_wanted group flags =
    (is_set 1 flags && (begins (0x01 ∷ 0x00 ∷ 0x5e ∷ 0x00 ∷ 0x00 ∷ []) group
    || begins (0x33 ∷ 0x33 ∷ 0x00 ∷ 0x00 ∷ 0x00 ∷ 0x01 ∷ []) group))
    || ((is_set 2 flags && begins (0x01 ∷ 0x00 ∷ 0x5e ∷ []) group)
    || (is_set 4 flags && begins (0x33 ∷ 0x33 ∷ []) group))

-- the most receivers to which a frame goes one by one
abbrev pub most_each : ℕ
most_each = 16

-- whether a frame goes as a broadcast
abbrev pub is_flood : Fan → Bool
is_flood Nobody = false
is_flood Each = false
is_flood Flood = true

-- how a frame goes to so many receivers
abbrev pub fan_of : ℕ → Fan
fan_of receivers = if receivers == 0 then Nobody
    else if nat_le receivers most_each then Each else Flood
