-- The wire number of a VLAN, 16 bits: 0 is untagged; a tagged VLAN is its number, 1 to 4094 (IEEE
-- 802.1Q), beside the bit that says so. The main word is `tagged_bit`.
use Rattle.std.specs.Prelude.{ℕ}

-- the wire number of no VLAN
abbrev pub untagged : ℕ
untagged = 0

-- the bit of a wire number that says that the VLAN is tagged: 0x8000
abbrev pub tagged_bit : ℕ
tagged_bit = 32768

-- the least number of a tagged VLAN
abbrev pub first_vlan : ℕ
first_vlan = 1

-- the greatest number of a tagged VLAN
abbrev pub last_vlan : ℕ
last_vlan = 4094
