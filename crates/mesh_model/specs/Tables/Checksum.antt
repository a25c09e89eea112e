-- CRC32C, the checksum of bytes by Castagnoli's polynomial, reflected: each byte's bits are taken
-- from the lowest. The register begins with all ones, and its bits are inverted at the end.
-- The main word is `crc32c`.
use Rattle.std.specs.Prelude.{ℕ, ◌/◌, ◌%◌, ◌==◌, if◌then◌else◌, List, bit_xor}
use Rattle.std.specs.Fn.{iterate}
use Rattle.std.specs.List.{fold}

-- the polynomial, reflected
abbrev pub crc_polynomial : ℕ
crc_polynomial = 0x82f63b78

-- the register with all 32 bits set
abbrev pub all_ones : ℕ
all_ones = 0xffffffff

-- the register after its lowest bit went out
abbrev pub after_bit : ℕ → ℕ
after_bit register =
    if register % 2 == 1 then bit_xor (register / 2) crc_polynomial else register / 2

-- the register after a byte came in
abbrev pub after_byte : ℕ → ℕ → ℕ
after_byte register byte = iterate after_bit 8 (bit_xor register byte)

-- the CRC32C of bytes
unfoldable pub crc32c : List ℕ → ℕ
crc32c bytes = bit_xor (fold after_byte all_ones bytes) all_ones
