-- The text of a hardware address: six pairs of hex digits, of either case, joined by colons; and
-- its printed text. The main words are `mac_of_text` and `mac_text`. A unicast address is no
-- group's and isn't zero.
use Rattle.std.specs.Prelude.{ℕ, Bool, ◌+◌, ◌*◌, ◌/◌, ◌%◌, ◌==◌, ◌&&◌, not, List, [], ◌∷◌, ◌++◌, length, slice_index, Option, Some, None, option_and_then, if◌then◌else◌}
use Rattle.std.specs.List.{slice_split, list_all}
use Rattle.hex.specs.Hex.{hex_digit_value, lower_digits}
use Rattle.mesh_base.specs.declared.address.Mac.{Mac}

-- the bytes of an address
abbrev pub mac_size : ℕ
mac_size = 6

-- the greatest value of a byte
abbrev pub last_byte : ℕ
last_byte = 255

-- the values of a hex digit
abbrev pub hex_base : ℕ
hex_base = 16

-- the character between two pairs
abbrev pub colon : ℕ
colon = 58

-- two things as one, where both are there
abbrev pub option_both : {A B C : Type 0} → (A → B → C) → Option A → Option B → Option C
option_both join (Some a) (Some b) = Some (join a b)
option_both join (Some a) None = None
option_both join None b = None

-- the byte that a pair of hex digits stands for
abbrev pub byte_of_pair : List ℕ → Option ℕ
byte_of_pair [] = None
byte_of_pair (high ∷ []) = None
byte_of_pair (high ∷ low ∷ []) =
    option_both (λ h l. hex_base * h + l) (hex_digit_value high) (hex_digit_value low)
byte_of_pair (high ∷ low ∷ more ∷ rest) = None

-- the bytes that pairs of hex digits stand for, or none where one of them is no such pair
abbrev pub bytes_of_pairs : List (List ℕ) → Option (List ℕ)
bytes_of_pairs [] = Some []
bytes_of_pairs (pair ∷ pairs) =
    option_both (λ byte bytes. byte ∷ bytes) (byte_of_pair pair) (bytes_of_pairs pairs)

-- bytes, as many as an address has, as one
abbrev pub mac_of_bytes : List ℕ → Option Mac
mac_of_bytes bytes = if length bytes == mac_size then Some (record { 0 = bytes }) else None

-- the address that a text spells
abbrev pub mac_of_text : List ℕ → Option Mac
mac_of_text text =
    option_and_then mac_of_bytes (bytes_of_pairs (slice_split (λ b. b == colon) text))

-- a byte as two hex digits in lower case
abbrev pub hex_of_byte : ℕ → List ℕ
hex_of_byte byte =
    slice_index lower_digits (byte / hex_base) ∷ slice_index lower_digits (byte % hex_base) ∷ []

-- bytes as pairs of hex digits joined by colons
abbrev pub pairs_text : List ℕ → List ℕ
pairs_text [] = []
pairs_text (byte ∷ []) = hex_of_byte byte
pairs_text (byte ∷ next ∷ rest) = hex_of_byte byte ++ colon ∷ pairs_text (next ∷ rest)

-- an address as it is printed, in lower case
abbrev pub mac_text : Mac → List ℕ
mac_text mac = pairs_text mac.0

-- whether an address is one of a group: bit 0 of its first byte
abbrev pub is_group : Mac → Bool
is_group mac = slice_index mac.0 0 % 2 == 1

-- whether every byte of an address is 0
abbrev pub is_zero : Mac → Bool
is_zero mac = list_all (λ byte. byte == 0) mac.0

-- whether an address is that of all stations: every bit of it is set
abbrev pub is_broadcast : Mac → Bool
is_broadcast mac = list_all (λ byte. byte == last_byte) mac.0

-- whether an address is one station's
abbrev pub is_unicast : Mac → Bool
is_unicast mac = not (is_group mac) && not (is_zero mac)
