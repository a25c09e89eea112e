-- What a word is as a field of a form, and by which refusal a word that isn't is refused: a name
-- by `bad name`, an address by `bad mac`, and a number, a VLAN, an IP address and hex bytes by
-- `bad number`. `out of range` is a number outside its range, an address of another kind than is
-- wanted, and a word that isn't one of those that are listed.
use Rattle.std.specs.Prelude.{ℕ, ◌^◌, ◌-◌, ◌&&◌, nat_le, min, Bool, true, false, not, List, [], ◌∷◌, codes, bytes_eq, ok_or, option_map, Result, Ok, Err, if◌then◌else◌}
use Rattle.std.specs.Map.{lookup}
use Rattle.mesh_base.specs.Address.{is_broadcast, mac_of_text, is_group, is_zero, is_unicast}
use Rattle.mesh_base.specs.declared.address.Mac.{Mac}
use Rattle.mesh_base.specs.declared.client.Vid.{Vid}
use Rattle.mesh_model.specs.declared.ending.Refusal.{Refusal}
use Rattle.mesh_model.specs.declared.ending.Refusal.TheVariants.{BadName, BadMac, BadNumber, OutOfRange}
use Rattle.mesh_model.specs.declared.line_form.Algorithm.{Algorithm}
use Rattle.mesh_model.specs.declared.line_form.Algorithm.TheVariants.{Iv, V}
use Rattle.mesh_model.specs.declared.line_form.AlfredMode.{AlfredMode}
use Rattle.mesh_model.specs.declared.line_form.AlfredMode.TheVariants.{Off, Primary, Secondary}
use Rattle.mesh_model.specs.declared.line_form.Table.{Table}
use Rattle.mesh_model.specs.declared.line_form.Table.TheVariants.{Originators, Neighbors, Locals, Globals, Claims, Gateways, Groups, Addresses, Facts, Pictures}
use Rattle.mesh_model.specs.Scenario.Terms.{is_name, number_of, vid_of, ip_of, bytes_of_hex}

-- what was read, where it passes a test
abbrev pub passing : {A : Type 0} → (A → Bool) → Result A Refusal → Result A Refusal
passing test (Ok value) = if test value then Ok value else Err OutOfRange
passing test (Err refusal) = Err refusal

-- a word as it stands
abbrev pub word_field : List ℕ → Result (List ℕ) Refusal
word_field word = Ok word

-- a name
abbrev pub name_field : List ℕ → Result (List ℕ) Refusal
name_field word = if is_name word then Ok word else Err BadName

-- an address
abbrev pub mac_field : List ℕ → Result Mac Refusal
mac_field word = ok_or (mac_of_text word) BadMac

-- the address of one station
abbrev pub unicast_field : List ℕ → Result Mac Refusal
unicast_field word = passing is_unicast (mac_field word)

-- the address to which a frame goes: any but zero
abbrev pub target_field : List ℕ → Result Mac Refusal
target_field word = passing (λ mac. not (is_zero mac)) (mac_field word)

-- the address of a group other than all stations
abbrev pub group_field : List ℕ → Result Mac Refusal
group_field word = passing (λ mac. is_group mac && not (is_broadcast mac)) (mac_field word)

-- a VLAN
abbrev pub vid_field : List ℕ → Result Vid Refusal
vid_field word = ok_or (vid_of word) BadNumber

-- an IP address
abbrev pub ip_field : List ℕ → Result ℕ Refusal
ip_field word = ok_or (ip_of word) BadNumber

-- bytes in hex
abbrev pub hex_field : List ℕ → Result (List ℕ) Refusal
hex_field word = ok_or (bytes_of_hex word) BadNumber

-- a number in a range
abbrev pub number_field : ℕ → ℕ → List ℕ → Result ℕ Refusal
number_field least most word =
    passing (λ n. nat_le least n && nat_le n most) (ok_or (number_of word) BadNumber)

-- a number up to another
abbrev pub number_up_to : ℕ → List ℕ → Result ℕ Refusal
number_up_to most = number_field 0 most

-- the greatest number of 64 bits
abbrev pub number_limit : ℕ
number_limit = 2 ^ 64 - 1

-- a number as it is kept: the greatest of 64 bits stands for all that are greater
abbrev pub kept_number : ℕ → ℕ
kept_number number = min number number_limit

-- the number of a link frame: any number
abbrev pub frame_number_field : List ℕ → Result ℕ Refusal
frame_number_field word = ok_or (option_map kept_number (number_of word)) BadNumber

-- one of the words that are listed, by what each stands for
abbrev pub listed_field : {A : Type 0} → List (List ℕ × A) → List ℕ → Result A Refusal
listed_field listed word = ok_or (lookup (bytes_eq word) listed) OutOfRange

-- `on` or `off`
abbrev pub switch_field : List ℕ → Result Bool Refusal
switch_field = listed_field ((codes "on", true) ∷ (codes "off", false) ∷ [])

-- `iv` or `v`
abbrev pub algorithm_field : List ℕ → Result Algorithm Refusal
algorithm_field = listed_field ((codes "iv", Iv) ∷ (codes "v", V) ∷ [])

-- a mode of alfred
abbrev pub alfred_mode_field : List ℕ → Result AlfredMode Refusal
alfred_mode_field = listed_field (
    (codes "primary", Primary) ∷ (codes "secondary", Secondary) ∷ (codes "off", Off) ∷ [])

-- a table
abbrev pub table_field : List ℕ → Result Table Refusal
table_field = listed_field (
    (codes "o", Originators) ∷ (codes "n", Neighbors) ∷ (codes "tl", Locals)
    ∷ (codes "tg", Globals) ∷ (codes "cl", Claims) ∷ (codes "gw", Gateways)
    ∷ (codes "mc", Groups) ∷ (codes "dat", Addresses) ∷ (codes "alf", Facts)
    ∷ (codes "vis", Pictures) ∷ [])
