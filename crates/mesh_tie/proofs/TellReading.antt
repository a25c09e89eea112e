-- The addresses and clients of every command that is read can be told.
use Rattle.std.proofs.Common.{◌≡◌, ◌≤◌, ◌<◌, ◌^◌, ◌+◌, ◌*◌, ◌-◌, ◌&&◌, ◌==◌, ℕ, Bool, true, false, cond, not, nat_le, List, [], ◌∷◌, length, Option, Some, None, Result, Ok, Err, refl, subst, arith}
use Rattle.std.specs.Prelude.{bytes_eq, codes, ok_or, option_and_then}
use Rattle.std.specs.List.{AllByRecursion, slice_split}
use Rattle.std.proofs.lemmas.Bool.{eqb-true}
use Rattle.std.proofs.lemmas.Bool.Decides.{nat_tests}
use Rattle.hex.specs.Hex.{hex_digit_value}
use Rattle.mesh_base.specs.Address.{byte_of_pair, bytes_of_pairs, is_broadcast, is_group, is_unicast, is_zero, mac_of_bytes, mac_of_text, option_both}
use Rattle.mesh_base.specs.declared.address.Mac.{Mac}
use Rattle.mesh_base.specs.declared.client.Key.{Key}
use Rattle.mesh_base.specs.declared.client.Vid.{Vid}
use Rattle.mesh_model.specs.declared.ending.Refusal.{Refusal}
use Rattle.mesh_model.specs.declared.ending.Refusal.TheVariants.{BadMac, BadNumber, OutOfRange}
use Rattle.mesh_model.specs.declared.line_form.Command.{Command}
use Rattle.mesh_model.specs.declared.line_form.Command.TheVariants.{Nothing, Algo, Node, Link, Lan, Frame, Gone, Join, Leave, Arp, Dhcp, Wifi, GwOff, GwServer, GwClient, Mcast, Dat, Frag, Vis, Alfred, Put, Get, Ping, Trace, Reboot, Run, Deliver, Show, Decode}
use Rattle.mesh_model.specs.Scenario.AlfredForms.{fact_type_field}
use Rattle.mesh_model.specs.Scenario.Fields.{group_field, mac_field, passing, target_field, unicast_field, vid_field}
use Rattle.mesh_model.specs.Scenario.Terms.{number_of, tagged, vid_of}
use Rattle.mesh_laws.proofs.Lines.FieldsRead.{AnyText, FieldsWereRead, KeyWasRead, WasRead, all_fields_read}
use Rattle.mesh_tie.specs.PlainRuns.{IsTellable, ReadIsTellable}
use Rattle.mesh_tie.specs.Sources.{IsWhole}
use Rattle.mesh_tie.specs.Steps.{IsClient}

some_is : {A : Type 0} (x y : A) → Some x ≡ Some y → x ≡ y
some_is x y h = cc

-- ---- addresses
digit_small : (c d : ℕ) → hex_digit_value c ≡ Some d → d ≤ 15
digit_small c d is = first (nat_le 65 c && nat_le c 70) refl is
  where
    third : (b : Bool) → (nat_le 48 c && nat_le c 57) ≡ b → cond b (Some (c - 48)) None ≡ Some d → d ≤ 15
    third true t e = let same : c - 48 ≡ d = some_is (c - 48) d e in grind (arith, nat_tests, t, same)
    third false t e = cc

    second : (b : Bool) → (nat_le 97 c && nat_le c 102) ≡ b → cond b (Some (c - 87)) (cond (nat_le 48 c && nat_le c 57) (Some (c - 48)) None) ≡ Some d → d ≤ 15
    second true t e = let same : c - 87 ≡ d = some_is (c - 87) d e in grind (arith, nat_tests, t, same)
    second false t e = third (nat_le 48 c && nat_le c 57) refl e

    first : (b : Bool) → (nat_le 65 c && nat_le c 70) ≡ b → cond b (Some (c - 55)) (cond (nat_le 97 c && nat_le c 102) (Some (c - 87)) (cond (nat_le 48 c && nat_le c 57) (Some (c - 48)) None)) ≡ Some d → d ≤ 15
    first true t e = let same : c - 55 ≡ d = some_is (c - 55) d e in grind (arith, nat_tests, t, same)
    first false t e = second (nat_le 97 c && nat_le c 102) refl e

both_small : (o p : Option ℕ) (byte : ℕ) → ((d : ℕ) → o ≡ Some d → d ≤ 15) → ((d : ℕ) → p ≡ Some d → d ≤ 15) → option_both (λ h l. 16 * h + l) o p ≡ Some byte → byte < 2 ^ 8
both_small None p byte a b is = cc
both_small (Some h) None byte a b is = cc
both_small (Some h) (Some l) byte a b is =
    let same : 16 * h + l ≡ byte = some_is (16 * h + l) byte is in
    let high = a h refl in
    let low = b l refl in
    omega (arith, same, high, low)

pair_small : (pair : List ℕ) (byte : ℕ) → byte_of_pair pair ≡ Some byte → byte < 2 ^ 8
pair_small [] byte is = cc
pair_small (high ∷ []) byte is = cc
pair_small (high ∷ low ∷ []) byte is = both_small (hex_digit_value high) (hex_digit_value low) byte (digit_small high) (digit_small low) is
pair_small (high ∷ low ∷ more ∷ rest) byte is = cc

abbrev EachByte : List ℕ → Type 0
EachByte bytes = AllByRecursion (λ byte. byte < 2 ^ 8) bytes

pairs_small : (pairs : List (List ℕ)) (bytes : List ℕ) → bytes_of_pairs pairs ≡ Some bytes → EachByte bytes
pairs_small [] bytes is = let same : [] ≡ bytes = some_is [] bytes is in subst EachByte same tt
pairs_small (pair ∷ pairs) bytes is = go (byte_of_pair pair) (bytes_of_pairs pairs) (pair_small pair) (λ more e. pairs_small pairs more e) is
  where
    go : (o : Option ℕ) (p : Option (List ℕ)) → ((byte : ℕ) → o ≡ Some byte → byte < 2 ^ 8) → ((more : List ℕ) → p ≡ Some more → EachByte more) → option_both (λ byte bytes. byte ∷ bytes) o p ≡ Some bytes → EachByte bytes
    go None p a b e = cc
    go (Some byte) None a b e = cc
    go (Some byte) (Some more) a b e = let same : byte ∷ more ≡ bytes = some_is (byte ∷ more) bytes e in subst EachByte same (a byte refl, b more refl)

-- an address that can be told
record Tells (mac : Mac) : Type 0 where
  whole : IsWhole mac
  bytes : EachByte mac.0

bytes_tell : (o : Option (List ℕ)) (mac : Mac) → ((bytes : List ℕ) → o ≡ Some bytes → EachByte bytes) → option_and_then mac_of_bytes o ≡ Some mac → Tells mac
bytes_tell None mac each is = cc
bytes_tell (Some bytes) mac each is = go (length bytes == 6) refl is
  where
    go : (b : Bool) → (length bytes == 6) ≡ b → cond b (Some (record { 0 = bytes })) None ≡ Some mac → Tells mac
    go true t e = let same : record { 0 = bytes } ≡ mac = cc in subst Tells same (record { whole = eqb-true (length bytes) 6 t; bytes = each bytes refl })
    go false t e = cc

mac_tells : (word : List ℕ) (mac : Mac) → mac_of_text word ≡ Some mac → Tells mac
mac_tells word mac is = bytes_tell (bytes_of_pairs (slice_split (λ b. b == 58) word)) mac (pairs_small (slice_split (λ b. b == 58) word)) is

-- ---- fields
-- what is read of a word has a property
abbrev Gives : {A : Type 0} → (A → Type 0) → (List ℕ → Result A Refusal) → Type 0
Gives {A} P read = (word : List ℕ) (value : A) → read word ≡ Ok value → P value

ok_is : {A : Type 0} (o : Option A) (r : Refusal) (value : A) → ok_or o r ≡ Ok value → o ≡ Some value
ok_is None r value is = cc
ok_is (Some x) r value is = cc

passed_if : {A : Type 0} (b : Bool) (x value : A) → ◌≡◌ {A = Result A Refusal} (cond b (Ok x) (Err OutOfRange)) (Ok value) → ◌≡◌ {A = Result A Refusal} (Ok x) (Ok value)
passed_if true x value e = e
passed_if false x value e = cc

passed : {A : Type 0} (test : A → Bool) (read : Result A Refusal) (value : A) → passing test read ≡ Ok value → read ≡ Ok value
passed test (Ok x) value is = passed_if (test x) x value is
passed test (Err refusal) value is = cc

target_tells : Gives Tells target_field
target_tells word mac is = mac_tells word mac (ok_is (mac_of_text word) BadMac mac (passed (λ m. not (is_zero m)) (mac_field word) mac is))

unicast_tells : Gives Tells unicast_field
unicast_tells word mac is = mac_tells word mac (ok_is (mac_of_text word) BadMac mac (passed is_unicast (mac_field word) mac is))

group_tells : Gives Tells group_field
group_tells word mac is = mac_tells word mac (ok_is (mac_of_text word) BadMac mac (passed (λ m. is_group m && not (is_broadcast m)) (mac_field word) mac is))

-- the type of a fact that a line puts
tested_if : {A : Type 0} (test : A → Bool) (b : Bool) (x value : A) → test x ≡ b → ◌≡◌ {A = Result A Refusal} (cond b (Ok x) (Err OutOfRange)) (Ok value) → test value ≡ true
tested_if test true x value is e = let same : x ≡ value = cc in subst (λ y. test y ≡ true) same is
tested_if test false x value is e = cc

tested : {A : Type 0} (test : A → Bool) (read : Result A Refusal) (value : A) → passing test read ≡ Ok value → test value ≡ true
tested test (Ok x) value is = tested_if test (test x) x value refl is
tested test (Err refusal) value is = cc

fact_type_tells : Gives (λ t. 64 ≤ t) fact_type_field
fact_type_tells word t is =
    let within : (nat_le 64 t && nat_le t 255) ≡ true = tested (λ n. nat_le 64 n && nat_le n 255) (ok_or (number_of word) BadNumber) t is in
    grind (arith, nat_tests, within)

-- a VLAN's wire number fits two bytes
abbrev SmallVid : Vid → Type 0
SmallVid vid = vid.0 < 2 ^ 16

tagged_small : (o : Option ℕ) (vid : Vid) → option_and_then tagged o ≡ Some vid → SmallVid vid
tagged_small None vid is = cc
tagged_small (Some n) vid is = go (nat_le 1 n && nat_le n 4094) refl is
  where
    go : (b : Bool) → (nat_le 1 n && nat_le n 4094) ≡ b → cond b (Some (record { 0 = 32768 + n })) None ≡ Some vid → SmallVid vid
    go true t e =
        let low : n ≤ 4094 = grind (arith, nat_tests, t) in
        let same : record { 0 = 32768 + n } ≡ vid = cc in
        subst SmallVid same (omega (arith, low))
    go false t e = cc

vid_small : Gives SmallVid vid_field
vid_small word vid is = go (bytes_eq word (codes "-")) (ok_is (vid_of word) BadNumber vid is)
  where
    go : (b : Bool) → cond b (Some (record { 0 = 0 })) (option_and_then tagged (number_of word)) ≡ Some vid → SmallVid vid
    go true e = let same : record { 0 = 0 } ≡ vid = cc in subst SmallVid same (omega arith)
    go false e = tagged_small (number_of word) vid e

client_of : (mac : Mac) (vid : Vid) → Tells mac → SmallVid vid → IsClient (record { mac = mac; vid = vid })
client_of mac vid tells small = record { fits = record { address = tells.whole; vid = small }; bytes = tells.bytes }

-- ---- commands
key_tells : (read : List ℕ → Result Mac Refusal) → Gives Tells read → (key : Key) → KeyWasRead read key → IsClient key
key_tells read tells key was = client_of key.mac key.vid (tells was.0.word key.mac was.0.is) (vid_small was.1.word key.vid was.1.is)

fact_type_was : (type_no : ℕ) → WasRead fact_type_field type_no → 64 ≤ type_no
fact_type_was type_no was = fact_type_tells was.word type_no was.is

tellable : (command : Command) → FieldsWereRead AnyText command → IsTellable command
tellable Nothing was = tt
tellable (Algo algorithm) was = tt
tellable (Node name mac) was = (unicast_tells was.1.word mac was.1.is).whole
tellable (Link from to delay pattern throughput) was = tt
tellable (Lan name gateways) was = tt
tellable (Frame place src dst vid text) was = (key_tells unicast_field unicast_tells (record { mac = src; vid = vid }) was.0, (target_tells was.1.word dst was.1.is).whole)
tellable (Gone place key) was = key_tells unicast_field unicast_tells key was
tellable (Join node key) was = key_tells group_field group_tells key was
tellable (Leave node key) was = key_tells group_field group_tells key was
tellable (Arp node mac own asked vid) was = key_tells unicast_field unicast_tells (record { mac = mac; vid = vid }) was
tellable (Dhcp node key text) was = key_tells unicast_field unicast_tells key was.0
tellable (Wifi node on) was = tt
tellable (GwOff node) was = tt
tellable (GwServer node down up) was = tt
tellable (GwClient node policy) was = tt
tellable (Mcast node flags) was = tt
tellable (Dat node on) was = tt
tellable (Frag node longest) was = tt
tellable (Vis node on) was = tt
tellable (Alfred node mode) was = tt
tellable (Put node type_no version text) was = fact_type_was type_no was.0
tellable (Get node type_no) was = fact_type_was type_no was
tellable (Ping node target) was = tt
tellable (Trace node target) was = tt
tellable (Reboot node) was = tt
tellable (Run time) was = tt
tellable (Deliver number) was = tt
tellable (Show node table) was = tt
tellable (Decode bytes) was = tt

pub read_is_tellable : ReadIsTellable
read_is_tellable line command h = tellable command (all_fields_read line command h)
