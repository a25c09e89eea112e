-- Spelled bodies are read back.
use Rattle.std.proofs.Common.{◌≡◌, ℕ, ◌+◌, ◌*◌, ◌/◌, List, [], ◌∷◌, ◌++◌, length, take, drop, refl, sym, ap, ap₂, ◌∙◌, arith, true, false, length-append}
use Rattle.std.proofs.lemmas.Bool.{le-ltb}
use Rattle.std.proofs.lemmas.List.{take_at, drop_at, drop-drop}
use Rattle.std.proofs.lemmas.Nat.{and_assoc, and_or_apart, and_or_self}
use Rattle.std.specs.Int.Bits.{and_zero_r, or_zero_r}
use Rattle.std.specs.Prelude.{option_map, slice_index, Bool, cond, nat_lt, map, flat_map, bit_and, ◌==◌, Some, None, All}
use Rattle.byteorder.specs.Endian.{big_bytes, big_number}
use Rattle.byteorder.specs.Numbers.{big_number-reads_back}
use Rattle.mesh_base.specs.declared.client.Key.{Key}
use Rattle.mesh_base.specs.declared.client.Entry.{Entry}
use Rattle.mesh_model.specs.Packets.Bodies.{VlanSum, TtChange, TtData, TtPart, Bandwidth, part_with, pieces, tt_of_body, whole_pieces, vlan_of_bytes, key_of_bytes, change_of_bytes, told_vlans, tt_data, client_flags, change_of, entry_of_change, is_deletion}
use Rattle.mesh_model.specs.Packets.Contents.{table_of_body}
use Rattle.mesh_model.specs.Packets.BodySpellings.{vlan_spelling, key_spelling, change_spelling, tt_spelling, tt_part_spelling}
use Rattle.mesh_tvlv.specs.Laws.{FitsKey, FitsVlan, FitsTable, PartIsReadBack, RecordIsReadBack, BodiesAreReadBack}
use Rattle.mesh_tvlv.proofs.SpellingLemmas.{All-tail}

-- items that are spelled in so many bytes each, and read back from them
pub record IsCodec {X : Type 0} (size : ℕ) (text : X → List ℕ) (read : List ℕ → X) (Fits : X → Type 0) : Type 0 where
  pub long : (x : X) → Fits x → length (text x) ≡ size
  pub back : (x : X) → Fits x → read (text x) ≡ x

-- the bytes of items that are spelled in so many bytes each
pub length-items : {X : Type 0} (size : ℕ) (text : X → List ℕ) (read : List ℕ → X) (Fits : X → Type 0)
    → IsCodec size text read Fits → (xs : List X) → All Fits xs → length (flat_map text xs) ≡ size * length xs
length-items size text read Fits codec [] fits = omega arith
length-items size text read Fits codec (x ∷ xs) fits =
    let rest = length-items size text read Fits codec xs (All-tail Fits x xs fits) in
    let first = codec.long x (fits 0 x (omega arith)) in
    let next : size * length (x ∷ xs) ≡ size + size * length xs = omega arith in
    length-append (text x) (flat_map text xs) ∙ omega (arith, rest, first, next)

-- the pieces of spelled items are read back
items_back : {X : Type 0} (size : ℕ) (text : X → List ℕ) (read : List ℕ → X) (Fits : X → Type 0)
    → IsCodec size text read Fits → (xs : List X) → All Fits xs
    → map read (pieces (length xs) size (flat_map text xs)) ≡ xs
unfolding pieces
items_back size text read Fits codec [] fits = refl
items_back size text read Fits codec (x ∷ xs) fits =
    let rest : List ℕ = flat_map text xs in
    let long = codec.long x (fits 0 x (omega arith)) in
    ap (λ bytes. read bytes ∷ map read (pieces (length xs) size (drop size (text x ++ rest)))) (take_at (text x) rest size long)
    ∙ ap (λ bytes. read (text x) ∷ map read (pieces (length xs) size bytes)) (drop_at (text x) rest size long)
    ∙ ap (λ y. y ∷ map read (pieces (length xs) size rest)) (codec.back x (fits 0 x (omega arith)))
    ∙ ap (λ ys. x ∷ ys) (items_back size text read Fits codec xs (All-tail Fits x xs fits))

-- a VLAN is read back
vlan_back : IsCodec 8 vlan_spelling vlan_of_bytes FitsVlan
vlan_back = record {
  long = λ vlan fits. refl;
  back = λ vlan fits. ap₂ (λ (sum n : ℕ). let v : VlanSum = record { sum = sum; vid = record { 0 = n } } in v)
      (big_number-reads_back 4 vlan.sum (big_bytes 2 vlan.vid.0 ++ 0 ∷ 0 ∷ []) fits.sum)
      (big_number-reads_back 2 vlan.vid.0 (0 ∷ 0 ∷ []) fits.vid);
}

-- a client is read back
pub key_back : (key : Key) → FitsKey key → key_of_bytes (key_spelling key) ≡ key
key_back key fits = ap₂ (λ (bytes : List ℕ) (n : ℕ). let k : Key = record { mac = record { 0 = bytes }; vid = record { 0 = n } } in k)
    (take_at key.mac.0 (big_bytes 2 key.vid.0) 6 fits.address)
    (ap (big_number 2) (drop_at key.mac.0 (big_bytes 2 key.vid.0) 6 fits.address)
    ∙ big_number-reads_back 2 key.vid.0 [] fits.vid)

-- a record is read back
change_back : IsCodec 12 change_spelling change_of_bytes (λ change. FitsKey change.key)
change_back = record {
  long = λ change fits. omega (arith, length-append change.key.mac.0 (big_bytes 2 change.key.vid.0), fits.address);
  back = λ change fits. ap (λ (key : Key). let c : TtChange = record { flags = change.flags; key = key } in c)
      (key_back change.key fits);
}

-- the whole pieces of spelled items are read back
pub whole_back : {X : Type 0} (size : ℕ) (text : X → List ℕ) (read : List ℕ → X) (Fits : X → Type 0)
    → IsCodec size text read Fits → (xs : List X) → All Fits xs → length (flat_map text xs) / size ≡ length xs
    → map read (whole_pieces size (flat_map text xs)) ≡ xs
whole_back size text read Fits codec xs fits count =
    ap (λ k. map read (pieces k size (flat_map text xs))) count ∙ items_back size text read Fits codec xs fits

-- the rows of a translation table, as they are spelled
abbrev rows : TtData → List ℕ
rows table = flat_map vlan_spelling table.vlans ++ flat_map change_spelling table.changes

-- a body that begins so, and has the rows of a translation table behind its head
record Begins (head : ℕ) (body : List ℕ) (table : TtData) : Type 0 where
  flags : slice_index body 0 ≡ table.flags
  ttvn : slice_index body 1 ≡ table.ttvn
  told : told_vlans body ≡ length table.vlans
  rest : drop head body ≡ rows table
  long : length body ≡ head + length (rows table)

-- the table is read of it
body_back : (head : ℕ) (body : List ℕ) (table : TtData) → FitsTable table → Begins head body table → tt_of_body head body ≡ Some table
body_back head body table fits begins =
    let vlans : List ℕ = flat_map vlan_spelling table.vlans in
    let changes : List ℕ = flat_map change_spelling table.changes in
    let FitsClient : TtChange → Type 0 = λ change. FitsKey change.key in
    let told = begins.told in
    let long = length-items 8 vlan_spelling vlan_of_bytes FitsVlan vlan_back table.vlans fits.each_vlan in
    let longer = length-items 12 change_spelling change_of_bytes FitsClient change_back table.changes fits.each_change in
    let whole : nat_lt (length body) (head + 8 * told_vlans body) ≡ false =
    le-ltb (length body) (head + 8 * told_vlans body) (omega (arith, told, long, begins.long, length-append vlans changes)) in
    let first : take (8 * told_vlans body) (drop head body) ≡ vlans =
    ap (take (8 * told_vlans body)) begins.rest ∙ take_at vlans changes (8 * told_vlans body) (omega (arith, told, long)) in
    let second : drop (head + 8 * told_vlans body) body ≡ changes =
    sym (drop-drop (8 * told_vlans body) head body) ∙ ap (drop (8 * told_vlans body)) begins.rest
    ∙ drop_at vlans changes (8 * told_vlans body) (omega (arith, told, long)) in
    let vlans_back : map vlan_of_bytes (whole_pieces 8 (take (8 * told_vlans body) (drop head body))) ≡ table.vlans =
    ap (λ bytes. map vlan_of_bytes (whole_pieces 8 bytes)) first
    ∙ whole_back 8 vlan_spelling vlan_of_bytes FitsVlan vlan_back table.vlans fits.each_vlan (omega (arith, long)) in
    let changes_back : map change_of_bytes (whole_pieces 12 (drop (head + 8 * told_vlans body) body)) ≡ table.changes =
    ap (λ bytes. map change_of_bytes (whole_pieces 12 bytes)) second
    ∙ whole_back 12 change_spelling change_of_bytes FitsClient change_back table.changes fits.each_change
    (omega (arith, longer)) in
    ap (λ (b : Bool). cond b None (Some (tt_data head body))) whole
    ∙ ap₂ (λ (flags ttvn : ℕ). let t : TtData =
    record { flags = flags; ttvn = ttvn; vlans = map vlan_of_bytes (whole_pieces 8 (take (8 * told_vlans body) (drop head body))); changes = map change_of_bytes (whole_pieces 12 (drop (head + 8 * told_vlans body) body)) } in Some t) begins.flags begins.ttvn
    ∙ ap₂ (λ (vs : List VlanSum) (cs : List TtChange). let t : TtData =
    record { flags = table.flags; ttvn = table.ttvn; vlans = vs; changes = cs } in Some t) vlans_back changes_back

-- a translation table is read back
pub table_back : (table : TtData) → FitsTable table → table_of_body (tt_spelling table) ≡ Some table
table_back table fits = body_back 4 (tt_spelling table) table fits (record {
  flags = refl;
  ttvn = refl;
  told = big_number-reads_back 2 (length table.vlans) (rows table) fits.vlans;
  rest = refl;
  long = omega arith;
})

-- a part of a translation table is read back
pub part_back : PartIsReadBack
part_back part fits number count =
    let body : List ℕ = tt_part_spelling part in
    let behind_number : List ℕ = big_bytes 2 part.count ++ rows part.table in
    let begins : Begins 8 body part.table = record {
      flags = refl;
      ttvn = refl;
      told = big_number-reads_back 2 (length part.table.vlans) (big_bytes 2 part.number ++ behind_number) fits.vlans;
      rest = refl;
      long = omega arith;
    } in
    ap (option_map (part_with body)) (body_back 8 body part.table fits begins)
    ∙ ap₂ (λ (n c : ℕ). let p : TtPart = record { table = part.table; number = n; count = c } in Some p)
    (big_number-reads_back 2 part.number behind_number number) (big_number-reads_back 2 part.count (rows part.table) count)

-- the other spelled bodies are read back
pub bodies_back : BodiesAreReadBack
bodies_back = record {
  roaming = λ key fits.
      let whole : nat_lt (length (key_spelling key)) 8 ≡ false = le-ltb (length (key_spelling key)) 8
      (omega (arith, length-append key.mac.0 (big_bytes 2 key.vid.0), fits.address)) in
      ap (λ (b : Bool). cond b None (Some (key_of_bytes (key_spelling key)))) whole ∙ ap (λ k. Some k) (key_back key fits);
  gateway = λ bandwidth down up. ap₂ (λ (d u : ℕ). let b : Bandwidth = record { download = d; upload = u } in Some b)
      (big_number-reads_back 4 bandwidth.download (big_bytes 4 bandwidth.upload) down)
      (big_number-reads_back 4 bandwidth.upload [] up);
  multicast = λ flags. refl;
}

-- a record for a client is read back
pub record_back : RecordIsReadBack
record_back entry is_gone =
    let with_flags : ℕ → Entry = λ flags. record entry { flags = flags } in
    let kept : bit_and (bit_and entry.flags 48) 48 ≡ bit_and entry.flags 48 = and_assoc 48 entry.flags 48 in
    let apart : bit_and (bit_and entry.flags 48) 1 ≡ 0 = and_assoc 1 entry.flags 48 ∙ and_zero_r entry.flags in
    elim is_gone as (λ gone. (entry_of_change (change_of entry gone) ≡ with_flags (client_flags entry.flags))
    × (is_deletion (change_of entry gone) ≡ gone)) [
      | true ↦ (
        ap with_flags (and_or_apart 48 (bit_and entry.flags 48) 1 refl ∙ kept),
        ap (λ n. n == 1) (and_or_self 1 (bit_and entry.flags 48)),
      )
      | false ↦ (
        ap with_flags (ap (λ n. bit_and n 48) (or_zero_r (bit_and entry.flags 48)) ∙ kept),
        ap (λ n. n == 1) (ap (λ n. bit_and n 1) (or_zero_r (bit_and entry.flags 48)) ∙ apart),
      )
    ]
