-- A picture that is spelled is read again, and one that is read is spelled so.
use Rattle.std.proofs.Common.{◌≡◌, ℕ, zero, suc, ◌+◌, ◌*◌, ◌/◌, ◌<◌, ◌≤◌, ◌^◌, List, [], ◌∷◌, ◌++◌, length, take, drop, map, flat_map, refl, sym, ap, ap₂, ◌∙◌, arith, true, false, length-append}
use Rattle.std.proofs.lemmas.Bool.{eqb-true, eq-eqb}
use Rattle.std.proofs.lemmas.List.{take_at, drop_at, length-drop, length-map, length-take-le, take-append-drop, take_all}
use Rattle.std.proofs.lemmas.List.Elements.{All-drop, All-take}
use Rattle.std.specs.Prelude.{Bool, cond, Some, None, slice_index}
use Rattle.byteorder.specs.Endian.{big_bytes, big_number}
use Rattle.byteorder.specs.Numbers.{big_number-reads_back}
use Rattle.mesh_base.specs.declared.address.Mac.{Mac}
use Rattle.mesh_base.specs.declared.client.Key.{Key}
use Rattle.mesh_model.specs.Packets.Bodies.{key_of_bytes, pieces, whole_pieces}
use Rattle.mesh_model.specs.Packets.BodySpellings.{key_spelling}
use Rattle.mesh_model.specs.Packets.Pictures.{Picture, clients_place, has_told_length, neighbour_of_bytes, neighbour_spelling, picture_in, picture_spelling, told_clients}
use Rattle.mesh_model.specs.Services.Pictures.{clients_in, neighbours_at, own_picture}
use Rattle.mesh_laws.proofs.NumberLemmas.{is_width, number_back}
use Rattle.mesh_laws.specs.PacketLaws.{AreBytes}
use Rattle.mesh_tvlv.proofs.PiecesLemmas.{length_pieces}
use Rattle.mesh_tvlv.proofs.TableLemmas.{IsCodec, key_back, length-items, whole_back}
use Rattle.mesh_tvlv.specs.Laws.{FitsKey}
use Rattle.mesh_vis.specs.Laws.{FitsNeighbour, FitsPicture, IsPictureReadAgain, IsReadPictureSpelled, OwnPicturesFit}

-- ---- what is spelled

-- a neighbour is read again
neighbour_back : IsCodec 10 neighbour_spelling neighbour_of_bytes FitsNeighbour
neighbour_back = record {
  long = λ neighbour fits. omega (arith, length-append neighbour.0.0 (big_bytes 4 neighbour.1), fits.address);
  back = λ neighbour fits. ap₂ (λ (bytes : List ℕ) (n : ℕ). let x : Mac × ℕ = (record { 0 = bytes }, n) in x)
      (take_at neighbour.0.0 (big_bytes 4 neighbour.1) 6 fits.address)
      (ap (big_number 4) (drop_at neighbour.0.0 (big_bytes 4 neighbour.1) 6 fits.address)
      ∙ big_number-reads_back 4 neighbour.1 [] fits.metric);
}

-- a client is read again
client_back : IsCodec 8 key_spelling key_of_bytes FitsKey
client_back = record {
  long = λ key fits. omega (arith, length-append key.mac.0 (big_bytes 2 key.vid.0), fits.address);
  back = key_back;
}

-- the number at a place behind others
at_place : (xs : List ℕ) (y : ℕ) (ys : List ℕ) (i : ℕ) → i ≡ length xs → slice_index (xs ++ y ∷ ys) i ≡ y
at_place [] y ys i is = rw is refl
at_place (x ∷ xs) y ys zero is = absurd (omega (arith, is))
at_place (x ∷ xs) y ys (suc i) is = at_place xs y ys i (omega (arith, is))

-- what is behind a number and others
behind_place : (xs : List ℕ) (y : ℕ) (ys : List ℕ) (i : ℕ) → i ≡ suc (length xs) → drop i (xs ++ y ∷ ys) ≡ ys
behind_place [] y ys i is = rw is refl
behind_place (x ∷ xs) y ys zero is = absurd (omega (arith, is))
behind_place (x ∷ xs) y ys (suc i) is = behind_place xs y ys i (omega (arith, is))

pub picture_again : IsPictureReadAgain
picture_again picture fits =
    let bytes : List ℕ = picture_spelling picture in
    let n : ℕ = length picture.neighbours in
    let m : ℕ = length picture.clients in
    let first : List ℕ = flat_map neighbour_spelling picture.neighbours in
    let rest : List ℕ = flat_map key_spelling picture.clients in
    let long : length first ≡ 10 * n =
    length-items 10 neighbour_spelling neighbour_of_bytes FitsNeighbour neighbour_back picture.neighbours fits.neighbours in
    let longer : length rest ≡ 8 * m =
    length-items 8 key_spelling key_of_bytes FitsKey client_back picture.clients fits.clients in
    let clients : told_clients bytes ≡ m = at_place (n ∷ first) m rest (1 + 10 * n) (omega (arith, long)) in
    let behind : drop (1 + 10 * n + 1) bytes ≡ rest = behind_place (n ∷ first) m rest (1 + 10 * n + 1) (omega (arith, long)) in
    let whole : length bytes ≡ 1 + 10 * n + (1 + 8 * told_clients bytes) =
    omega (arith, long, longer, clients, length-append first (m ∷ rest)) in
    let told : has_told_length bytes ≡ true = eq-eqb (length bytes) (1 + 10 * n + (1 + 8 * told_clients bytes)) whole in
    let neighbours_again : map neighbour_of_bytes (whole_pieces 10 (take (10 * n) (first ++ m ∷ rest))) ≡ picture.neighbours =
    ap (λ xs. map neighbour_of_bytes (whole_pieces 10 xs)) (take_at first (m ∷ rest) (10 * n) long)
    ∙ whole_back 10 neighbour_spelling neighbour_of_bytes FitsNeighbour neighbour_back picture.neighbours fits.neighbours (omega (arith, long)) in
    let clients_again : map key_of_bytes (whole_pieces 8 (drop (1 + 10 * n + 1) bytes)) ≡ picture.clients =
    ap (λ xs. map key_of_bytes (whole_pieces 8 xs)) behind
    ∙ whole_back 8 key_spelling key_of_bytes FitsKey client_back picture.clients fits.clients (omega (arith, longer)) in
    ap (λ (b : Bool). cond b (Some (picture_in bytes)) None) told
    ∙ ap₂ (λ (ns : List (Mac × ℕ)) (cs : List Key). let p : Picture = record { neighbours = ns; clients = cs } in Some p) neighbours_again clients_again

-- ---- what is read

-- items whose reading is spelled in the bytes that were read
record IsSpelledBack {X : Type 0} (size : ℕ) (text : X → List ℕ) (read : List ℕ → X) : Type 0 where
  spelled : (bytes : List ℕ) → AreBytes bytes → length bytes ≡ size → text (read bytes) ≡ bytes

-- the number at a place, and what is behind it
at_and_behind : (xs : List ℕ) (i : ℕ) → i < length xs → slice_index xs i ∷ drop (suc i) xs ≡ drop i xs
at_and_behind [] i within = absurd (omega (arith, within))
at_and_behind (x ∷ xs) zero within = refl
at_and_behind (x ∷ xs) (suc i) within = at_and_behind xs i (omega (arith, within))

-- the pieces that are read are spelled in the same bytes
pieces_spelled : {X : Type 0} (size : ℕ) (text : X → List ℕ) (read : List ℕ → X) → IsSpelledBack size text read
    → (n : ℕ) (bytes : List ℕ) → AreBytes bytes → length bytes ≡ size * n
    → flat_map text (map read (pieces n size bytes)) ≡ bytes
unfolding pieces
pieces_spelled size text read back zero [] small long = refl
pieces_spelled size text read back zero (b ∷ bytes) small long = absurd (omega (arith, long))
pieces_spelled size text read back (suc n) bytes small long =
    let next : size * suc n ≡ size + size * n = omega arith in
    let front : text (read (take size bytes)) ≡ take size bytes =
    back.spelled (take size bytes) (All-take (λ b. b < 2 ^ 8) size bytes small) (length-take-le size bytes (omega (arith, next, long))) in
    let rest : flat_map text (map read (pieces n size (drop size bytes))) ≡ drop size bytes =
    pieces_spelled size text read back n (drop size bytes) (All-drop (λ b. b < 2 ^ 8) size bytes small)
    (omega (arith, next, long, length-drop size bytes)) in
    ap₂ (λ (xs ys : List ℕ). xs ++ ys) front rest ∙ take-append-drop size bytes

-- so are the whole pieces, where they are all
whole_spelled : {X : Type 0} (size : ℕ) (text : X → List ℕ) (read : List ℕ → X) → IsSpelledBack size text read
    → (n : ℕ) (bytes : List ℕ) → AreBytes bytes → length bytes ≡ size * n → length bytes / size ≡ n
    → (length (map read (whole_pieces size bytes)) ≡ n) × (flat_map text (map read (whole_pieces size bytes)) ≡ bytes)
whole_spelled size text read back n bytes small long count = (
  length-map (whole_pieces size bytes) read ∙ length_pieces (length bytes / size) size bytes ∙ count,
  ap (λ k. flat_map text (map read (pieces k size bytes))) count ∙ pieces_spelled size text read back n bytes small long,
)

-- a number behind an address is spelled in the bytes that it was read from
number_spelled : (size : ℕ) (bytes : List ℕ) → is_width size ≡ true → AreBytes bytes → length bytes ≡ 6 + size
    → take 6 bytes ++ big_bytes size (big_number size (drop 6 bytes)) ≡ bytes
number_spelled size bytes known small long =
    let behind : length (drop 6 bytes) ≡ size = omega (arith, long, length-drop 6 bytes) in
    let spelled : big_bytes size (big_number size (drop 6 bytes)) ≡ drop 6 bytes =
    sym (number_back size known (drop 6 bytes) (All-drop (λ b. b < 2 ^ 8) 6 bytes small) (omega (arith, behind)))
    ∙ take_all size (drop 6 bytes) (omega (arith, behind)) in
    ap (λ xs. take 6 bytes ++ xs) spelled ∙ take-append-drop 6 bytes

neighbour_spelled : IsSpelledBack 10 neighbour_spelling neighbour_of_bytes
neighbour_spelled = record { spelled = λ bytes small long. number_spelled 4 bytes refl small long }

client_spelled : IsSpelledBack 8 key_spelling key_of_bytes
client_spelled = record { spelled = λ bytes small long. number_spelled 2 bytes refl small long }

-- bytes that are as long as they tell are put together by their parts
parts_spelled : (bytes : List ℕ) → AreBytes bytes → length bytes ≡ clients_place bytes + (1 + 8 * told_clients bytes)
    → picture_spelling (picture_in bytes) ≡ bytes
parts_spelled [] small long = absurd (omega (arith, long))
parts_spelled (n ∷ rest) small long =
    let bytes : List ℕ = n ∷ rest in
    let m : ℕ = told_clients bytes in
    let first : List ℕ = take (10 * n) rest in
    let last : List ℕ = drop (1 + 10 * n + 1) bytes in
    let size : length first ≡ 10 * n = length-take-le (10 * n) rest (omega (arith, long)) in
    let more : length last ≡ 8 * m = length-drop (1 + 10 * n + 1) bytes ∙ omega (arith, long) in
    let small_rest : AreBytes rest = All-drop (λ b. b < 2 ^ 8) 1 bytes small in
    let ns = whole_spelled 10 neighbour_spelling neighbour_of_bytes neighbour_spelled n first (All-take (λ b. b < 2 ^ 8) (10 * n) rest small_rest) size (omega (arith, size)) in
    let cs = whole_spelled 8 key_spelling key_of_bytes client_spelled m last (All-drop (λ b. b < 2 ^ 8) (1 + 10 * n + 1) bytes small) more (omega (arith, more)) in
    let place : 1 + 10 * n ≡ suc (10 * n) = omega arith in
    let after : 1 + 10 * n + 1 ≡ suc (suc (10 * n)) = omega arith in
    let behind : m ∷ last ≡ drop (10 * n) rest =
    ap₂ (λ (x : ℕ) (xs : List ℕ). x ∷ xs) (ap (slice_index bytes) place) (ap (λ i. drop i bytes) after)
    ∙ at_and_behind rest (10 * n) (omega (arith, long)) in
    ap₂ (λ (x : ℕ) (xs : List ℕ). (x ∷ xs) ++ length (picture_in bytes).clients ∷ flat_map key_spelling (picture_in bytes).clients) ns.0 ns.1
    ∙ ap₂ (λ (x : ℕ) (xs : List ℕ). (n ∷ first) ++ x ∷ xs) cs.0 cs.1
    ∙ ap (λ xs. n ∷ first ++ xs) behind ∙ ap (λ xs. n ∷ xs) (take-append-drop (10 * n) rest)

chosen : {X : Type 0} (b : Bool) (x y : X) → cond b (Some x) None ≡ Some y → (b ≡ true) × (x ≡ y)
chosen true x y is = (refl, cc)
chosen false x y is = absurd cc

pub picture_spelled : IsReadPictureSpelled
picture_spelled bytes picture small is =
    let parts = chosen (has_told_length bytes) (picture_in bytes) picture is in
    let long : length bytes ≡ clients_place bytes + (1 + 8 * told_clients bytes) =
    eqb-true (length bytes) (clients_place bytes + (1 + 8 * told_clients bytes)) parts.0 in
    ap picture_spelling (sym parts.1) ∙ parts_spelled bytes small long

-- ---- what a node gives of itself

taken_few : {X : Type 0} (n : ℕ) (xs : List X) → length (take n xs) ≤ n
taken_few zero xs = omega arith
taken_few (suc n) [] = omega arith
taken_few (suc n) (x ∷ xs) = omega (arith, taken_few n xs)

-- a picture of few neighbours and clients is short
picture_short : (picture : Picture) → FitsPicture picture
    → length (picture_spelling picture) ≡ 2 + 10 * length picture.neighbours + 8 * length picture.clients
picture_short picture fits =
    let first : List ℕ = flat_map neighbour_spelling picture.neighbours in
    let rest : List ℕ = flat_map key_spelling picture.clients in
    let long : length first ≡ 10 * length picture.neighbours =
    length-items 10 neighbour_spelling neighbour_of_bytes FitsNeighbour neighbour_back picture.neighbours fits.neighbours in
    let longer : length rest ≡ 8 * length picture.clients =
    length-items 8 key_spelling key_of_bytes FitsKey client_back picture.clients fits.clients in
    omega (arith, long, longer, length-append first (length picture.clients ∷ rest))

pub own_pictures_fit : OwnPicturesFit
own_pictures_fit q me routes now table =
    let picture : Picture = own_picture q routes now table in
    let few = taken_few 16 (neighbours_at q routes now) in
    let fewer = taken_few 128 (clients_in table) in
    record {
      few_neighbours = few;
      few_clients = fewer;
      has_room = λ six fits.
          omega (
            arith,
            six,
            few,
            fewer,
            picture_short picture fits,
            length-append (me.0 ++ 1 ∷ 1 ∷ big_bytes 2 (length (picture_spelling picture))) (picture_spelling picture),
            length-append me.0 (1 ∷ 1 ∷ big_bytes 2 (length (picture_spelling picture))),
          );
    }
