-- What the text of an address reads as, three bytes at a time.
use Rattle.std.proofs.Common.{ℕ, zero, suc, ◌+◌, ◌*◌, ◌≡◌, ◌<◌, Bool, true, false, cond, List, [], ◌∷◌, length, get_or, Option, None, Some, IfSome, Result, Ok, Err, refl, sym, ap, ◌∙◌, subst, arith}
use Rattle.std.specs.Prelude.{◌==◌}
use Rattle.std.specs.List.{slice_split, onto_first}
use Rattle.std.specs.Option.{option_map}
use Rattle.std.specs.Result.{result_ok}
use Rattle.std.proofs.lemmas.Bool.{eqb-true}
use Rattle.std.proofs.lemmas.Slice.Eq.{text_from_reads, HasBytesAt}
use Rattle.hex.specs.Hex.{◌>>=◌, hex_digit_value, digit_or_error, decode_pairs}
use Rattle.hex.specs.declared.error.FromHexError.{FromHexError}
use Rattle.mesh_base.specs.Address.{colon, option_both, bytes_of_pairs, mac_of_bytes, mac_of_text}
use Rattle.mesh_base.specs.declared.address.Mac.{Mac}
use Rattle.std.specs.Prelude.{option_and_then}

-- a byte before bytes, where both are there
abbrev before : Option ℕ → Option (List ℕ) → Option (List ℕ)
before byte bytes = option_both (λ b bs. b ∷ bs) byte bytes

-- the byte of two digits
abbrev pair : ℕ → ℕ → Option ℕ
pair h l = option_both (λ high low. 16 * high + low) (hex_digit_value h) (hex_digit_value l)

-- the bytes of a text, read from its front
abbrev read_pairs : List ℕ → Option (List ℕ)
read_pairs [] = None
read_pairs (h ∷ []) = None
read_pairs (h ∷ l ∷ []) = before (pair h l) (Some [])
read_pairs (h ∷ l ∷ s ∷ rest) = cond (s == colon) (before (pair h l) (read_pairs rest)) None

before-None : (byte : Option ℕ) → before byte None ≡ None
before-None None = refl
before-None (Some b) = refl

pair-colon_first : (h l : ℕ) → (h == colon) ≡ true → pair h l ≡ None
pair-colon_first h l e = subst (λ x. pair x l ≡ None) (sym (eqb-true h colon e)) refl

both-None : (x : Option ℕ) → option_both (λ high low. 16 * high + low) x None ≡ None
both-None None = refl
both-None (Some a) = refl

pair-colon_second : (h l : ℕ) → (l == colon) ≡ true → pair h l ≡ None
pair-colon_second h l e = subst (λ x. pair h x ≡ None) (sym (eqb-true l colon e)) (both-None (hex_digit_value h))

-- one more byte before the parts of a list that is split at colons
abbrev cut : Bool → ℕ → List (List ℕ) → List (List ℕ)
cut b x parts = cond b ([] ∷ parts) (onto_first x parts)

split_one : (h : ℕ) (b : Bool) → bytes_of_pairs (cut b h ([] ∷ [])) ≡ None
split_one h true = refl
split_one h false = refl

split_two : (h l : ℕ) (a b : Bool) → (h == colon) ≡ a → (l == colon) ≡ b
    → bytes_of_pairs (cut a h (cut b l ([] ∷ []))) ≡ before (pair h l) (Some [])
split_two h l true b p q = ap (λ x. before x (Some [])) (sym (pair-colon_first h l p))
split_two h l false true p q = ap (λ x. before x (Some [])) (sym (pair-colon_second h l q))
split_two h l false false p q = refl

cond-None : (c : Bool) (x : Option (List ℕ)) → None ≡ x → None ≡ cond c x None
cond-None true x e = e
cond-None false x e = refl

split_three : (h l s : ℕ) (a b c : Bool) → (h == colon) ≡ a → (l == colon) ≡ b → (parts : List (List ℕ))
    → bytes_of_pairs (cut a h (cut b l (cut c s parts))) ≡ cond c (before (pair h l) (bytes_of_pairs parts)) None
split_three h l s true b c p q parts =
    cond-None c _ (ap (λ x. before x (bytes_of_pairs parts)) (sym (pair-colon_first h l p)))
split_three h l s false true c p q parts =
    cond-None c _ (ap (λ x. before x (bytes_of_pairs parts)) (sym (pair-colon_second h l q)))
split_three h l s false false true p q parts = refl
split_three h l s false false false p q [] = refl
split_three h l s false false false p q (part ∷ parts) = refl

-- the parts between colons are the pairs
pub bytes_of_pairs-split : (text : List ℕ) → bytes_of_pairs (slice_split (λ b. b == colon) text) ≡ read_pairs text
bytes_of_pairs-split [] = refl
bytes_of_pairs-split (h ∷ []) = split_one h (h == colon)
bytes_of_pairs-split (h ∷ l ∷ []) = split_two h l (h == colon) (l == colon) refl refl
bytes_of_pairs-split (h ∷ l ∷ s ∷ rest) =
    split_three h l s (h == colon) (l == colon) (s == colon) refl refl (slice_split (λ b. b == colon) rest)
    ∙ ap (λ x. cond (s == colon) (before (pair h l) x) None) (bytes_of_pairs-split rest)

-- a text of n pairs has 3 n - 1 bytes, and each third of them is a colon
pub record IsSpaced (text bytes : List ℕ) : Type 0 where
  pub long : length text + 1 ≡ 3 * length bytes
  pub colons : (k : ℕ) → k + 1 < length bytes → get_or text (3 * k + 2) 0 ≡ colon

spaced_one : (h l : ℕ) (x : Option ℕ) → IfSome (before x (Some [])) (IsSpaced (h ∷ l ∷ []))
spaced_one h l None = tt
spaced_one h l (Some b) = record { long = refl; colons = λ k lt. absurd (omega arith) }

colons_more : (h l s b : ℕ) (rest bytes : List ℕ) → s ≡ colon → IsSpaced rest bytes
    → (k : ℕ) → k + 1 < length (b ∷ bytes) → get_or (h ∷ l ∷ s ∷ rest) (3 * k + 2) 0 ≡ colon
colons_more h l s b rest bytes e spaced zero lt = e
colons_more h l s b rest bytes e spaced (suc k) lt =
    let same : 3 * suc k + 2 ≡ suc (suc (suc (3 * k + 2))) = omega arith in
    let less : k + 1 < length bytes = omega arith in
    subst (λ i. get_or (h ∷ l ∷ s ∷ rest) i 0 ≡ colon) (sym same) (spaced.colons k less)

spaced_more : (h l s : ℕ) (rest : List ℕ) (c : Bool) (x : Option ℕ) (y : Option (List ℕ)) → (s == colon) ≡ c
    → IfSome y (IsSpaced rest) → IfSome (cond c (before x y) None) (IsSpaced (h ∷ l ∷ s ∷ rest))
spaced_more h l s rest false x y e spaced = tt
spaced_more h l s rest true None y e spaced = tt
spaced_more h l s rest true (Some b) None e spaced = tt
spaced_more h l s rest true (Some b) (Some bytes) e spaced = record {
  long = let more = spaced.long in omega arith;
  colons = colons_more h l s b rest bytes (eqb-true s colon e) spaced;
}

read_pairs-spaced : (text : List ℕ) → IfSome (read_pairs text) (IsSpaced text)
read_pairs-spaced [] = tt
read_pairs-spaced (h ∷ []) = tt
read_pairs-spaced (h ∷ l ∷ []) = spaced_one h l (pair h l)
read_pairs-spaced (h ∷ l ∷ s ∷ rest) =
    spaced_more h l s rest (s == colon) (pair h l) (read_pairs rest) refl (read_pairs-spaced rest)

-- a text of the length and with the colons of six pairs
pub record HasColons (text : List ℕ) : Type 0 where
  pub long : length text ≡ 17
  pub colon_2 : get_or text 2 0 ≡ 58
  pub colon_5 : get_or text 5 0 ≡ 58
  pub colon_8 : get_or text 8 0 ≡ 58
  pub colon_11 : get_or text 11 0 ≡ 58
  pub colon_14 : get_or text 14 0 ≡ 58

six_spaced : (text bytes : List ℕ) → IsSpaced text bytes → (length bytes == 6) ≡ true → HasColons text
six_spaced text bytes spaced e =
    let six : length bytes ≡ 6 = eqb-true (length bytes) 6 e in
    let more = spaced.long in record {
      long = omega arith;
      colon_2 = spaced.colons 0 (omega arith);
      colon_5 = spaced.colons 1 (omega arith);
      colon_8 = spaced.colons 2 (omega arith);
      colon_11 = spaced.colons 3 (omega arith);
      colon_14 = spaced.colons 4 (omega arith);
    }

-- these bytes as an address
abbrev pub mac_from : List ℕ → Mac
mac_from bytes = record { 0 = bytes }

no_six : (text bytes : List ℕ) (b : Bool) → (length bytes == 6) ≡ b → IsSpaced text bytes → (HasColons text → ⊥)
    → None ≡ cond b (Some (mac_from bytes)) None
no_six text bytes false e spaced not_so = refl
no_six text bytes true e spaced not_so = absurd (not_so (six_spaced text bytes spaced e))

no_mac : (text : List ℕ) (x : Option (List ℕ)) → IfSome x (IsSpaced text) → (HasColons text → ⊥) → None ≡ option_and_then mac_of_bytes x
no_mac text None spaced not_so = refl
no_mac text (Some bytes) spaced not_so = no_six text bytes (length bytes == 6) refl spaced not_so

-- a text that isn't spaced so spells no address
pub mac_of_text-not_spaced : (text : List ℕ) → (HasColons text → ⊥) → None ≡ mac_of_text text
mac_of_text-not_spaced text not_so =
    no_mac text (read_pairs text) (read_pairs-spaced text) not_so
    ∙ ap (option_and_then mac_of_bytes) (sym (bytes_of_pairs-split text))

decode-pair : (h l i : ℕ) (x y : Option ℕ) (r : Result (List ℕ) FromHexError)
    → result_ok (((digit_or_error h i x >>= λ a. digit_or_error l (i + 1) y >>= λ b. Ok (a * 16 + b)) >>= λ byte. r >>= λ bytes. Ok (byte ∷ bytes)))
    ≡ before (option_both (λ high low. 16 * high + low) x y) (result_ok r)
decode-pair h l i None y r = refl
decode-pair h l i (Some a) None r = refl
decode-pair h l i (Some a) (Some b) (Ok bytes) = ap (λ n. Some (n ∷ bytes)) (omega arith)
decode-pair h l i (Some a) (Some b) (Err e) = refl

six_pairs : (p q r s t u : Option ℕ) →
    let all = before p (before q (before r (before s (before t (before u (Some [])))))) in
    option_map mac_from all ≡ option_and_then mac_of_bytes all
six_pairs None q r s t u = refl
six_pairs (Some a) None r s t u = refl
six_pairs (Some a) (Some b) None s t u = refl
six_pairs (Some a) (Some b) (Some c) None t u = refl
six_pairs (Some a) (Some b) (Some c) (Some d) None u = refl
six_pairs (Some a) (Some b) (Some c) (Some d) (Some e) None = refl
six_pairs (Some a) (Some b) (Some c) (Some d) (Some e) (Some f) = refl

-- the bytes of digits, without their colons
decode-pairs : (h l i : ℕ) (digits : List ℕ) → result_ok (decode_pairs i (h ∷ l ∷ digits)) ≡ before (pair h l) (result_ok (decode_pairs (i + 2) digits))
unfolding decode_pairs
decode-pairs h l i digits = decode-pair h l i (hex_digit_value h) (hex_digit_value l) (decode_pairs (i + 2) digits)

decode_six : (a b c d e f g h i j k l : ℕ) → result_ok (decode_pairs 0 (a ∷ b ∷ c ∷ d ∷ e ∷ f ∷ g ∷ h ∷ i ∷ j ∷ k ∷ l ∷ []))
    ≡ before (pair a b) (before (pair c d) (before (pair e f) (before (pair g h) (before (pair i j) (before (pair k l) (Some []))))))
unfolding decode_pairs
decode_six a b c d e f g h i j k l =
    decode-pairs a b 0 (c ∷ d ∷ e ∷ f ∷ g ∷ h ∷ i ∷ j ∷ k ∷ l ∷ [])
    ∙ ap (before (pair a b)) (decode-pairs c d 2 (e ∷ f ∷ g ∷ h ∷ i ∷ j ∷ k ∷ l ∷ [])
    ∙ ap (before (pair c d)) (decode-pairs e f 4 (g ∷ h ∷ i ∷ j ∷ k ∷ l ∷ [])
    ∙ ap (before (pair e f)) (decode-pairs g h 6 (i ∷ j ∷ k ∷ l ∷ [])
    ∙ ap (before (pair g h)) (decode-pairs i j 8 (k ∷ l ∷ [])
    ∙ ap (before (pair i j)) (decode-pairs k l 10 [])))))

-- the digits of a text, without its colons
abbrev pub digits : List ℕ → List ℕ
digits t = get_or t 0 0 ∷ get_or t 1 0 ∷ get_or t 3 0 ∷ get_or t 4 0 ∷ get_or t 6 0 ∷ get_or t 7 0
    ∷ get_or t 9 0 ∷ get_or t 10 0 ∷ get_or t 12 0 ∷ get_or t 13 0 ∷ get_or t 15 0 ∷ get_or t 16 0 ∷ []

-- a text that is spaced so spells what its digits decode to
pub mac_of_text-spaced : (text : List ℕ) → HasColons text
    → option_map mac_from (result_ok (decode_pairs 0 (digits text))) ≡ mac_of_text text
unfolding decode_pairs
mac_of_text-spaced text spaced =
    let at = λ (k : ℕ). get_or text k 0 in
    let from_15 : HasBytesAt text 15 (at 15 ∷ at 16 ∷ []) = (refl, (refl, tt)) in
    let from_12 : HasBytesAt text 12 (at 12 ∷ at 13 ∷ 58 ∷ at 15 ∷ at 16 ∷ []) = (refl, (refl, (spaced.colon_14, from_15))) in
    let from_9 : HasBytesAt text 9 (at 9 ∷ at 10 ∷ 58 ∷ at 12 ∷ at 13 ∷ 58 ∷ at 15 ∷ at 16 ∷ []) = (refl, (refl, (spaced.colon_11, from_12))) in
    let from_6 : HasBytesAt text 6 (at 6 ∷ at 7 ∷ 58 ∷ at 9 ∷ at 10 ∷ 58 ∷ at 12 ∷ at 13 ∷ 58 ∷ at 15 ∷ at 16 ∷ []) = (refl, (refl, (spaced.colon_8, from_9))) in
    let from_3 : HasBytesAt text 3 (at 3 ∷ at 4 ∷ 58 ∷ at 6 ∷ at 7 ∷ 58 ∷ at 9 ∷ at 10 ∷ 58 ∷ at 12 ∷ at 13 ∷ 58 ∷ at 15 ∷ at 16 ∷ []) = (refl, (refl, (spaced.colon_5, from_6))) in
    let same : text ≡ at 0 ∷ at 1 ∷ 58 ∷ at 3 ∷ at 4 ∷ 58 ∷ at 6 ∷ at 7 ∷ 58 ∷ at 9 ∷ at 10 ∷ 58 ∷ at 12 ∷ at 13 ∷ 58 ∷ at 15 ∷ at 16 ∷ [] =
    text_from_reads text (at 0 ∷ at 1 ∷ 58 ∷ at 3 ∷ at 4 ∷ 58 ∷ at 6 ∷ at 7 ∷ 58 ∷ at 9 ∷ at 10 ∷ 58 ∷ at 12 ∷ at 13 ∷ 58 ∷ at 15 ∷ at 16 ∷ []) spaced.long (refl, (refl, (spaced.colon_2, from_3))) in
    ap (option_map mac_from) (decode_six (at 0) (at 1) (at 3) (at 4) (at 6) (at 7) (at 9) (at 10) (at 12) (at 13) (at 15) (at 16))
    ∙ six_pairs (pair (at 0) (at 1)) (pair (at 3) (at 4)) (pair (at 6) (at 7)) (pair (at 9) (at 10)) (pair (at 12) (at 13)) (pair (at 15) (at 16))
    ∙ ap (option_and_then mac_of_bytes) (sym (bytes_of_pairs-split text ∙ ap read_pairs same))
