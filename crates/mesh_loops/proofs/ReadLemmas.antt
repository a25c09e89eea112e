-- What is printed of a route is read as it: its words are those that were printed, and each says what it was printed of.
use Rattle.std.proofs.Common.{◌≡◌, ◌+◌, ◌*◌, ◌-◌, ◌/◌, ◌%◌, ◌^◌, ◌<◌, ◌≤◌, leb, ℕ, zero, suc, get_or, Bool, true, false, cond, ◌||◌, ◌&&◌, not, List, [], ◌∷◌, ◌++◌, length, fold, map, Option, Some, None, IfSome, option_and_then, option_map, refl, sym, ap, ap₂, ◌∙◌, arith}
use Rattle.std.specs.Prelude.{◌==◌, bytes_eq, codes, decimal, slice_index, take_while}
use lib.Utf8.{encode}
use Rattle.std.specs.Char.{is_ascii_digit}
use Rattle.std.specs.List.{AllByRecursion, list_all, onto_first, slice_split}
use Rattle.std.specs.Str.Parse.{AllDigits}
use Rattle.std.proofs.lemmas.Bool.{le-leb, leb-true, ne_eqb}
use Rattle.std.proofs.lemmas.Fmt.{decimal_is_IsNumeral, digits_decimal, digits_value-decimal}
use Rattle.std.proofs.lemmas.List.{append-nil, append_cancel_right}
use Rattle.std.proofs.lemmas.List.Sums.{take_while-cons}
use Rattle.std.proofs.lemmas.List.Splits.{slice_split-cons_no, slice_split-cons_yes}
use Rattle.std.proofs.lemmas.Str.Parse.{FoldsDigits, IsDigitsTest, IsNumeralModel, digit_from_value, numerals_by_fold}
use Rattle.hex.proofs.HexLemmas.{IsDigits-lower_digits}
use Rattle.hex.specs.Hex.{lower_digits}
use Rattle.mesh_base.specs.Address.{bytes_of_pairs, byte_of_pair, colon, hex_of_byte, mac_of_bytes, mac_of_text, mac_text, option_both, pairs_text}
use Rattle.mesh_base.specs.declared.address.Mac.{Mac}
use Rattle.mesh_model.specs.declared.route_line.RouteLine.{RouteLine}
use Rattle.mesh_model.specs.declared.route_line.RouteReading.TheVariants.{Route}
use Rattle.mesh_model.specs.Loops.RouteLines.{moment_of, next_named, reading_of_words, route_of_line}
use Rattle.mesh_model.specs.Scenario.LinkOptions.{number_within}
use Rattle.mesh_model.specs.Scenario.Lines.{newline}
use Rattle.mesh_model.specs.Scenario.NetForms.{time_limit}
use Rattle.mesh_model.specs.Scenario.Terms.{digits_value, number_of}
use Rattle.mesh_model.specs.Scenario.Words.{Word, is_separator, line_words, space, word_at, word_tails}
use Rattle.mesh_model.specs.Text.Routes.{next_text, route_text}
use Rattle.mesh_loops.specs.Laws.{CanBeTold, IsAddress, RoutesComeBack}
use Rattle.mesh_loops.proofs.HeadLemmas.{both, unless}

-- ---- words
-- no byte of a word stands between words
abbrev IsPlain : List ℕ → Type 0
IsPlain word = AllByRecursion (λ b. is_separator b ≡ false) word

abbrev is_in_word : ℕ → Bool
is_in_word b = not (is_separator b)

abbrev as_word : List ℕ → List ℕ → Word
as_word word text = record { word = word; text = text }

module _ (rest : List ℕ) where
  -- the words behind a word begin behind the space
  skipped : (w : List ℕ) → IsPlain w → word_tails true (w ++ space ∷ rest) ≡ word_tails false rest
  skipped [] plain = refl
  skipped (b ∷ w) plain = ap (λ c. cond c (word_tails false (w ++ space ∷ rest)) (word_tails true (w ++ space ∷ rest))) plain.0 ∙ skipped w plain.1

  taken : (w : List ℕ) → IsPlain w → take_while is_in_word (w ++ space ∷ rest) ≡ w
  taken [] plain = take_while-cons is_in_word space rest
  taken (b ∷ w) plain =
      take_while-cons is_in_word b (w ++ space ∷ rest)
      ∙ ap (λ c. cond (not c) (b ∷ take_while is_in_word (w ++ space ∷ rest)) []) plain.0
      ∙ ap (λ ws. b ∷ ws) (taken w plain.1)

  -- a word before a space is the first
  pub first_word : (w : List ℕ) → IsPlain w → 0 < length w → line_words (w ++ space ∷ rest) ≡ as_word w (w ++ space ∷ rest) ∷ line_words rest
  first_word [] plain some = absurd (omega arith)
  first_word (b ∷ w) plain some =
      let whole = b ∷ (w ++ space ∷ rest) in
      ap (λ c. map word_at (cond c (word_tails false (w ++ space ∷ rest)) (whole ∷ word_tails true (w ++ space ∷ rest)))) plain.0
      ∙ ap₂ (λ word tails. as_word word whole ∷ map word_at tails) (taken (b ∷ w) plain) (skipped w plain.1)

ended : (w : List ℕ) → IsPlain w → word_tails true w ≡ []
ended [] plain = refl
ended (b ∷ w) plain = ap (λ c. cond c (word_tails false w) (word_tails true w)) plain.0 ∙ ended w plain.1

all_taken : (w : List ℕ) → IsPlain w → take_while is_in_word w ≡ w
all_taken [] plain = refl
all_taken (b ∷ w) plain = take_while-cons is_in_word b w ∙ ap (λ c. cond (not c) (b ∷ take_while is_in_word w) []) plain.0 ∙ ap (λ ws. b ∷ ws) (all_taken w plain.1)

-- a word alone is the only one
pub only_word : (w : List ℕ) → IsPlain w → 0 < length w → line_words w ≡ as_word w w ∷ []
only_word [] plain some = absurd (omega arith)
only_word (b ∷ w) plain some =
    ap (λ c. map word_at (cond c (word_tails false w) ((b ∷ w) ∷ word_tails true w))) plain.0
    ∙ ap₂ (λ word tails. as_word word (b ∷ w) ∷ map word_at tails) (all_taken (b ∷ w) plain) (ended w plain.1)

-- ---- numbers
digits_test : IsDigitsTest (λ ds. list_all is_ascii_digit ds ≡ true)
digits_test = record {
  empty = refl;
  parts = λ c cs e. let k = both (is_ascii_digit c) (list_all is_ascii_digit cs) e in let m = both (leb 48 c) (leb c 57) k.0 in ((leb-true 48 c m.0, leb-true c 57 m.1), k.1);
  more = λ c cs k e. ap₂ (λ a b. a && b) (ap₂ (λ a b. a && b) (le-leb 48 c k.0) (le-leb c 57 k.1)) e;
}

digits_fold : FoldsDigits (λ n ds. fold (λ value digit. 10 * value + (digit - 48)) n ds)
digits_fold = record {
  empty = λ n. refl;
  more = λ n c cs k. let e : 10 * n ≡ n * 10 = omega arith in ap (λ m. fold (λ value digit. 10 * value + (digit - 48)) (m + (c - 48)) cs) e;
}

numerals : IsNumeralModel (λ ds. list_all is_ascii_digit ds ≡ true) digits_value
numerals = numerals_by_fold (λ ds. list_all is_ascii_digit ds ≡ true) digits_test (λ n ds. fold (λ value digit. 10 * value + (digit - 48)) n ds) digits_fold

-- a number that was printed is read
pub number_read : (n : ℕ) → n < 2 ^ 64 → number_of (decimal n) ≡ Some n
number_read n small = go (decimal n) (decimal_is_IsNumeral n small).0.0 (digits_decimal numerals n small) (digits_value-decimal numerals n small)
  where
    go : (ds : List ℕ) → 0 < length ds → list_all is_ascii_digit ds ≡ true → digits_value ds ≡ n → number_of ds ≡ Some n
    go [] some all value = absurd (omega arith)
    go (d ∷ ds) some all value = ap (λ b. cond b (Some (digits_value (d ∷ ds))) None) all ∙ ap (λ m. Some m) value

not_between : (b : ℕ) → 45 ≤ b → is_separator b ≡ false
not_between b high = ap₂ (λ x y. x || y) (ne_eqb b 32 (λ e. omega (arith, e, high))) (ne_eqb b 9 (λ e. omega (arith, e, high)))

number_plain : (ds : List ℕ) → AllDigits 10 ds → IsPlain ds
number_plain [] all = tt
number_plain (d ∷ ds) all = let range = digit_from_value d all.0 in (not_between d (omega (arith, range.0)), number_plain ds all.1)

-- ---- addresses
-- each hex digit passes a test that all of them do
digit_passes : (p : ℕ → Bool) → list_all p lower_digits ≡ true → p 0 ≡ true → (i : ℕ) → p (slice_index lower_digits i) ≡ true
digit_passes p all past i = at lower_digits i all
  where
    at : (ds : List ℕ) (i : ℕ) → list_all p ds ≡ true → p (get_or ds i 0) ≡ true
    at [] i all = past
    at (d ∷ ds) zero all = (both (p d) (list_all p ds) all).0
    at (d ∷ ds) (suc i) all = at ds i (both (p d) (list_all p ds) all).1

digit_plain : (i : ℕ) → is_separator (slice_index lower_digits i) ≡ false
digit_plain i = unless (is_separator (slice_index lower_digits i)) (digit_passes (λ b. not (is_separator b)) refl refl i)

digit_no_colon : (i : ℕ) → (slice_index lower_digits i == colon) ≡ false
digit_no_colon i = unless (slice_index lower_digits i == colon) (digit_passes (λ b. not (b == colon)) refl refl i)

-- a pair that was printed is read
pair_read : (b : ℕ) → b < 2 ^ 8 → byte_of_pair (hex_of_byte b) ≡ Some b
pair_read b small =
    let whole : 16 * (b / 16) + b % 16 ≡ b = omega arith in
    ap₂ (λ h l. option_both (λ x y. 16 * x + y) h l) (IsDigits-lower_digits (b / 16) (omega (arith, small))) (IsDigits-lower_digits (b % 16) (omega arith))
    ∙ ap (λ n. Some n) whole

pairs_read : (bs : List ℕ) → AllByRecursion (λ b. b < 2 ^ 8) bs → bytes_of_pairs (map hex_of_byte bs) ≡ Some bs
pairs_read [] all = refl
pairs_read (b ∷ bs) all = ap₂ (λ x xs. option_both (λ y ys. y ∷ ys) x xs) (pair_read b all.0) (pairs_read bs all.1)

-- the pairs of an address that was printed are those of its bytes
abbrev is_colon : ℕ → Bool
is_colon b = b == colon

pairs_split : (b : ℕ) (bs : List ℕ) → slice_split is_colon (pairs_text (b ∷ bs)) ≡ map hex_of_byte (b ∷ bs)
pairs_split b [] =
    let high = slice_index lower_digits (b / 16) in
    let low = slice_index lower_digits (b % 16) in
    slice_split-cons_no is_colon high (low ∷ []) (digit_no_colon (b / 16)) ∙ ap (onto_first high) (slice_split-cons_no is_colon low [] (digit_no_colon (b % 16)))
pairs_split b (c ∷ bs) =
    let high = slice_index lower_digits (b / 16) in
    let low = slice_index lower_digits (b % 16) in
    let rest = pairs_text (c ∷ bs) in
    slice_split-cons_no is_colon high (low ∷ colon ∷ rest) (digit_no_colon (b / 16))
    ∙ ap (onto_first high) (slice_split-cons_no is_colon low (colon ∷ rest) (digit_no_colon (b % 16)))
    ∙ ap (λ parts. onto_first high (onto_first low parts)) (slice_split-cons_yes is_colon colon rest refl ∙ ap (λ parts. [] ∷ parts) (pairs_split c bs))

bytes_read : (bs : List ℕ) → length bs ≡ 6 → AllByRecursion (λ b. b < 2 ^ 8) bs → mac_of_text (pairs_text bs) ≡ Some (record { 0 = bs })
bytes_read [] six all = absurd (omega arith)
bytes_read (b ∷ bs) six all =
    ap (λ parts. option_and_then mac_of_bytes (bytes_of_pairs parts)) (pairs_split b bs)
    ∙ ap (option_and_then mac_of_bytes) (pairs_read (b ∷ bs) all)
    ∙ ap (λ n. cond (n == 6) (Some (record { 0 = b ∷ bs })) None) six

-- an address that was printed is read
pub address_read : (mac : Mac) → IsAddress mac → mac_of_text (mac_text mac) ≡ Some mac
address_read mac is = bytes_read mac.0 is.0 is.1

pairs_plain : (bs : List ℕ) → IsPlain (pairs_text bs)
pairs_plain [] = tt
pairs_plain (b ∷ []) = (digit_plain (b / 16), (digit_plain (b % 16), tt))
pairs_plain (b ∷ c ∷ bs) = (digit_plain (b / 16), (digit_plain (b % 16), (refl, pairs_plain (c ∷ bs))))

pairs_some : (bs : List ℕ) → length bs ≡ 6 → 0 < length (pairs_text bs)
pairs_some [] six = absurd (omega arith)
pairs_some (b ∷ []) six = omega arith
pairs_some (b ∷ c ∷ bs) six = omega arith

never : (b : Bool) → (b && false) ≡ false
never true = refl
never false = refl

pairs_no_dash : (bs : List ℕ) → length bs ≡ 6 → bytes_eq (pairs_text bs) (codes "-") ≡ false
unfolding encode
pairs_no_dash [] six = refl
pairs_no_dash (b ∷ []) six = never (slice_index lower_digits (b / 16) == 45)
pairs_no_dash (b ∷ c ∷ bs) six = never (slice_index lower_digits (b / 16) == 45)

-- ---- the next node
abbrev next_word : Option Mac → List ℕ
next_word None = codes "-"
next_word (Some next) = mac_text next

next_is : (next : Option Mac) → next_text next ++ [] ≡ space ∷ next_word next
unfolding encode
next_is None = refl
next_is (Some next) = ap (λ text. space ∷ text) (append-nil (mac_text next))

next_read : (next : Option Mac) → IfSome next IsAddress → next_named (next_word next) ≡ Some next
unfolding encode
next_read None is = refl
next_read (Some next) is =
    ap (λ b. cond b (Some None) (option_map (λ n. Some n) (mac_of_text (mac_text next)))) (pairs_no_dash next.0 is.0)
    ∙ ap (option_map (λ n. Some n)) (address_read next is)

next_plain : (next : Option Mac) → IsPlain (next_word next)
unfolding encode
next_plain None = (refl, tt)
next_plain (Some next) = pairs_plain next.0

next_some : (next : Option Mac) → IfSome next IsAddress → 0 < length (next_word next)
unfolding encode
next_some None is = omega arith
next_some (Some next) is = pairs_some next.0 is.0

-- ---- the line
abbrev said_of : RouteLine → List ℕ
said_of line =
    codes "route" ++ space ∷ (decimal line.moment ++ space ∷ (mac_text line.node ++ space ∷ (mac_text line.orig ++ space ∷ next_word line.next)))

text_is : (line : RouteLine) → route_text line ≡ said_of line ++ newline ∷ []
unfolding route_text encode
text_is line =
    ap (λ rest. (codes "route" ++ space ∷ (decimal line.moment ++ space ∷ (mac_text line.node ++ space ∷ (mac_text line.orig ++ rest)))) ++ newline ∷ []) (next_is line.next)

route_plain : IsPlain (codes "route")
unfolding encode
route_plain = (refl, (refl, (refl, (refl, (refl, tt)))))

route_some : 0 < length (codes "route")
unfolding encode
route_some = omega arith

-- a moment that was printed is read
moment_read : (moment : ℕ) → moment ≤ time_limit → moment_of (decimal moment) ≡ Some moment
moment_read moment within =
    ap (option_and_then (number_within 0 time_limit)) (number_read moment (omega (arith, within)))
    ∙ ap₂ (λ a b. cond (a && b) (Some moment) None) (le-leb 0 moment (omega arith)) (le-leb moment time_limit within)

-- the words of a route are read as it
words_read : (line : RouteLine) → CanBeTold line → (a b c d e : List ℕ)
    → reading_of_words (as_word (codes "route") a ∷ as_word (decimal line.moment) b ∷ as_word (mac_text line.node) c ∷ as_word (mac_text line.orig) d ∷ as_word (next_word line.next) e ∷ []) ≡ Route line
unfolding encode
words_read line can a b c d e =
    rw (moment_read line.moment can.moment, address_read line.node can.node, address_read line.orig can.orig, next_read line.next can.next) refl

said_read : (line : RouteLine) → CanBeTold line → route_of_line (said_of line) ≡ Route line
said_read line can =
    let m = decimal line.moment in
    let last = next_word line.next in
    let from_orig = mac_text line.orig ++ space ∷ last in
    let from_node = mac_text line.node ++ space ∷ from_orig in
    let from_moment = m ++ space ∷ from_node in
    let numeral = decimal_is_IsNumeral line.moment (omega (arith, can.moment)) in
    ap reading_of_words
    (first_word from_moment (codes "route") route_plain route_some
    ∙ ap (λ ws. as_word (codes "route") (codes "route" ++ space ∷ from_moment) ∷ ws)
    (first_word from_node m (number_plain m numeral.0.1) numeral.0.0
    ∙ ap (λ ws. as_word m from_moment ∷ ws)
    (first_word from_orig (mac_text line.node) (pairs_plain line.node.0) (pairs_some line.node.0 can.node.0)
    ∙ ap (λ ws. as_word (mac_text line.node) from_node ∷ ws)
    (first_word last (mac_text line.orig) (pairs_plain line.orig.0) (pairs_some line.orig.0 can.orig.0)
    ∙ ap (λ ws. as_word (mac_text line.orig) from_orig ∷ ws) (only_word last (next_plain line.next) (next_some line.next can.next))))))
    ∙ words_read line can (codes "route" ++ space ∷ from_moment) from_moment from_node from_orig last

pub routes_come_back : RoutesComeBack
routes_come_back line said can is =
    ap route_of_line (append_cancel_right said (said_of line) (newline ∷ []) (sym is ∙ text_is line)) ∙ said_read line can
