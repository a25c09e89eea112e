-- How the gateways of a LAN are read, one word after another.
use Rattle.std.proofs.Common.{◌≡◌, ℕ, zero, suc, ◌<◌, ◌≤◌, Bool, true, false, ◌&&◌, List, [], ◌∷◌, ◌++◌, length, take, Ok, refl, ap, sym, arith, ◌∙◌}
use Rattle.std.specs.Prelude.{map, not, nat_lt, if◌then◌else◌}
use Rattle.std.specs.List.{list_all}
use Rattle.std.proofs.Common.{append_assoc, length-append}
use Rattle.std.proofs.lemmas.List.{map-append, length-map, take-append-le, take_all}
use Rattle.std.proofs.lemmas.Bool.{lt-ltb, and_parts, and_from, and_left, and_right}
use Rattle.mesh_model.specs.declared.line_form.Command.{Command}
use Rattle.mesh_model.specs.declared.ending.Refusal.TheVariants.{BadName, ExtraWord}
use Rattle.mesh_model.specs.Scenario.NetForms.{the_gateways, gateway_limit}
use Rattle.mesh_model.specs.Scenario.Readings.{Reading, refused}
use Rattle.mesh_model.specs.Scenario.Terms.{is_name}
use Rattle.mesh_model.specs.Scenario.Words.{Word}

-- whether a word is a name
abbrev pub is_name_word : Word → Bool
is_name_word word = is_name word.word

all-push : (front : List Word) (word : Word) → list_all is_name_word front ≡ true → is_name word.word ≡ true
    → list_all is_name_word (front ++ word ∷ []) ≡ true
all-push [] word all valid = ap (λ b. b && true) valid
all-push (first ∷ front) word all valid =
    let parts = and_parts (is_name_word first) (list_all is_name_word front) all in
    and_from (is_name_word first) _ parts.0 (all-push front word parts.1 valid)

-- a word that is no name among the first n
all-spoilt : (n : ℕ) (front : List Word) (word : Word) (left : List Word) → length front < n → is_name word.word ≡ false
    → list_all is_name_word (take n (front ++ word ∷ left)) ≡ false
all-spoilt zero front word left below bad = absurd (omega arith)
all-spoilt (suc n) [] word left below bad = and_left (is_name_word word) _ bad
all-spoilt (suc n) (first ∷ front) word left below bad =
    and_right (is_name_word first) _ (all-spoilt n front word left (omega arith) bad)

-- the names are those of the words before these, at most sixteen
pub record AreTaken (whole : List Word) (names : List (List ℕ)) (left : List Word) : Type 0 where
  pub front : List Word
  pub joined : whole ≡ front ++ left
  pub named : names ≡ map (λ word. word.word) front
  pub valid : list_all is_name_word front ≡ true
  pub few : length names ≤ 16

-- one name more is taken
pub AreTaken-more : (whole : List Word) (names more : List (List ℕ)) (old left : List Word) (word : Word)
    → AreTaken whole names old → old ≡ word ∷ left → is_name word.word ≡ true → more ≡ names ++ word.word ∷ []
    → length names < 16 → AreTaken whole more left
AreTaken-more whole names more old left word taken is valid longer under = record {
  front = taken.front ++ word ∷ [];
  joined = taken.joined ∙ ap (λ ws. taken.front ++ ws) is ∙ sym (append_assoc taken.front (word ∷ []) left);
  named = longer ∙ ap (λ ns. ns ++ word.word ∷ []) taken.named
      ∙ sym (map-append (λ (w : Word). w.word) taken.front (word ∷ []));
  valid = all-push taken.front word taken.valid valid;
  few = omega (arith, ap length longer, length-append names (word.word ∷ []));
}

-- what is said of the words where there is one
abbrev judged : (List (List ℕ) → Command) → List Word → Reading
judged command words =
    if not (list_all is_name_word (take gateway_limit words)) then refused BadName
    else if nat_lt gateway_limit (length words) then refused ExtraWord
    else Ok (command (map (λ word. word.word) words))

judged-some : (command : List (List ℕ) → Command) (front : List Word) (word : Word) (left : List Word)
    → the_gateways command (front ++ word ∷ left) ≡ judged command (front ++ word ∷ left)
judged-some command [] word left = refl
judged-some command (first ∷ front) word left = refl

-- the words from the beginning on
whole_is : (whole : List Word) (names : List (List ℕ)) (old left : List Word) (word : Word)
    → (taken : AreTaken whole names old) → old ≡ word ∷ left → whole ≡ taken.front ++ word ∷ left
whole_is whole names old left word taken is = taken.joined ∙ ap (λ ws. taken.front ++ ws) is

front_length : (whole : List Word) (names : List (List ℕ)) (old : List Word) (taken : AreTaken whole names old)
    → length taken.front ≡ length names
front_length whole names old taken = sym (ap length taken.named ∙ length-map taken.front (λ (w : Word). w.word))

-- a word behind sixteen names is one too many
pub the_gateways-extra : (whole : List Word) (names : List (List ℕ)) (old left : List Word) (word : Word)
    → AreTaken whole names old → old ≡ word ∷ left → length names ≡ 16
    → (command : List (List ℕ) → Command) → the_gateways command whole ≡ refused ExtraWord
the_gateways-extra whole names old left word taken is full command =
    let sixteen : length taken.front ≡ 16 = front_length whole names old taken ∙ full in
    let fits : 16 ≤ length taken.front = omega arith in
    let all : list_all is_name_word (take 16 (taken.front ++ word ∷ left)) ≡ true =
    ap (list_all is_name_word) (take-append-le 16 taken.front (word ∷ left) fits ∙ take_all 16 taken.front (omega arith))
    ∙ taken.valid in
    let many : nat_lt 16 (length (taken.front ++ word ∷ left)) ≡ true =
    lt-ltb 16 _ (omega (arith, length-append taken.front (word ∷ left))) in
    ap (the_gateways command) (whole_is whole names old left word taken is)
    ∙ judged-some command taken.front word left
    ∙ rw (all, many) refl

-- a word that is no name among the first sixteen
pub the_gateways-bad : (whole : List Word) (names : List (List ℕ)) (old left : List Word) (word : Word)
    → AreTaken whole names old → old ≡ word ∷ left → length names < 16 → is_name word.word ≡ false
    → (command : List (List ℕ) → Command) → the_gateways command whole ≡ refused BadName
the_gateways-bad whole names old left word taken is under bad command =
    let room : length taken.front < 16 = omega (arith, front_length whole names old taken) in
    ap (the_gateways command) (whole_is whole names old left word taken is)
    ∙ judged-some command taken.front word left
    ∙ rw (all-spoilt 16 taken.front word left room bad) refl
