-- A text in JSON has no newline: one in a string is escaped.
use Rattle.std.proofs.Common.{◌≡◌, ℕ, ◌+◌, ◌/◌, ◌%◌, ◌||◌, Bool, true, false, cond, nat_lt, List, [], ◌∷◌, ◌++◌, map, Option, Some, None, option_map, refl, sym, subst, arith}
use Rattle.std.specs.Prelude.{◌==◌, codes, decimal, filter_map}
use Rattle.std.specs.Char.{digit_char}
use Rattle.std.specs.List.{AllByRecursion, cons_option}
use Rattle.std.proofs.lemmas.Bool.{false≢true, ne_eqb}
use Rattle.json.specs.Print.{escape, escape_byte, escape_letter, quoted}
use Rattle.serde_json.specs.Data.{Data, Members, member, no_members, number, string, unsigned}
use Rattle.serde_json.specs.View.{items_of}
use Rattle.serde_json.specs.Written.{comma_if, compact_text, items_text, members_text}
use Rattle.mesh_base.specs.Address.{mac_text}
use Rattle.mesh_base.specs.declared.address.Mac.{Mac}
use Rattle.mesh_base.specs.declared.client.Key.{Key}
use Rattle.mesh_model.specs.declared.service.Fact.{Fact}
use Rattle.mesh_model.specs.Packets.Pictures.{Picture, picture_of_bytes}
use Rattle.mesh_model.specs.Scenario.Lines.{newline}
use Rattle.mesh_model.specs.Services.Pictures.{picture_type}
use Rattle.mesh_model.specs.Text.Pictures.{client_data, fact_data, list_data, neighbour_data, network_header, network_table_text, network_text, picture_data}
use Rattle.mesh_model.specs.Text.Tables.{vid_text}
use Rattle.mesh_laws.specs.Cuts.{IsUnbroken}
use Rattle.mesh_lines.specs.LineWords.{of_other}
use Rattle.mesh_lines.proofs.LineParts.{Told, said, told, unbroken_both, unbroken_word}
use Rattle.mesh_lines.proofs.Words.{decimal_word}

-- ---- strings
either_other : (b : Bool) (m n : ℕ) → (m == newline) ≡ false → (n == newline) ≡ false → (cond b m n == newline) ≡ false
either_other true m n p q = p
either_other false m n p q = q

either_unbroken : (b : Bool) (x y : List ℕ) → IsUnbroken x → IsUnbroken y → IsUnbroken (cond b x y)
either_unbroken true x y p q = p
either_unbroken false x y p q = q

letter_other : (x : ℕ) → (escape_letter x == newline) ≡ false
letter_other x = go ((x == 34) || (x == 92)) refl
  where
    rest : ℕ
    rest = cond (x == 8) 98 (cond (x == 12) 102 (cond (x == 10) 110 (cond (x == 13) 114 (cond (x == 9) 116 0))))

    go : (b : Bool) → ((x == 34) || (x == 92)) ≡ b → (cond b x rest == newline) ≡ false
    go true is = ne_eqb x 10 (λ e. false≢true (subst (λ n. ((n == 34) || (n == 92)) ≡ true) e is))
    go false is = either_other (x == 8) 98 (cond (x == 12) 102 (cond (x == 10) 110 (cond (x == 13) 114 (cond (x == 9) 116 0)))) refl
        (either_other (x == 12) 102 (cond (x == 10) 110 (cond (x == 13) 114 (cond (x == 9) 116 0))) refl
        (either_other (x == 10) 110 (cond (x == 13) 114 (cond (x == 9) 116 0)) refl
        (either_other (x == 13) 114 (cond (x == 9) 116 0) refl
        (either_other (x == 9) 116 0 refl refl))))

digit_other : (d : ℕ) → (digit_char d == newline) ≡ false
digit_other d = either_other (nat_lt d 10) (48 + d) (87 + d) (ne_eqb (48 + d) 10 (λ e. omega (arith, e))) (ne_eqb (87 + d) 10 (λ e. omega (arith, e)))

byte_unbroken : (x : ℕ) → IsUnbroken (escape_byte x)
unfolding escape_byte
byte_unbroken x = either_unbroken (nat_lt 0 (escape_letter x)) (92 ∷ escape_letter x ∷ [])
    (cond (nat_lt x 32) (92 ∷ 117 ∷ 48 ∷ 48 ∷ digit_char (x / 16) ∷ digit_char (x % 16) ∷ []) (x ∷ []))
    (refl, (letter_other x, tt)) (go (nat_lt x 32) refl)
  where
    go : (b : Bool) → nat_lt x 32 ≡ b → IsUnbroken (cond b (92 ∷ 117 ∷ 48 ∷ 48 ∷ digit_char (x / 16) ∷ digit_char (x % 16) ∷ []) (x ∷ []))
    go true is = (refl, (refl, (refl, (refl, (digit_other (x / 16), (digit_other (x % 16), tt))))))
    go false is = (ne_eqb x 10 (λ e. false≢true (sym (subst (λ n. nat_lt n 32 ≡ false) e is))), tt)

escaped : (s : List ℕ) → IsUnbroken (escape s)
escaped [] = tt
escaped (x ∷ s) = unbroken_both (escape_byte x) (escape s) (byte_unbroken x) (escaped s)

quoted_unbroken : (s : List ℕ) → IsUnbroken (quoted s)
quoted_unbroken s = (refl, unbroken_both (escape s) (34 ∷ []) (escaped s) (refl, tt))

-- ---- lists and objects
-- the text of a value has no newline
abbrev IsPlainData : Data → Type 0
IsPlainData value = IsUnbroken (compact_text value)

comma : (later : Bool) → IsUnbroken (comma_if later)
comma true = (refl, tt)
comma false = tt

items_unbroken : (later : Bool) (ds : List Data) → AllByRecursion IsPlainData ds → IsUnbroken (items_text later (items_of ds))
items_unbroken later [] all = (refl, tt)
items_unbroken later (d ∷ ds) all =
    unbroken_both (comma_if later) (compact_text d ++ items_text true (items_of ds)) (comma later)
    (unbroken_both (compact_text d) (items_text true (items_of ds)) all.0 (items_unbroken true ds all.1))

list_plain : (ds : List Data) → AllByRecursion IsPlainData ds → IsPlainData (list_data ds)
list_plain ds all = (refl, items_unbroken false ds all)

member_unbroken : (later : Bool) (k : List ℕ) (d : Data) (ms : Members) → IsPlainData d → IsUnbroken (members_text true ms) → IsUnbroken (members_text later (member k d ms))
member_unbroken later k d ms one more =
    unbroken_both (comma_if later) (quoted k ++ 58 ∷ (compact_text d ++ members_text true ms)) (comma later)
    (unbroken_both (quoted k) (58 ∷ (compact_text d ++ members_text true ms)) (quoted_unbroken k)
    (refl, unbroken_both (compact_text d) (members_text true ms) one more))

each_plain : {X : Type 0} (f : X → Data) → ((x : X) → IsPlainData (f x)) → (xs : List X) → AllByRecursion IsPlainData (map f xs)
each_plain f plain [] = tt
each_plain f plain (x ∷ xs) = (plain x, each_plain f plain xs)

-- ---- pictures
client_plain : (key : Key) → IsPlainData (client_data key)
client_plain key = quoted_unbroken (mac_text key.mac ++ codes "/" ++ vid_text key.vid)

neighbour_plain : (neighbour : Mac × ℕ) → IsPlainData (neighbour_data neighbour)
neighbour_plain neighbour = (
  refl,
  member_unbroken false (codes "metric") (number (unsigned neighbour.1)) (member (codes "router") (string (mac_text neighbour.0)) no_members) (unbroken_word (decimal neighbour.1) (decimal_word neighbour.1))
      (member_unbroken true (codes "router") (string (mac_text neighbour.0)) no_members (quoted_unbroken (mac_text neighbour.0)) (refl, tt)),
)

picture_plain : (node : Mac) (picture : Picture) → IsPlainData (picture_data node picture)
picture_plain node picture =
    let clients = list_data (map client_data picture.clients) in
    let neighbours = list_data (map neighbour_data picture.neighbours) in
    let last = member (codes "node") (string (mac_text node)) no_members in (
      refl,
      member_unbroken false (codes "clients") clients (member (codes "neighbors") neighbours last) (list_plain (map client_data picture.clients) (each_plain client_data client_plain picture.clients))
          (member_unbroken true (codes "neighbors") neighbours last (list_plain (map neighbour_data picture.neighbours) (each_plain neighbour_data neighbour_plain picture.neighbours))
          (member_unbroken true (codes "node") (string (mac_text node)) no_members (quoted_unbroken (mac_text node)) (refl, tt))),
    )

facts_plain : (facts : List Fact) → AllByRecursion IsPlainData (filter_map fact_data facts)
facts_plain [] = tt
facts_plain (fact ∷ facts) = go (fact.type_no == picture_type) (picture_of_bytes fact.bytes) (facts_plain facts)
  where
    go : (b : Bool) (o : Option Picture) → AllByRecursion IsPlainData (filter_map fact_data facts) → AllByRecursion IsPlainData (cons_option (cond b (option_map (picture_data fact.source) o) None) (filter_map fact_data facts))
    go false o more = more
    go true None more = more
    go true (Some picture) more = (picture_plain fact.source picture, more)

network_unbroken : (facts : List Fact) → IsUnbroken (network_text facts)
unfolding network_text
network_unbroken facts = list_plain (filter_map fact_data facts) (facts_plain facts)

-- the line of the network
pub network_told : (name : List ℕ) (facts : List Fact) → IsUnbroken name → Told of_other (network_table_text name facts)
network_told name facts plain = told of_other (network_header name ∷ network_text facts ∷ [])
    (unbroken_both (codes "vis " ++ name) (codes " ") (unbroken_both (codes "vis ") name (said (codes "vis ") refl) plain) (said (codes " ") refl), (network_unbroken facts, tt)) refl
