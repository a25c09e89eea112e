-- The names that a line gives are words, and its text has no newline.
use Rattle.std.proofs.Common.{◌≡◌, ◌&&◌, ◌||◌, ℕ, Bool, true, false, cond, nat_le, List, [], ◌∷◌, length, map, Result, Ok, Err, refl, subst}
use Rattle.std.specs.List.{list_all}
use Rattle.std.specs.Char.{is_ascii_alphabetic}
use Rattle.std.proofs.lemmas.Bool.{false≢true}
use Rattle.mesh_model.specs.declared.ending.Refusal.{Refusal}
use Rattle.mesh_model.specs.declared.ending.Refusal.TheVariants.{BadName}
use Rattle.mesh_model.specs.declared.line_form.Command.{Command}
use Rattle.mesh_model.specs.declared.line_form.Command.TheVariants.{Nothing, Algo, Node, Link, Lan, Frame, Gone, Join, Leave, Arp, Dhcp, Wifi, GwOff, GwServer, GwClient, Mcast, Dat, Frag, Vis, Alfred, Put, Get, Ping, Trace, Reboot, Run, Deliver, Show, Decode}
use Rattle.mesh_model.specs.Scenario.Fields.{name_field}
use Rattle.mesh_model.specs.Scenario.Terms.{is_name, is_name_character}
use Rattle.mesh_model.specs.Scenario.Words.{is_separator, word_at, word_tails}
use Rattle.mesh_laws.specs.Cuts.{IsUnbroken}
use Rattle.mesh_laws.proofs.Lines.FieldsRead.{AreTexts, FieldsWereRead, WasRead, fields_read}
use Rattle.mesh_lines.specs.LineWords.{IsWord, is_plain}
use Rattle.mesh_lines.specs.PlainLines.{GivesPlain, ReadIsPlain}
use Rattle.mesh_lines.proofs.Words.{plain_at}

-- ---- names
character_plain : (c : ℕ) → is_name_character c ≡ true → is_plain c ≡ true
character_plain c is = plain_at c (not_at 10 refl) (not_at 32 refl) (not_at 62 refl)
  where
    not_at : (n : ℕ) → is_name_character n ≡ false → c ≡ n → ⊥
    not_at n none same = false≢true (subst (λ b. b ≡ true) none (subst (λ x. is_name_character x ≡ true) same is))

and_both : (a b : Bool) → (a && b) ≡ true → (a ≡ true) × (b ≡ true)
and_both true true e = (refl, refl)
and_both true false e = (refl, e)
and_both false true e = (e, refl)
and_both false false e = (e, e)

or_left : (a b : Bool) → a ≡ true → (a || b) ≡ true
or_left true b e = refl
or_left false true e = refl
or_left false false e = e

characters_word : (rest : List ℕ) → list_all is_name_character rest ≡ true → IsWord rest
characters_word [] e = tt
characters_word (c ∷ rest) e = let p = and_both (is_name_character c) (list_all is_name_character rest) e in (character_plain c p.0, characters_word rest p.1)

name_word : (word : List ℕ) → is_name word ≡ true → IsWord word
name_word [] e = absurd (false≢true e)
name_word (first ∷ rest) e =
    let p = and_both (is_ascii_alphabetic first && list_all is_name_character rest) (nat_le (length (first ∷ rest)) 16) e in
    let q = and_both (is_ascii_alphabetic first) (list_all is_name_character rest) p.0 in
    (character_plain first (or_left _ _ (or_left _ _ q.0)), characters_word rest q.1)

-- ---- texts
either_texts : (b : Bool) (xs ys : List (List ℕ)) → AreTexts IsUnbroken (map word_at xs) → AreTexts IsUnbroken (map word_at ys) → AreTexts IsUnbroken (map word_at (cond b xs ys))
either_texts true xs ys p q = p
either_texts false xs ys p q = q

tails_plain : (in_word : Bool) (line : List ℕ) → IsUnbroken line → AreTexts IsUnbroken (map word_at (word_tails in_word line))
tails_plain in_word [] plain = tt
tails_plain in_word (b ∷ bs) plain =
    either_texts (is_separator b) (word_tails false bs) (cond in_word (word_tails true bs) ((b ∷ bs) ∷ word_tails true bs)) (tails_plain false bs plain.1)
    (either_texts in_word (word_tails true bs) ((b ∷ bs) ∷ word_tails true bs) (tails_plain true bs plain.1) (plain, tails_plain true bs plain.1))

-- ---- commands
named : (name : List ℕ) → WasRead name_field name → IsWord name
named name was = go (is_name was.word) refl was.is
  where
    go : (b : Bool) → is_name was.word ≡ b → ◌≡◌ {A = Result (List ℕ) Refusal} (cond b (Ok was.word) (Err BadName)) (Ok name) → IsWord name
    go true t e = let same : was.word ≡ name = cc in subst IsWord same (name_word was.word t)
    go false t e = cc

gives_plain : (command : Command) → FieldsWereRead IsUnbroken command → GivesPlain command
gives_plain Nothing was = tt
gives_plain (Algo algorithm) was = tt
gives_plain (Node name mac) was = named name was.0
gives_plain (Link from to delay pattern throughput) was = tt
gives_plain (Lan name gateways) was = named name was.0
gives_plain (Frame place src dst vid text) was = was.2
gives_plain (Gone place key) was = tt
gives_plain (Join node key) was = tt
gives_plain (Leave node key) was = tt
gives_plain (Arp node mac own asked vid) was = tt
gives_plain (Dhcp node key text) was = was.1
gives_plain (Wifi node on) was = tt
gives_plain (GwOff node) was = tt
gives_plain (GwServer node down up) was = tt
gives_plain (GwClient node policy) was = tt
gives_plain (Mcast node flags) was = tt
gives_plain (Dat node on) was = tt
gives_plain (Frag node longest) was = tt
gives_plain (Vis node on) was = tt
gives_plain (Alfred node mode) was = tt
gives_plain (Put node type_no version text) was = was.1
gives_plain (Get node type_no) was = tt
gives_plain (Ping node target) was = tt
gives_plain (Trace node target) was = tt
gives_plain (Reboot node) was = tt
gives_plain (Run time) was = tt
gives_plain (Deliver number) was = tt
gives_plain (Show node table) was = tt
gives_plain (Decode bytes) was = tt

pub read_is_plain : ReadIsPlain
read_is_plain line command plain h = gives_plain command (fields_read IsUnbroken line command (tails_plain false line plain) h)
