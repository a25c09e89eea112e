-- The fields of the line of a link frame are told by it.
use Rattle.std.proofs.Common.{◌≡◌, ◌<◌, ◌%◌, ℕ, false, List, [], ◌∷◌, ◌++◌, Option, Some, None, refl, sym, ap, ◌∙◌, arith}
use Rattle.std.specs.Prelude.{◌==◌, codes, decimal, slice_index}
use Rattle.std.proofs.lemmas.Bool.{eqb-false}
use Rattle.std.proofs.lemmas.List.{append_cancel_left}
use Rattle.hex.specs.Hex.{encode_lower, encode_with, hex_digit_value, lower_digits}
use Rattle.hex.proofs.HexLemmas.{IsDigits-lower_digits}
use Rattle.mesh_base.specs.Names.{NamesGiven}
use Rattle.mesh_base.specs.declared.address.Mac.{Mac}
use Rattle.mesh_base.specs.declared.event.Event.TheVariants.{FrameSent}
use Rattle.mesh_base.specs.declared.event.Reason.{Reason}
use Rattle.mesh_base.specs.declared.event.Reason.TheVariants.{Roam, Table, Old, Gw, Mc, Alfred, Fwd}
use Rattle.mesh_model.specs.Scenario.Lines.{newline}
use Rattle.mesh_model.specs.Text.Events.{by_text, event_line, kind_word, name_text}
use Rattle.mesh_lines.specs.FrameText.{table_frame_line}
use Rattle.mesh_lines.specs.LineWords.{AreNamed, IsWord}
use Rattle.mesh_lines.proofs.Found.{heads}
use Rattle.mesh_lines.proofs.EventParts.{kind_is_word, name_word}
use Rattle.mesh_lines.proofs.Words.{decimal_word, hex_word, words_last, words_next}

abbrev end : List ℕ
end = newline ∷ []

-- what stands behind the kind of a frame
abbrev behind_kind : Option Reason → List ℕ → List ℕ
behind_kind reason bytes = by_text reason ++ (codes " " ++ (encode_lower bytes ++ []))

abbrev behind_to : Option Reason → List ℕ → List ℕ
behind_to reason bytes = codes " " ++ (kind_word bytes ++ behind_kind reason bytes)

abbrev behind_from : List ℕ → Option Reason → List ℕ → List ℕ
behind_from to reason bytes = codes ">" ++ (to ++ behind_to reason bytes)

abbrev behind_moment : List ℕ → List ℕ → Option Reason → List ℕ → List ℕ
behind_moment from to reason bytes = codes " " ++ (from ++ behind_from to reason bytes)

abbrev behind_number : ℕ → List ℕ → List ℕ → Option Reason → List ℕ → List ℕ
behind_number moment from to reason bytes = codes " " ++ (decimal moment ++ behind_moment from to reason bytes)

-- ---- what stands behind the kind
no_digit : (i : ℕ) → i < 16 → slice_index lower_digits i ≡ 121 → ⊥
no_digit i low is = none (sym (IsDigits-lower_digits i low) ∙ ap hex_digit_value is)
  where
    none : Some i ≡ None → ⊥
    none e = cc

no_hex : (bytes more : List ℕ) → (encode_with lower_digits bytes ++ []) ++ end ≡ 98 ∷ 121 ∷ more → ⊥
unfolding encode_with
no_hex [] more e = cc
no_hex (b ∷ bytes) more e = let second : slice_index lower_digits (b % 16) ≡ 121 = cc in no_digit (b % 16) (omega arith) second

other_word : (x y : ℕ) (xs ys : List ℕ) → (x == y) ≡ false → x ∷ xs ≡ y ∷ ys → ⊥
other_word x y xs ys other e = eqb-false x y other (heads x y xs ys e).0

-- a reason and the bytes are told where the reason is `table`
pub record ByTable (reason : Option Reason) (bytes told : List ℕ) : Type 0 where
  pub reason_is : reason ≡ Some Table
  pub bytes_are : encode_lower told ≡ encode_lower bytes

-- both behind the word of a kind
by_table : (reason : Option Reason) (bytes told : List ℕ) → (kind_word bytes ++ behind_kind reason bytes) ++ end ≡ (kind_word told ++ behind_kind (Some Table) told) ++ end → ByTable reason bytes told
by_table None bytes told e =
    absurd (no_hex bytes _ (words_next (kind_word bytes) (kind_word told) 32 32 (encode_lower bytes ++ []) (codes "by=" ++ (codes "table" ++ (codes " " ++ (encode_lower told ++ [])))) end end (kind_is_word bytes) (kind_is_word told) refl refl e).rest)
by_table (Some Roam) bytes told e =
    let p = words_next (kind_word bytes) (kind_word told) 32 32 (codes "by=" ++ (codes "roam" ++ (codes " " ++ (encode_lower bytes ++ [])))) (codes "by=" ++ (codes "table" ++ (codes " " ++ (encode_lower told ++ [])))) end end (kind_is_word bytes) (kind_is_word told) refl refl e in
    absurd (other_word 114 116 _ _ refl (append_cancel_left (codes "by=") _ _ p.rest))
by_table (Some Table) bytes told e =
    let p = words_next (kind_word bytes) (kind_word told) 32 32 (codes "by=" ++ (codes "table" ++ (codes " " ++ (encode_lower bytes ++ [])))) (codes "by=" ++ (codes "table" ++ (codes " " ++ (encode_lower told ++ [])))) end end (kind_is_word bytes) (kind_is_word told) refl refl e in
    let last : (encode_lower bytes ++ []) ++ end ≡ (encode_lower told ++ []) ++ end = append_cancel_left (codes "by=table ") _ _ p.rest in
    record { reason_is = refl; bytes_are = sym (words_last (encode_lower bytes) (encode_lower told) newline (hex_word bytes) (hex_word told) refl last) }
by_table (Some Old) bytes told e =
    let p = words_next (kind_word bytes) (kind_word told) 32 32 (codes "by=" ++ (codes "old" ++ (codes " " ++ (encode_lower bytes ++ [])))) (codes "by=" ++ (codes "table" ++ (codes " " ++ (encode_lower told ++ [])))) end end (kind_is_word bytes) (kind_is_word told) refl refl e in
    absurd (other_word 111 116 _ _ refl (append_cancel_left (codes "by=") _ _ p.rest))
by_table (Some Gw) bytes told e =
    let p = words_next (kind_word bytes) (kind_word told) 32 32 (codes "by=" ++ (codes "gw" ++ (codes " " ++ (encode_lower bytes ++ [])))) (codes "by=" ++ (codes "table" ++ (codes " " ++ (encode_lower told ++ [])))) end end (kind_is_word bytes) (kind_is_word told) refl refl e in
    absurd (other_word 103 116 _ _ refl (append_cancel_left (codes "by=") _ _ p.rest))
by_table (Some Mc) bytes told e =
    let p = words_next (kind_word bytes) (kind_word told) 32 32 (codes "by=" ++ (codes "mc" ++ (codes " " ++ (encode_lower bytes ++ [])))) (codes "by=" ++ (codes "table" ++ (codes " " ++ (encode_lower told ++ [])))) end end (kind_is_word bytes) (kind_is_word told) refl refl e in
    absurd (other_word 109 116 _ _ refl (append_cancel_left (codes "by=") _ _ p.rest))
by_table (Some Alfred) bytes told e =
    let p = words_next (kind_word bytes) (kind_word told) 32 32 (codes "by=" ++ (codes "alfred" ++ (codes " " ++ (encode_lower bytes ++ [])))) (codes "by=" ++ (codes "table" ++ (codes " " ++ (encode_lower told ++ [])))) end end (kind_is_word bytes) (kind_is_word told) refl refl e in
    absurd (other_word 97 116 _ _ refl (append_cancel_left (codes "by=") _ _ p.rest))
by_table (Some Fwd) bytes told e =
    let p = words_next (kind_word bytes) (kind_word told) 32 32 (codes "by=" ++ (codes "fwd" ++ (codes " " ++ (encode_lower bytes ++ [])))) (codes "by=" ++ (codes "table" ++ (codes " " ++ (encode_lower told ++ [])))) end end (kind_is_word bytes) (kind_is_word told) refl refl e in
    absurd (other_word 102 116 _ _ refl (append_cancel_left (codes "by=") _ _ p.rest))

-- ---- the whole line
-- what a link frame's line tells
pub record SameFrame (number moment : ℕ) (from to : List ℕ) (reason : Option Reason) (bytes : List ℕ) (told_number told_moment : ℕ) (told_from told_to told : List ℕ) : Type 0 where
  pub number_is : decimal number ≡ decimal told_number
  pub moment_is : decimal moment ≡ decimal told_moment
  pub from_is : from ≡ told_from
  pub to_is : to ≡ told_to
  pub by_table_is : ByTable reason bytes told

frame_line : (number moment : ℕ) (from to : List ℕ) (reason : Option Reason) (bytes : List ℕ) → List ℕ
frame_line number moment from to reason bytes = codes "f" ++ ((decimal number ++ behind_number moment from to reason bytes) ++ end)

frame_told : (number moment : ℕ) (from to : List ℕ) (reason : Option Reason) (bytes : List ℕ) (n m : ℕ) (a b told : List ℕ) → IsWord from → IsWord to → IsWord a → IsWord b
    → frame_line number moment from to reason bytes ≡ frame_line n m a b (Some Table) told → SameFrame number moment from to reason bytes n m a b told
unfolding frame_line
frame_told number moment from to reason bytes n m a b told wf wt wa wb e =
    let e1 : (decimal number ++ behind_number moment from to reason bytes) ++ end ≡ (decimal n ++ behind_number m a b (Some Table) told) ++ end = append_cancel_left (codes "f") _ _ e in
    let p1 = words_next (decimal number) (decimal n) 32 32 (decimal moment ++ behind_moment from to reason bytes) (decimal m ++ behind_moment a b (Some Table) told) end end (decimal_word number) (decimal_word n) refl refl e1 in
    let p2 = words_next (decimal moment) (decimal m) 32 32 (from ++ behind_from to reason bytes) (a ++ behind_from b (Some Table) told) end end (decimal_word moment) (decimal_word m) refl refl p1.rest in
    let p3 = words_next from a 62 62 (to ++ behind_to reason bytes) (b ++ behind_to (Some Table) told) end end wf wa refl refl p2.rest in
    let p4 = words_next to b 32 32 (kind_word bytes ++ behind_kind reason bytes) (kind_word told ++ behind_kind (Some Table) told) end end wt wb refl refl p3.rest in
    record { number_is = p1.word; moment_is = p2.word; from_is = p3.word; to_is = p4.word; by_table_is = by_table reason bytes told p4.rest }

event_frame : (names : NamesGiven) (number moment : ℕ) (from to : Mac) (reason : Option Reason) (bytes : List ℕ) → event_line names (FrameSent number moment from to reason bytes) ≡ frame_line number moment (name_text names from) (name_text names to) reason bytes
unfolding event_line frame_line
event_frame names number moment from to reason bytes = refl

table_frame : (number moment : ℕ) (from to bytes : List ℕ) → table_frame_line number moment from to bytes ≡ frame_line number moment from to (Some Table) bytes
unfolding frame_line
table_frame number moment from to bytes = refl

pub frame_fields : (names : NamesGiven) → AreNamed names → (number moment : ℕ) (from to : Mac) (reason : Option Reason) (bytes : List ℕ) (n m : ℕ) (a b told : List ℕ) → IsWord a → IsWord b
    → table_frame_line n m a b told ≡ event_line names (FrameSent number moment from to reason bytes) → SameFrame number moment (name_text names from) (name_text names to) reason bytes n m a b told
frame_fields names named number moment from to reason bytes n m a b told wa wb e =
    frame_told number moment (name_text names from) (name_text names to) reason bytes n m a b told (name_word names named from) (name_word names named to) wa wb
    (sym (event_frame names number moment from to reason bytes) ∙ sym e ∙ table_frame n m a b told)

pub frame_told_by : (number moment n m : ℕ) (from to bytes a b told : List ℕ) → IsWord from → IsWord to → IsWord a → IsWord b → table_frame_line number moment from to bytes ≡ table_frame_line n m a b told
    → SameFrame number moment from to (Some Table) bytes n m a b told
frame_told_by number moment n m from to bytes a b told wf wt wa wb e =
    frame_told number moment from to (Some Table) bytes n m a b told wf wt wa wb (sym (table_frame number moment from to bytes) ∙ e ∙ table_frame n m a b told)
