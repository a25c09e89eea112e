-- The fields of a line are told by it.
use Rattle.std.proofs.Common.{◌≡◌, ℕ, Bool, true, false, List, [], ◌∷◌, ◌++◌, Option, Some, None, refl}
use Rattle.std.proofs.lemmas.List.{append_cancel_left}
use Rattle.std.specs.Prelude.{codes, decimal}
use Rattle.mesh_base.specs.Address.{mac_text}
use Rattle.mesh_model.specs.declared.table_row.GlobalRow.{GlobalRow}
use Rattle.mesh_model.specs.Scenario.Lines.{newline}
use Rattle.mesh_model.specs.Text.GlobalTables.{byte_text, global_line, state_word}
use Rattle.mesh_lines.proofs.LineParts.{byte_word, state_is_word}
use Rattle.mesh_lines.proofs.Words.{decimal_word, mac_word, words_last, words_next}

-- ---- the row of an originator
-- the texts of the fields of two rows are the same
pub record SameRow (a b : GlobalRow) (m n : ℕ) : Type 0 where
  pub orig : mac_text a.orig ≡ mac_text b.orig
  pub held : byte_text a.held ≡ byte_text b.held
  pub told : decimal a.told ≡ decimal b.told
  pub state : state_word a.held a.ok ≡ state_word b.held b.ok
  pub entries : decimal m ≡ decimal n

abbrev entries_text : ℕ → List ℕ
entries_text n = codes " entries=" ++ (decimal n ++ [])

abbrev state_text : GlobalRow → ℕ → List ℕ
state_text row n = codes " state=" ++ (state_word row.held row.ok ++ entries_text n)

abbrev told_text : GlobalRow → ℕ → List ℕ
told_text row n = codes " told=" ++ (decimal row.told ++ state_text row n)

abbrev held_text : GlobalRow → ℕ → List ℕ
held_text row n = codes " held=" ++ (byte_text row.held ++ told_text row n)

abbrev end : List ℕ
end = newline ∷ []

pub row_fields : (a b : GlobalRow) (m n : ℕ) → global_line a m ≡ global_line b n → SameRow a b m n
unfolding global_line
row_fields a b m n e =
    let e1 : (mac_text a.orig ++ held_text a m) ++ end ≡ (mac_text b.orig ++ held_text b n) ++ end = append_cancel_left (codes "t ") _ _ e in
    let p1 = words_next (mac_text a.orig) (mac_text b.orig) 32 32 (codes "held=" ++ (byte_text a.held ++ told_text a m)) (codes "held=" ++ (byte_text b.held ++ told_text b n)) end end (mac_word a.orig) (mac_word b.orig) refl refl e1 in
    let e2 : (byte_text a.held ++ told_text a m) ++ end ≡ (byte_text b.held ++ told_text b n) ++ end = append_cancel_left (codes "held=") _ _ p1.rest in
    let p2 = words_next (byte_text a.held) (byte_text b.held) 32 32 (codes "told=" ++ (decimal a.told ++ state_text a m)) (codes "told=" ++ (decimal b.told ++ state_text b n)) end end (byte_word a.held) (byte_word b.held) refl refl e2 in
    let e3 : (decimal a.told ++ state_text a m) ++ end ≡ (decimal b.told ++ state_text b n) ++ end = append_cancel_left (codes "told=") _ _ p2.rest in
    let p3 = words_next (decimal a.told) (decimal b.told) 32 32 (codes "state=" ++ (state_word a.held a.ok ++ entries_text m)) (codes "state=" ++ (state_word b.held b.ok ++ entries_text n)) end end (decimal_word a.told) (decimal_word b.told) refl refl e3 in
    let e4 : (state_word a.held a.ok ++ entries_text m) ++ end ≡ (state_word b.held b.ok ++ entries_text n) ++ end = append_cancel_left (codes "state=") _ _ p3.rest in
    let p4 = words_next (state_word a.held a.ok) (state_word b.held b.ok) 32 32 (codes "entries=" ++ (decimal m ++ [])) (codes "entries=" ++ (decimal n ++ [])) end end (state_is_word a.held a.ok) (state_is_word b.held b.ok) refl refl e4 in
    let e5 : (decimal m ++ []) ++ end ≡ (decimal n ++ []) ++ end = append_cancel_left (codes "entries=") _ _ p4.rest in
    record { orig = p1.word; held = p2.word; told = p3.word; state = p4.word; entries = words_last (decimal m) (decimal n) newline (decimal_word m) (decimal_word n) refl e5 }

-- a row is in agreement where its word says so
pub record InAgreement (held : Option ℕ) (ok : Bool) : Type 0 where
  pub byte : ℕ
  pub held_is : held ≡ Some byte
  pub ok_is : ok ≡ true

pub agreement_from : (held : Option ℕ) (ok : Bool) → codes "ok" ≡ state_word held ok → InAgreement held ok
agreement_from None ok e = cc
agreement_from (Some byte) true e = record { byte = byte; held_is = refl; ok_is = refl }
agreement_from (Some byte) false e = cc
