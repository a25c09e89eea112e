-- Lines tell their fields.
use Rattle.std.proofs.Common.{◌≡◌, ◌<◌, ◌≤◌, ◌^◌, ◌-◌, ◌==◌, ℕ, Bool, true, false, cond, nat_le, List, [], ◌∷◌, ◌++◌, Some, refl, sym, ap, subst, ◌∙◌, arith}
use Rattle.std.specs.Prelude.{codes, decimal}
use Rattle.std.specs.Char.{digit_value}
use Rattle.std.specs.Str.Parse.{AllDigits}
use Rattle.std.proofs.lemmas.Bool.{eqb-true, leb-true, leb-false}
use Rattle.std.proofs.lemmas.Fmt.{decimal_injective, decimal_is_IsNumeral}
use Rattle.std.proofs.lemmas.List.{append_cancel_left}
use Rattle.mesh_base.specs.Address.{mac_text}
use Rattle.mesh_base.specs.declared.client.Entry.{Entry}
use Rattle.mesh_base.specs.declared.client.Vid.{Vid}
use Rattle.mesh_model.specs.declared.table_row.GlobalRow.{GlobalRow}
use Rattle.mesh_model.specs.Scenario.Lines.{newline}
use Rattle.mesh_model.specs.Text.Events.{event_line, name_text}
use Rattle.mesh_model.specs.Text.GlobalTables.{entry_line}
use Rattle.mesh_model.specs.Text.Tables.{flags_text, vid_text}
use Rattle.mesh_lines.specs.LineFields.{AliasLinesTellFields, EntryLinesTellFields, FrameLinesTellFields, OkLinesTellFields}
use Rattle.mesh_lines.proofs.EventParts.{name_word}
use Rattle.mesh_lines.proofs.FrameFields.{frame_told_by}
use Rattle.mesh_lines.proofs.LineParts.{flags_word, vid_word}
use Rattle.mesh_lines.proofs.RowFields.{row_fields}
use Rattle.mesh_lines.proofs.Words.{decimal_word, hex_from, mac_from, mac_word, words_last, words_next}

abbrev end : List ℕ
end = newline ∷ []

-- ---- originators
pub ok_lines_tell_fields : OkLinesTellFields
ok_lines_tell_fields orig other held told entries h t n bytes held_low told_low few h_low t_low n_low e =
    let a : GlobalRow = record { orig = orig; held = Some held; told = told; ok = true } in
    let b : GlobalRow = record { orig = other; held = Some h; told = t; ok = true } in
    let f = row_fields a b entries n e in
    record {
      orig_is = mac_from orig other bytes f.orig;
      held_is = decimal_injective held h held_low h_low f.held;
      told_is = decimal_injective told t told_low t_low f.told;
      entries_are = decimal_injective entries n few n_low f.entries;
    }

-- ---- VLANs
-- a number's text doesn't begin with a byte that is no digit
no_digit_first : (n c : ℕ) (more : List ℕ) → n < 2 ^ 64 → (digit_value c < 10 → ⊥) → decimal n ≡ c ∷ more → ⊥
no_digit_first n c more low none e = none (subst (AllDigits 10) e (decimal_is_IsNumeral n low).0.1).0

same_vid : (a b : Vid) → a.0 ≡ b.0 → a ≡ b
same_vid a b e = λ i. record { 0 = e i }

-- the three forms of a VLAN
data VidForm (vid : Vid) : Type 0 where
  none : vid.0 ≡ 0 → vid_text vid ≡ codes "-" → VidForm vid
  tagged : 32768 ≤ vid.0 → vid_text vid ≡ decimal (vid.0 - 32768) → VidForm vid
  raw : vid.0 < 32768 → vid_text vid ≡ codes "raw:" ++ decimal vid.0 → VidForm vid

vid_form : (vid : Vid) → VidForm vid
unfolding vid_text
vid_form vid = go (vid.0 == 0) refl (nat_le 32768 vid.0) refl
  where
    go : (z : Bool) → (vid.0 == 0) ≡ z → (t : Bool) → nat_le 32768 vid.0 ≡ t → VidForm vid
    go true zero_is t tag = none (eqb-true vid.0 0 zero_is) (ap (λ b. cond b (codes "-") (cond (nat_le 32768 vid.0) (decimal (vid.0 - 32768)) (codes "raw:" ++ decimal vid.0))) zero_is)
    go false zero_is true tag = tagged (leb-true 32768 vid.0 tag) (ap (λ b. cond b (codes "-") (cond (nat_le 32768 vid.0) (decimal (vid.0 - 32768)) (codes "raw:" ++ decimal vid.0))) zero_is ∙ ap (λ b. cond b (decimal (vid.0 - 32768)) (codes "raw:" ++ decimal vid.0)) tag)
    go false zero_is false tag = raw (leb-false 32768 vid.0 tag) (ap (λ b. cond b (codes "-") (cond (nat_le 32768 vid.0) (decimal (vid.0 - 32768)) (codes "raw:" ++ decimal vid.0))) zero_is ∙ ap (λ b. cond b (decimal (vid.0 - 32768)) (codes "raw:" ++ decimal vid.0)) tag)

no_minus : digit_value 45 < 10 → ⊥
no_minus h = omega (arith, h)

no_r : digit_value 114 < 10 → ⊥
no_r h = omega (arith, h)

minus_raw : (more : List ℕ) → codes "-" ≡ codes "raw:" ++ more → ⊥
minus_raw more e = cc

vid_from : (a b : Vid) → a.0 < 2 ^ 16 → b.0 < 2 ^ 16 → vid_text a ≡ vid_text b → a ≡ b
vid_from a b p q e = go (vid_form a) (vid_form b)
  where
    go : VidForm a → VidForm b → a ≡ b
    go (none az at) (none bz bt) = same_vid a b (az ∙ sym bz)
    go (none az at) (tagged bz bt) = absurd (no_digit_first (b.0 - 32768) 45 [] (omega (arith, q)) no_minus (sym bt ∙ sym e ∙ at))
    go (none az at) (raw bz bt) = absurd (minus_raw (decimal b.0) (sym at ∙ e ∙ bt))
    go (tagged az at) (none bz bt) = absurd (no_digit_first (a.0 - 32768) 45 [] (omega (arith, p)) no_minus (sym at ∙ e ∙ bt))
    go (tagged az at) (tagged bz bt) =
        let same = decimal_injective (a.0 - 32768) (b.0 - 32768) (omega (arith, p)) (omega (arith, q)) (sym at ∙ e ∙ bt) in
        same_vid a b (omega (arith, same, az, bz))
    go (tagged az at) (raw bz bt) = absurd (no_digit_first (a.0 - 32768) 114 (codes "aw:" ++ decimal b.0) (omega (arith, p)) no_r (sym at ∙ e ∙ bt))
    go (raw az at) (none bz bt) = absurd (minus_raw (decimal a.0) (sym bt ∙ sym e ∙ at))
    go (raw az at) (tagged bz bt) = absurd (no_digit_first (b.0 - 32768) 114 (codes "aw:" ++ decimal a.0) (omega (arith, q)) no_r (sym bt ∙ sym e ∙ at))
    go (raw az at) (raw bz bt) = same_vid a b (decimal_injective a.0 b.0 (omega (arith, p)) (omega (arith, q)) (append_cancel_left (codes "raw:") _ _ (sym at ∙ e ∙ bt)))

-- ---- entries
abbrev behind_mac : Entry → List ℕ
behind_mac entry = codes " " ++ (vid_text entry.key.vid ++ (codes " " ++ (flags_text entry.flags ++ [])))

pub entry_lines_tell_fields : EntryLinesTellFields
unfolding entry_line
entry_lines_tell_fields a b bytes p q e =
    let e1 : (mac_text a.key.mac ++ behind_mac a) ++ end ≡ (mac_text b.key.mac ++ behind_mac b) ++ end = append_cancel_left (codes "e ") _ _ e in
    let p1 = words_next (mac_text a.key.mac) (mac_text b.key.mac) 32 32 (vid_text a.key.vid ++ (codes " " ++ (flags_text a.flags ++ []))) (vid_text b.key.vid ++ (codes " " ++ (flags_text b.flags ++ []))) end end (mac_word a.key.mac) (mac_word b.key.mac) refl refl e1 in
    let p2 = words_next (vid_text a.key.vid) (vid_text b.key.vid) 32 32 (flags_text a.flags ++ []) (flags_text b.flags ++ []) end end (vid_word a.key.vid) (vid_word b.key.vid) refl refl p1.rest in
    record {
      mac = mac_from a.key.mac b.key.mac bytes p1.word;
      vid = vid_from a.key.vid b.key.vid p q p2.word;
      flags = words_last (flags_text a.flags) (flags_text b.flags) newline (flags_word a.flags) (flags_word b.flags) refl p2.rest;
    }

-- ---- aliases
abbrev behind_name : ℕ → ℕ → List ℕ
behind_name number earlier = codes " " ++ (decimal number ++ (codes " " ++ (decimal earlier ++ [])))

pub alias_lines_tell_fields : AliasLinesTellFields
unfolding event_line
alias_lines_tell_fields names others orig other number earlier n e named also number_low earlier_low n_low e_low same =
    let e1 : (name_text names orig ++ behind_name number earlier) ++ end ≡ (name_text others other ++ behind_name n e) ++ end = append_cancel_left (codes "alias ") _ _ same in
    let p1 = words_next (name_text names orig) (name_text others other) 32 32 (decimal number ++ (codes " " ++ (decimal earlier ++ []))) (decimal n ++ (codes " " ++ (decimal e ++ []))) end end (name_word names named orig) (name_word others also other) refl refl e1 in
    let p2 = words_next (decimal number) (decimal n) 32 32 (decimal earlier ++ []) (decimal e ++ []) end end (decimal_word number) (decimal_word n) refl refl p1.rest in
    record {
      name = p1.word;
      number_is = decimal_injective number n number_low n_low p2.word;
      earlier_is = decimal_injective earlier e earlier_low e_low (words_last (decimal earlier) (decimal e) newline (decimal_word earlier) (decimal_word e) refl p2.rest);
    }

-- ---- frames
pub frame_lines_tell_fields : FrameLinesTellFields
frame_lines_tell_fields number moment n m from to bytes a b bs number_low moment_low n_low m_low wf wt wa wb are e =
    let f = frame_told_by number moment n m from to bytes a b bs wf wt wa wb e in
    record {
      number_is = decimal_injective number n number_low n_low f.number_is;
      moment_is = decimal_injective moment m moment_low m_low f.moment_is;
      from_is = f.from_is;
      to_is = f.to_is;
      bytes_are = hex_from bytes bs are (sym f.by_table_is.bytes_are);
    }
