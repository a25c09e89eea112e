-- Where bytes are cut into lines: what each says has no newline, and the complete lines of a front
-- are the first of all.
use Rattle.std.proofs.Common.{◌≡◌, ℕ, ◌-◌, ◌==◌, Bool, true, false, cond, List, [], ◌∷◌, ◌++◌, length, take, refl, sym, ap, ◌∙◌, subst, eqb-true}
use Rattle.std.specs.Prelude.{zero, suc}
use Rattle.mesh_model.specs.Scenario.Lines.{complete_lines, content, ends_in_return, lines_of, newline, without_carriage_return}
use Rattle.mesh_laws.specs.Cuts.{AreLines, IsCut, IsLine, IsUnbroken}
use Rattle.mesh_laws.proofs.CutLemmas.{IsCut-start, complete_lines-cut, content-line, content-unbroken, lines_of-cut, lines_of-cut_end, open_line}
use Rattle.mesh_lines.specs.PlainLines.{InputLinesArePlain, PlainContents}

-- ---- where bytes are cut
pub record Cut (bytes : List ℕ) : Type 0 where
  pub lines : List (List ℕ)
  pub rest : List ℕ
  pub is : IsCut bytes lines rest

cut_newline : (b : ℕ) (bs : List ℕ) → (b == newline) ≡ true → Cut bs → Cut (b ∷ bs)
cut_newline b bs e c = record {
  lines = (b ∷ []) ∷ c.lines;
  rest = c.rest;
  is = record {
    whole = (record { text = []; unbroken = tt; line_is = ap (λ x. x ∷ []) (eqb-true b newline e) }, c.is.whole);
    unbroken = c.is.unbroken;
    bytes_are = ap (λ more. b ∷ more) c.is.bytes_are;
  };
}

longer_line : (b : ℕ) (line : List ℕ) → (b == newline) ≡ false → IsLine line → IsLine (b ∷ line)
longer_line b line e is = record { text = b ∷ is.text; unbroken = (e, is.unbroken); line_is = ap (λ more. b ∷ more) is.line_is }

cut_more : (b : ℕ) (bs rest : List ℕ) (lines : List (List ℕ)) → (b == newline) ≡ false → IsCut bs lines rest → Cut (b ∷ bs)
cut_more b bs rest [] e is = record { lines = []; rest = b ∷ rest; is = record { whole = tt; unbroken = (e, is.unbroken); bytes_are = ap (λ more. b ∷ more) is.bytes_are } }
cut_more b bs rest (line ∷ lines) e is = record {
  lines = (b ∷ line) ∷ lines;
  rest = rest;
  is = record {
    whole = (longer_line b line e is.whole.0, is.whole.1);
    unbroken = is.unbroken;
    bytes_are = ap (λ more. b ∷ more) is.bytes_are;
  };
}

cut_step : (b : ℕ) (bs : List ℕ) → Cut bs → (test : Bool) → (b == newline) ≡ test → Cut (b ∷ bs)
cut_step b bs c true e = cut_newline b bs e c
cut_step b bs c false e = cut_more b bs c.rest c.lines e c.is

pub cut : (bytes : List ℕ) → Cut bytes
cut [] = record { lines = []; rest = []; is = IsCut-start }
cut (b ∷ bs) = cut_step b bs (cut bs) (b == newline) refl

-- ---- what lines say
front_unbroken : (n : ℕ) (text : List ℕ) → IsUnbroken text → IsUnbroken (take n text)
front_unbroken zero text plain = tt
front_unbroken (suc n) [] plain = tt
front_unbroken (suc n) (b ∷ bs) plain = (plain.0, front_unbroken n bs plain.1)

without_return : (text : List ℕ) → IsUnbroken text → IsUnbroken (without_carriage_return text)
without_return text plain = go (ends_in_return text)
  where
    go : (b : Bool) → IsUnbroken (cond b (take (length text - 1) text) text)
    go true = front_unbroken (length text - 1) text plain
    go false = plain

line_plain : (line : List ℕ) → IsLine line → IsUnbroken (content line)
line_plain line is = subst IsUnbroken (sym (ap content is.line_is ∙ content-line is.text)) (without_return is.text is.unbroken)

plain_both : (xs ys : List (List ℕ)) → PlainContents xs → PlainContents ys → PlainContents (xs ++ ys)
plain_both [] ys p q = q
plain_both (x ∷ xs) ys p q = (p.0, plain_both xs ys p.1 q)

pub plain_front : (xs ys : List (List ℕ)) → PlainContents (xs ++ ys) → PlainContents xs
plain_front [] ys p = tt
plain_front (x ∷ xs) ys p = (p.0, plain_front xs ys p.1)

lines_plain : (lines : List (List ℕ)) → AreLines lines → PlainContents lines
lines_plain [] are = tt
lines_plain (line ∷ lines) are = (line_plain line are.0, lines_plain lines are.1)

rest_plain : (rest : List ℕ) → IsUnbroken rest → PlainContents (open_line rest)
rest_plain [] plain = tt
rest_plain (b ∷ bs) plain = (subst IsUnbroken (sym (content-unbroken (b ∷ bs) plain)) plain, tt)

pub input_lines_are_plain : InputLinesArePlain
input_lines_are_plain input =
    let c = cut input in
    subst PlainContents (sym (lines_of-cut_end input c.lines c.rest c.is)) (plain_both c.lines (open_line c.rest) (lines_plain c.lines c.is.whole) (rest_plain c.rest c.is.unbroken))

-- ---- fronts
-- the complete lines of a front are the first of all lines
pub front_lines : (front more : List ℕ) → (later : List (List ℕ)) × (lines_of (front ++ more) ≡ complete_lines front ++ later)
front_lines front more =
    let c = cut front in
    (lines_of (c.rest ++ more), lines_of-cut front c.lines c.rest more c.is ∙ ap (λ first. first ++ lines_of (c.rest ++ more)) (sym (complete_lines-cut front c.lines c.rest c.is)))
