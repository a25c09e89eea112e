-- What the text of a run says of tables.
use Rattle.std.proofs.Common.{◌≡◌, inl, inr, ◌≤◌, ◌<◌, ◌^◌, ℕ, true, cond, List, [], ◌∷◌, ◌++◌, length, map, Option, Some, None, is_some, refl, sym, ap, subst, ◌∙◌, append_assoc, arith}
use Rattle.std.specs.Prelude.{codes, decimal, flat_map}
use Rattle.std.proofs.lemmas.Fmt.{decimal_injective}
use Rattle.mesh_base.specs.Names.{NamesGiven}
use Rattle.mesh_base.specs.declared.address.Mac.{Mac}
use Rattle.mesh_base.specs.declared.event.Event.{Event}
use Rattle.mesh_base.specs.declared.event.Event.TheVariants.{Alias}
use Rattle.mesh_model.specs.declared.frame_choice.FrameChoice.{FrameChoice}
use Rattle.mesh_model.specs.declared.table_row.GlobalRow.{GlobalRow}
use Rattle.mesh_model.specs.Net.Next.{Has}
use Rattle.mesh_model.specs.Run.PlainRun.{Run, after_line, after_lines, after_outcome, line_outcome, output, start}
use Rattle.mesh_model.specs.Run.Outcome.{Outcome, Ends, Goes, reached}
use Rattle.mesh_model.specs.Scenario.Halt.{Halt}
use Rattle.mesh_model.specs.Run.State.{ClaimsShown, Decoded, GlobalsShown, LocalsShown, NeighborsShown, OriginatorsShown, ServiceShown, Happened, Printed, printed_text}
use Rattle.mesh_model.specs.Scenario.Lines.{complete_lines, lines_of}
use Rattle.mesh_model.specs.Text.Events.{event_line}
use Rattle.mesh_model.specs.Text.GlobalTables.{GlobalPart, byte_text, entry_line, global_line}
use Rattle.mesh_model.specs.Text.PacketLines.{line_of}
use Rattle.mesh_laws.proofs.RunLemmas.{line_outcome-prints}
use Rattle.mesh_laws.proofs.Schedule.Members.{has_left, has_right}
use Rattle.mesh_tie.specs.ShownTables.{IsOfCommit, PrintedNone, WasCommitted}
use Rattle.mesh_tie.proofs.LineReach.{first_holds, lines_hold}
use Rattle.mesh_tie.proofs.TablePrints.{printed_tables_are_committed}
use Rattle.mesh_lines.specs.ItemLines.{ArePlain, IsPlain, global_first, item_lines, lines_printed, part_lines}
use Rattle.mesh_lines.specs.LineSources.{IsOfPart}
use Rattle.mesh_lines.specs.LineWords.{AreNamed, HasPlainText}
use Rattle.mesh_lines.specs.PlainLines.{PlainContents}
use Rattle.mesh_lines.specs.TextLaws.{IsFrontOf}
use Rattle.mesh_lines.specs.TableText.{AreBytes, GoOnWith, OkLinesAreCommitted, ShowsCommit, TellNoAlias, names_behind, ok_line}
use Rattle.mesh_lines.proofs.CommitSizes.{byte_small, table_short}
use Rattle.mesh_lines.proofs.Found.{has_at, heads}
use Rattle.mesh_lines.proofs.InputLines.{front_lines}
use Rattle.mesh_lines.proofs.ItemLemmas.{lines_of_text}
use Rattle.mesh_lines.proofs.LineParts.{global_told}
use Rattle.mesh_lines.proofs.NamesGoOn.{GoOn, HasNames, IsNamed, front_named}
use Rattle.mesh_lines.proofs.NameLemmas.{runs_are_named}
use Rattle.mesh_lines.proofs.NodeNames.{HasName, name_stays}
use Rattle.mesh_lines.proofs.PlainTexts.{event_plain}
use Rattle.mesh_lines.proofs.RowFields.{agreement_from, row_fields}
use Rattle.mesh_lines.proofs.SourceLemmas.{originators_have_one_source}
use Rattle.mesh_lines.proofs.Words.{mac_from}

-- ---- lines of aliases
-- what is printed has its line among those of all
pub line_among : (choice : FrameChoice) (printed : List Printed) (item : Printed) (line : List ℕ) → Has printed item → Has (item_lines choice item) line → Has (lines_printed choice printed) line
line_among choice [] item line has one = absurd has
line_among choice (first ∷ rest) item line (inl same) one = has_left (item_lines choice first) (lines_printed choice rest) line (subst (λ x. Has (item_lines choice x) line) same one)
line_among choice (first ∷ rest) item line (inr has) one = has_right (item_lines choice first) (lines_printed choice rest) line (line_among choice rest item line has one)

pub alias_line_is : (names all : NamesGiven) (mac : Mac) (number earlier : ℕ) → GoOn names all → HasName names.nodes mac → event_line names (Alias mac number earlier) ≡ event_line all (Alias mac number earlier)
unfolding event_line
alias_line_is names all mac number earlier g h = ap (λ name. line_of (codes "alias " ∷ name ∷ (codes " " ++ decimal number) ∷ (codes " " ++ decimal earlier) ∷ [])) (name_stays names all g.more mac g.nodes h)

-- where no line tells of an alias, none was printed
pub none_printed : (choice : FrameChoice) (all : NamesGiven) (events : List Event) (orig : Mac) (printed : List Printed) → ((item : Printed) → Has printed item → HasNames all events item) → TellNoAlias all orig (lines_printed choice printed) → PrintedNone orig printed
none_printed choice all events orig printed named none names number earlier has =
    let item : Printed = Happened names (Alias orig number earlier) in
    let h = named item has in
    let line : event_line names (Alias orig number earlier) ≡ event_line all (Alias orig number earlier) = alias_line_is names all orig number earlier h.0 h.1 in
    none number earlier (line_among choice printed item (event_line all (Alias orig number earlier)) has (inl (sym line)))

-- ---- fields
-- the lines behind go on with the entries
go_on : (after later wanted behind : List (List ℕ)) → after ++ later ≡ wanted ++ behind → GoOnWith after wanted
go_on [] later wanted behind e = inr (wanted, refl)
go_on (a ∷ after) later [] behind e = inl (a ∷ after, refl)
go_on (a ∷ after) later (w ∷ wanted) behind e =
    let h = heads a w (after ++ later) (wanted ++ behind) e in
    further h.0 (go_on after later wanted behind h.1)
  where
    further : a ≡ w → GoOnWith after wanted → GoOnWith (a ∷ after) (w ∷ wanted)
    further same (inl more) = inl (more.0, ap (λ l. a ∷ l) more.1 ∙ ap (λ x. x ∷ (wanted ++ more.0)) same)
    further same (inr more) = inr (more.0, ap (λ l. w ∷ l) more.1 ∙ ap (λ x. x ∷ (after ++ more.0)) (sym same))

has_part : (front : List GlobalPart) (part : GlobalPart) (back : List GlobalPart) → Has (front ++ part ∷ back) part
has_part front part back = has_at front part back

some_same : (x y : ℕ) → Some x ≡ Some y → x ≡ y
some_same x y e = cc

-- ---- the text
-- the texts that events of a run tell have no newline
abbrev pub TextsPlain : FrameChoice → List (List ℕ) → Type 0
TextsPlain choice lines = (names : NamesGiven) (event : Event) → Has (after_lines (start choice) lines).state.printed (Happened names event) → HasPlainText event

item_plain : (all : NamesGiven) (events : List Event) → AreNamed all → (item : Printed) → HasNames all events item → ((names : NamesGiven) (event : Event) → item ≡ Happened names event → HasPlainText event) → IsPlain item
item_plain all events named (LocalsShown table) has texts = has
item_plain all events named (OriginatorsShown table) has texts = has
item_plain all events named (NeighborsShown table) has texts = has
item_plain all events named (GlobalsShown table) has texts = has
item_plain all events named (ClaimsShown table) has texts = has
item_plain all events named (ServiceShown table) has texts = has
item_plain all events named (Decoded bytes) has texts = tt
item_plain all events named (Happened names event) has texts = (front_named names all has.0 named, texts names event refl)

pub printed_plain : (choice : FrameChoice) (lines : List (List ℕ)) → IsNamed (after_lines (start choice) lines).state → TextsPlain choice lines → ArePlain (after_lines (start choice) lines).state.printed
printed_plain choice lines n texts item has = item_plain (names_behind choice lines) (after_lines (start choice) lines).state.mesh.events n.named item (n.printed item has) (λ names event is. texts names event (subst (Has (after_lines (start choice) lines).state.printed) is has))

after_choice : (run : Run) (line : List ℕ) → (after_line run line).state.choice ≡ run.state.choice
after_choice run line = go run.halt
  where
    of_outcome : (o : Outcome) → (reached o).choice ≡ run.state.choice → (after_outcome run line o).state.choice ≡ run.state.choice
    of_outcome (Goes state) is = is
    of_outcome (Ends state stop) is = is

    go : (o : Option Halt) → (cond (is_some o) run (after_outcome run line (line_outcome run.state run.bytes line))).state.choice ≡ run.state.choice
    go None = of_outcome (line_outcome run.state run.bytes line) (line_outcome-prints run.state run.bytes line).choice
    go (Some halt) = refl

lines_choice : (run : Run) (lines : List (List ℕ)) → (after_lines run lines).state.choice ≡ run.state.choice
lines_choice run [] = refl
lines_choice run (line ∷ lines) = lines_choice (after_line run line) lines ∙ after_choice run line

-- what a run prints is plain
pub texts_plain : (choice : FrameChoice) (lines : List (List ℕ)) → IsNamed (after_lines (start choice) lines).state → TextsPlain choice lines
texts_plain choice lines n names event has =
    let state = (after_lines (start choice) lines).state in
    event_plain state.algorithm state.mesh (lines_hold (start choice) lines (first_holds choice)).reachable n.fits event (n.printed (Happened names event) has).2

pub choice_stays : (choice : FrameChoice) (lines : List (List ℕ)) → (after_lines (start choice) lines).state.choice ≡ choice
choice_stays choice lines = lines_choice (start choice) lines

-- the complete lines of a front are the first of what was printed
pub front_printed : (choice : FrameChoice) (lines : List (List ℕ)) (text : List ℕ) → ArePlain (after_lines (start choice) lines).state.printed → IsFrontOf (after_lines (start choice) lines) text
    → (later : List (List ℕ)) × (lines_printed choice (after_lines (start choice) lines).state.printed ≡ complete_lines text ++ later)
front_printed choice lines text plain f =
    let state = (after_lines (start choice) lines).state in
    let first = front_lines text f.rest in
    let same : output (after_lines (start choice) lines) ≡ flat_map (printed_text choice) state.printed = ap (λ c. flat_map (printed_text c) state.printed) (choice_stays choice lines) in
    (first.0, sym (lines_of_text choice state.printed plain) ∙ ap lines_of (sym same ∙ f.is) ∙ first.1)

-- ---- tables
-- the row of a part that a line of an originator in agreement tells
record RowTold (part : GlobalPart) (orig : Mac) (held told entries : ℕ) : Type 0 where
  orig_is : part.row.orig ≡ orig
  held_text : decimal held ≡ byte_text part.row.held
  told_text : decimal told ≡ decimal part.row.told
  ok_is : part.row.ok ≡ true
  count : decimal entries ≡ decimal (length part.entries)

row_told : (part : GlobalPart) (orig : Mac) (held told entries : ℕ) → AreBytes orig.0 → ok_line orig held told entries ≡ global_line part.row (length part.entries) → RowTold part orig held told entries
row_told part orig held told entries bytes is =
    let row : GlobalRow = record { orig = orig; held = Some held; told = told; ok = true } in
    let f = row_fields row part.row entries (length part.entries) is in
    record {
      orig_is = sym (mac_from orig part.row.orig bytes f.orig);
      held_text = f.held;
      told_text = f.told;
      ok_is = (agreement_from part.row.held part.row.ok f.state).ok_is;
      count = f.entries;
    }

-- a text that a run of plain lines begins with: what is printed is plain, and begins with its lines
pub record IsPlainFront (choice : FrameChoice) (lines : List (List ℕ)) (text : List ℕ) : Type 0 where
  pub named : IsNamed (after_lines (start choice) lines).state
  pub plain : ArePlain (after_lines (start choice) lines).state.printed
  pub later : List (List ℕ)
  pub printed_is : lines_printed choice (after_lines (start choice) lines).state.printed ≡ complete_lines text ++ later

pub plain_front : (choice : FrameChoice) (lines : List (List ℕ)) (text : List ℕ) → PlainContents lines → IsFrontOf (after_lines (start choice) lines) text → IsPlainFront choice lines text
plain_front choice lines text plain f =
    let named = runs_are_named choice lines plain in
    let all = printed_plain choice lines named (texts_plain choice lines named) in
    let first = front_printed choice lines text all f in
    record { named = named; plain = all; later = first.0; printed_is = first.1 }

-- a line of the text is one that was printed
pub line_printed : (choice : FrameChoice) (lines : List (List ℕ)) (text : List ℕ) (front : IsPlainFront choice lines text) (before : List (List ℕ)) (line : List ℕ) (after : List (List ℕ)) → complete_lines text ≡ before ++ line ∷ after
    → lines_printed choice (after_lines (start choice) lines).state.printed ≡ before ++ line ∷ (after ++ front.later)
line_printed choice lines text front before line after is = front.printed_is ∙ ap (λ ls. ls ++ front.later) is ∙ append_assoc before (line ∷ after) front.later

pub ok_lines_are_committed : (choice : FrameChoice) (lines : List (List ℕ)) (text : List ℕ) → PlainContents lines → IsFrontOf (after_lines (start choice) lines) text → OkLinesAreCommitted choice lines text
ok_lines_are_committed choice lines text plain f before after orig held told entries is bytes held_low told_low few none = shows
  where
    front : IsPlainFront choice lines text
    front = plain_front choice lines text plain f

    printed : List Printed
    printed = (after_lines (start choice) lines).state.printed

    row : GlobalRow
    row = record { orig = orig; held = Some held; told = told; ok = true }

    source : IsOfPart choice printed before (ok_line orig held told entries) (after ++ front.later)
    source = originators_have_one_source choice printed front.plain before (ok_line orig held told entries) (after ++ front.later)
        (line_printed choice lines text front before (ok_line orig held told entries) after is) (global_told row entries).kind_is

    row_is : RowTold source.part orig held told entries
    row_is = row_told source.part orig held told entries bytes source.line_is

    none_before : PrintedNone orig source.earlier
    none_before = none_printed choice (names_behind choice lines) (after_lines (start choice) lines).state.mesh.events orig source.earlier
        (λ item has. front.named.printed item (subst (λ ps. Has ps item) (sym source.printed_is) (has_left source.earlier (GlobalsShown source.table ∷ source.later) item has)))
        (λ number earlier has. none number earlier (subst (λ ls. Has ls (event_line (names_behind choice lines) (Alias orig number earlier))) (sym source.before_is)
        (has_left (lines_printed choice source.earlier) (global_first source.table ∷ flat_map part_lines source.front) (event_line (names_behind choice lines) (Alias orig number earlier)) has)))

    committed : WasCommitted choice lines source.earlier source.table source.part
    committed = printed_tables_are_committed choice lines source.earlier source.later source.table source.part source.printed_is
        (subst (λ ps. Has ps source.part) (sym source.parts_are) (has_at source.front source.part source.back)) row_is.ok_is
        (subst (λ m. PrintedNone m source.earlier) (sym row_is.orig_is) none_before)

    run : Run
    run = after_lines (start choice) committed.done

    of : IsOfCommit run.state committed.node source.part
    of = committed.of_commit

    low : of.commit.byte < 2 ^ 8
    low = byte_small source.part.row.orig run.state.mesh of.commit of.is_commit

    short : length of.commit.table ≤ 4096
    short = table_short run.state.algorithm run.state.mesh (lines_hold (start choice) committed.done (first_holds choice)).reachable source.part.row.orig of.commit of.is_commit

    held_same : of.commit.byte ≡ held
    held_same = decimal_injective of.commit.byte held (omega (arith, low)) (omega (arith, held_low)) (sym (row_is.held_text ∙ ap byte_text of.held))

    told_same : source.part.row.told ≡ told
    told_same = decimal_injective source.part.row.told told (let is_byte = of.told in omega (arith, low, is_byte)) (omega (arith, told_low)) (sym row_is.told_text)

    count_same : length source.part.entries ≡ entries
    count_same = decimal_injective (length source.part.entries) entries (let is_table : length source.part.entries ≡ length of.commit.table = ap length of.entries in omega (arith, short, is_table)) few (sym row_is.count)

    shows : ShowsCommit choice lines before orig held told entries after
    shows = record {
      earlier = source.earlier;
      table = source.table;
      front = source.front;
      part = source.part;
      back = source.back;
      parts_are = source.parts_are;
      before_is = source.before_is;
      committed = committed;
      orig_is = row_is.orig_is;
      held_is = of.held ∙ ap Some held_same;
      told_is = told_same;
      count = count_same;
      entries_follow = go_on after front.later (map entry_line source.part.entries) source.behind source.after_is;
    }
