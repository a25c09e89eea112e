-- What the text of a run says of frames that are sent by table.
use Rattle.std.proofs.Common.{◌≡◌, ◌<◌, ◌^◌, ℕ, List, ◌∷◌, ◌++◌, Some, refl, sym, subst, ◌∙◌, arith}
use Rattle.std.specs.Prelude.{decimal}
use Rattle.std.proofs.lemmas.Fmt.{decimal_injective}
use Rattle.mesh_base.specs.Names.{NamesGiven}
use Rattle.mesh_base.specs.declared.address.Mac.{Mac}
use Rattle.mesh_base.specs.declared.event.Event.{Event}
use Rattle.mesh_base.specs.declared.event.Event.TheVariants.{FrameSent, Received, LanSent, Bridged, Lost, Alias, Pinged, Traced, Arp, Alfred, Route}
use Rattle.mesh_base.specs.declared.event.Reason.TheVariants.{Table}
use Rattle.mesh_model.specs.declared.frame_choice.FrameChoice.{FrameChoice}
use Rattle.mesh_model.specs.Net.Next.{Has}
use Rattle.mesh_model.specs.Run.PlainRun.{after_lines, start}
use Rattle.mesh_model.specs.Run.State.{Happened, Printed}
use Rattle.mesh_model.specs.Text.Events.{event_line, name_text}
use Rattle.mesh_laws.proofs.Schedule.Members.{has_left}
use Rattle.mesh_tie.specs.LinesByTable.{SentRightlyIn}
use Rattle.mesh_tie.specs.ShownTables.{PrintedNone}
use Rattle.mesh_tie.proofs.PrintLemmas.{lines_by_table_are_right}
use Rattle.mesh_lines.specs.FrameText.{SentByName, TableFramesAreRight, table_frame_line}
use Rattle.mesh_lines.specs.LineSources.{IsOfEvent}
use Rattle.mesh_lines.specs.LineWords.{AreNamed, event_kind, of_frame}
use Rattle.mesh_lines.specs.PlainLines.{PlainContents}
use Rattle.mesh_lines.specs.TextLaws.{IsFrontOf}
use Rattle.mesh_lines.specs.TableText.{names_behind}
use Rattle.mesh_lines.proofs.Found.{has_at}
use Rattle.mesh_lines.proofs.FrameFields.{frame_fields}
use Rattle.mesh_lines.proofs.LogFits.{noted_fits}
use Rattle.mesh_lines.proofs.NamesGoOn.{IsNamed, front_named}
use Rattle.mesh_lines.proofs.NodeNames.{name_stays}
use Rattle.mesh_lines.proofs.SourceLemmas.{frames_have_one_source}
use Rattle.mesh_lines.proofs.TableTextLemmas.{IsPlainFront, line_printed, none_printed, plain_front}
use Rattle.mesh_lines.proofs.Words.{hex_from}

-- a frame that was printed as sent by table, by names
frame_printed : (choice : FrameChoice) (lines : List (List ℕ)) (orig : Mac) (earlier : List Printed) (names : NamesGiven) (n m : ℕ) (a b : Mac) (bytes : List ℕ) (later : List Printed) (moment : ℕ) (from : List ℕ)
    → IsNamed (after_lines (start choice) lines).state → (after_lines (start choice) lines).state.printed ≡ earlier ++ Happened names (FrameSent n m a b (Some Table) bytes) ∷ later → PrintedNone orig earlier
    → moment < 2 ^ 64 → decimal m ≡ decimal moment → name_text names a ≡ from → SentByName choice lines orig moment from bytes
frame_printed choice lines orig earlier names n m a b bytes later moment from is printed none low same called =
    let run = after_lines (start choice) lines in
    let event : Event = FrameSent n m a b (Some Table) bytes in
    let h = is.printed (Happened names event) (subst (λ ps. Has ps (Happened names event)) (sym printed) (has_at earlier (Happened names event) later)) in
    let sent : SentRightlyIn run orig m a bytes = lines_by_table_are_right choice lines orig earlier later names n m a b bytes printed none in
    let fits = noted_fits run.state.mesh.nodes sent.place sent.node sent.entry is.fits.logs sent.found (subst (λ log. Has log sent.entry) (sym sent.log_is) (has_at sent.newer sent.entry sent.older)) in
    let at = sent.moment_is in
    let early = fits.low in
    let moment_is : m ≡ moment = decimal_injective m moment (omega (arith, at, early)) low same in
    record {
      me = a;
      named = sym (name_stays names (names_behind choice lines) h.0.more a h.0.nodes h.1) ∙ called;
      sent = subst (λ t. SentRightlyIn run orig t a bytes) moment_is sent;
    }

pub table_frames_are_right : (choice : FrameChoice) (lines : List (List ℕ)) (text : List ℕ) → PlainContents lines → IsFrontOf (after_lines (start choice) lines) text → TableFramesAreRight choice lines text
table_frames_are_right choice lines text plain f before after number moment from to bytes is low from_word to_word are_bytes orig none =
    go source.event source.printed_is source.line_is source.kind_is
  where
    front : IsPlainFront choice lines text
    front = plain_front choice lines text plain f

    printed : List Printed
    printed = (after_lines (start choice) lines).state.printed

    line : List ℕ
    line = table_frame_line number moment from to bytes

    source : IsOfEvent choice printed before line (after ++ front.later)
    source = frames_have_one_source choice printed front.plain before line (after ++ front.later) (line_printed choice lines text front before line after is) refl

    none_before : PrintedNone orig source.earlier
    none_before = none_printed choice (names_behind choice lines) (after_lines (start choice) lines).state.mesh.events orig source.earlier
        (λ item has. front.named.printed item (subst (λ ps. Has ps item) (sym source.printed_is) (has_left source.earlier (Happened source.names source.event ∷ source.later) item has)))
        (λ number earlier has. none number earlier (subst (λ ls. Has ls (event_line (names_behind choice lines) (Alias orig number earlier))) (sym source.before_is) has))

    named : (event : Event) → printed ≡ source.earlier ++ Happened source.names event ∷ source.later → AreNamed source.names
    named event is =
        let h = front.named.printed (Happened source.names event) (subst (λ ps. Has ps (Happened source.names event)) (sym is) (has_at source.earlier (Happened source.names event) source.later)) in
        front_named source.names (names_behind choice lines) h.0 front.named.named

    go : (event : Event) → printed ≡ source.earlier ++ Happened source.names event ∷ source.later → line ≡ event_line source.names event → event_kind event ≡ of_frame → SentByName choice lines orig moment from bytes
    go (FrameSent k m a b reason sent) at line_is kind =
        let fields = frame_fields source.names (named (FrameSent k m a b reason sent) at) k m a b reason sent number moment from to bytes from_word to_word line_is in
        let same : sent ≡ bytes = sym (hex_from bytes sent are_bytes fields.by_table_is.bytes_are) in
        frame_printed choice lines orig source.earlier source.names k m a b bytes source.later moment from front.named
        (subst (λ bs. printed ≡ source.earlier ++ Happened source.names (FrameSent k m a b (Some Table) bs) ∷ source.later) same
        (subst (λ r. printed ≡ source.earlier ++ Happened source.names (FrameSent k m a b r sent) ∷ source.later) fields.by_table_is.reason_is at))
        none_before low fields.moment_is fields.from_is
    go (Received m node vid src dst words) at line_is kind = cc
    go (LanSent k m lan sent) at line_is kind = cc
    go (Bridged m lan vid src dst words) at line_is kind = cc
    go (Lost m node vid src dst reason) at line_is kind = cc
    go (Alias node commit earlier) at line_is kind = cc
    go (Pinged node target seq result) at line_is kind = cc
    go (Traced node target result) at line_is kind = cc
    go (Arp node ip result) at line_is kind = cc
    go (Alfred node type_no result) at line_is kind = cc
    go (Route now node orig next) at line_is kind = cc
