-- Lemmas on the run of generated lines: it ends where its runner stands, since they end with a newline.
use Rattle.std.proofs.Common.{◌≡◌, ◌∙◌, ◌⊎◌, inl, inr, ℕ, suc, ◌+◌, true≢false, List, [], ◌∷◌, ◌++◌, length, drop, Option, Some, codes, refl, sym, ap, subst, append_assoc, length-append, arith}
use Rattle.std.specs.List.{concat}
use Rattle.mesh_generate.specs.declared.summary.Counts.{Counts}
use Rattle.mesh_laws.specs.Cuts.{IsUnbroken}
use Rattle.mesh_laws.proofs.CutLemmas.{open_line}
use Rattle.mesh_model.specs.declared.frame_choice.FrameChoice.TheVariants.{Hidden}
use Rattle.mesh_model.specs.declared.input_kind.InputKind.TheVariants.{Scenario}
use Rattle.mesh_model.specs.Run.Generated.{generated_input, generated_run, generated_text, node_lines, ring_lines, second_lines, summary, summary_line, traffic_lines}
use Rattle.mesh_model.specs.Run.PlainRun.{Run, after_lines, output, plain_run, start}
use Rattle.mesh_model.specs.Scenario.Lines.{newline}
use Rattle.mesh_model.specs.Text.PacketLines.{line_of}
use Rattle.mesh_scene.specs.Counts.{HasCounts}
use Rattle.mesh_run.specs.Inner.Generation.{HasGeneratedCause, Summarizes, kept_fault}
use Rattle.mesh_run.specs.Inner.Progress.{FailsIn, HaltsFrom, Stands}
use Rattle.mesh_run.specs.declared.fault.Fault.{Fault}
use Rattle.mesh_run.specs.declared.fault.Fault.TheVariants.{Halted, Read, Write, Memory}
use Rattle.mesh_run.specs.declared.runner.Runner.{Runner}
use Rattle.mesh_run.proofs.EndLemmas.{lines_by-end, nil-from_length}

-- ---- the end of the lines

abbrev Ends : List ℕ → Type 0
Ends text = (front : List ℕ) × (text ≡ front ++ newline ∷ [])

ends-behind : (a b : List ℕ) → Ends b → Ends (a ++ b)
ends-behind a b ends = (a ++ ends.0, ap (λ text. a ++ text) ends.1 ∙ sym (append_assoc a ends.0 (newline ∷ [])))

line-ends : (parts : List (List ℕ)) → Ends (line_of parts)
line-ends parts = (concat parts, refl)

second-ends : (nodes second x : ℕ) → Ends (second_lines nodes second x)
unfolding second_lines
second-ends nodes second x = ends-behind _ (line_of (codes "run 1000" ∷ [])) (line-ends (codes "run 1000" ∷ []))

traffic-ends : (nodes seconds : ℕ) → Ends (traffic_lines nodes (suc seconds))
unfolding traffic_lines
traffic-ends nodes seconds = ends-behind (traffic_lines nodes seconds) _ (second-ends nodes (seconds + 1) _)

input-ends : (nodes : ℕ) → Ends (generated_input nodes)
unfolding generated_input
input-ends nodes = ends-behind (line_of (codes "algo iv" ∷ []) ++ node_lines nodes ++ ring_lines nodes nodes) (traffic_lines nodes 60) (traffic-ends nodes 59)

-- ---- nothing is left unfinished

broken : (text : List ℕ) → IsUnbroken (text ++ newline ∷ []) → ⊥
broken [] h = true≢false h.0
broken (b ∷ text) h = broken text h.1

last-part : (before rest front : List ℕ) → before ++ rest ≡ front ++ newline ∷ [] → (rest ≡ []) ⊎ Ends rest
last-part [] rest front is = inr (front, is)
last-part (a ∷ before) rest [] is = inl (nil-from_length rest (omega (arith, ap length is, length-append (a ∷ before) rest)))
last-part (a ∷ before) rest (f ∷ front) is = last-part before rest front (ap (drop 1) is)

none-left : (before rest front : List ℕ) → before ++ rest ≡ front ++ newline ∷ [] → IsUnbroken rest → rest ≡ []
none-left before rest front is whole = either (last-part before rest front is)
  where
    either : (rest ≡ []) ⊎ Ends rest → rest ≡ []
    either (inl none) = none
    either (inr ends) = absurd (broken ends.0 (subst IsUnbroken ends.1 whole))

run-is : (nodes : ℕ) (base now : Option (List ℕ)) (runner : Runner) → (stands : Stands (Scenario Hidden) base now runner (generated_input nodes)) → generated_run nodes ≡ after_lines (start Hidden) stands.lines
unfolding plain_run
run-is nodes base now runner stands =
    let run = after_lines (start Hidden) stands.lines in
    let ends = input-ends nodes in
    let none = none-left (concat stands.lines) runner.line.items ends.0 (sym stands.cut.bytes_are ∙ ends.1) stands.cut.unbroken in
    lines_by-end (Scenario Hidden) base now runner (generated_input nodes) stands ∙ ap (λ rest. after_lines run (open_line rest)) none

-- ---- the counts

summary-is : (nodes : ℕ) (run : Run) (text : List ℕ) (counts : Counts) → text ≡ output run → HasCounts nodes run.state text counts
    → summary_line counts.nodes counts.frames counts.received counts.commits counts.ok ≡ summary nodes run.state (output run)
summary-is nodes run text counts printed has = rw (has.nodes_are, has.frames_are, has.received_are, has.commits_are, has.ok_are, printed) refl

pub summarized : (nodes : ℕ) (text line : List ℕ) (runner : Runner) (counts : Counts) → (stands : Stands (Scenario Hidden) (Some []) (Some text) runner (generated_input nodes))
    → HasCounts nodes (after_lines (start Hidden) stands.lines).state text counts → line ≡ summary_line counts.nodes counts.frames counts.received counts.commits counts.ok
    → Summarizes nodes line
unfolding generated_text
summarized nodes text line runner counts stands has is =
    let run = after_lines (start Hidden) stands.lines in
    let whole = run-is nodes (Some []) (Some text) runner stands in
    let P : Run → Type 0 = λ r. line ≡ summary nodes r.state (output r) in
    record {
      halt = ap (λ (r : Run). r.halt) whole ∙ stands.going;
      line_is = subst P (sym whole) (is ∙ summary-is nodes run text counts stands.at.printed has);
    }

-- ---- faults

halt-of : (nodes least line : ℕ) (stop : _) (base now : Option (List ℕ)) (input : List ℕ) → input ≡ generated_input nodes → HaltsFrom (Scenario Hidden) base now least input line stop
    → (generated_run nodes).halt ≡ Some (record { line = line; stop = stop })
halt-of nodes least line stop base now input is h = ap (λ bytes. (plain_run Hidden bytes).halt) (sym is) ∙ h.halt

pub generated-cause : (nodes least : ℕ) (base now : Option (List ℕ)) (fault : Fault) (input : List ℕ) → input ≡ generated_input nodes → FailsIn (Scenario Hidden) base now least input fault
    → HasGeneratedCause nodes (kept_fault fault)
generated-cause nodes least base now (Halted line stop) input is h = halt-of nodes least line stop base now input is h
generated-cause nodes least base now Read input is h = h
generated-cause nodes least base now Write input is h = tt
generated-cause nodes least base now Memory input is h = tt
