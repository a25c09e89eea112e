-- Lemmas on the reading of a whole input.
use Rattle.std.proofs.Common.{◌≡◌, ℕ, ◌+◌, ◌≤◌, List, [], ◌++◌, length, take, Option, Some, None, IfSome, refl, sym, ap, ◌∙◌, subst, append-nil, length-append, arith}
use Rattle.std.specs.Io.KnownBytes.{Appends, Consumes, IsAtEnd}
use Rattle.std.proofs.KnownBytes.{Consumes-trans}
use Rattle.mesh_base.specs.Faults.{Rose}
use Rattle.mesh_model.specs.declared.input_kind.InputKind.{InputKind}
use Rattle.mesh_model.specs.Scenario.Lines.{complete_lines}
use Rattle.mesh_run.specs.Inner.Kinds.{lines_by, text_by}
use Rattle.mesh_run.proofs.KindLemmas.{seen_lines}
use Rattle.mesh_run.specs.Inner.Lines.{BlamesWrite}
use Rattle.mesh_run.specs.Inner.Progress.{Fails, FailsIn, Stands}
use Rattle.mesh_run.specs.Inner.Reading.{Blames, FailsNear, ReadFails}
use Rattle.mesh_run.specs.Outcome.{PrintsRead}
use Rattle.mesh_laws.proofs.CutLemmas.{complete_lines-cut, unfinished_line-cut}
use Rattle.mesh_run.specs.declared.fault.Fault.{Fault}
use Rattle.mesh_run.specs.declared.fault.Fault.TheVariants.{Halted, Read, Write, Memory}
use Rattle.mesh_run.specs.declared.runner.Runner.{Runner}

pub Rose-after : (old mid new : ℕ) → old ≤ mid → Rose mid new → Rose old new
Rose-after old mid new le rose = grind (arith, le, rose)

-- a fault that isn't of reading, after more of the output was written
pub Blames-write : (reads_old reads_new old mid new : ℕ) (fault : Fault) → old ≤ mid → BlamesWrite mid new fault → Blames reads_old reads_new old new fault
Blames-write reads_old reads_new old mid new (Halted line stop) le h = tt
Blames-write reads_old reads_new old mid new Read le h = absurd h
Blames-write reads_old reads_new old mid new Write le h = Rose-after old mid new le h
Blames-write reads_old reads_new old mid new Memory le h = tt

for-rest : (left : Option (List ℕ)) (P : List ℕ → Type 0) → ((rest : List ℕ) → P rest) → IfSome left P
for-rest None P h = tt
for-rest (Some rest) P h = h rest

for-end : (left : Option (List ℕ)) (P : List ℕ → Type 0) → IsAtEnd left → P [] → IfSome left P
for-end None P end h = tt
for-end (Some rest) P end h = subst P (sym end) h

-- a fault that isn't one of a read
fails-near : (kind : InputKind) (first left base now : Option (List ℕ)) (fault : Fault) → (fault ≡ Read → ⊥) → FailsNear kind first left base now fault → ReadFails kind first left base now fault
fails-near kind first left base now (Halted line stop) other h = h
fails-near kind first left base now Read other h = absurd (other refl)
fails-near kind first left base now Write other h = h
fails-near kind first left base now Memory other h = h

reads-none : (kind : InputKind) (base now : Option (List ℕ)) (least : ℕ) (input : List ℕ) (fault : Fault) → FailsIn kind base now least input fault → fault ≡ Read → ⊥
reads-none kind base now least input fault h is = let P : Fault → Type 0 = λ f. FailsIn kind base now least input f in subst P is h

-- a fault in a piece of at most 4,096 bytes
pub ReadFails-piece : (kind : InputKind) (first left base now : Option (List ℕ)) (read piece : List ℕ) (fault : Fault) → Consumes first left (read ++ piece) → length piece ≤ 4096
    → Fails kind base now (length read + 1) (read ++ piece) fault → ReadFails kind first left base now fault
ReadFails-piece kind first left base now read piece fault took short h =
    fails-near kind first left base now fault (reads-none kind base now (length read + 1) ((read ++ piece) ++ []) fault (h []))
    (record {
      read = read ++ piece;
      took = took;
      least = length read + 1;
      fails = for-rest left (λ rest. FailsIn kind base now (length read + 1) ((read ++ piece) ++ rest) fault) h;
      near = omega (arith, short, length-append read piece);
    })

-- a fault at the end of the input
pub ReadFails-end : (kind : InputKind) (first left base now : Option (List ℕ)) (read : List ℕ) (fault : Fault) → Consumes first left read → IsAtEnd left
    → FailsIn kind base now (length read) read fault → ReadFails kind first left base now fault
ReadFails-end kind first left base now read fault took end h =
    let P : List ℕ → Type 0 = λ rest. FailsIn kind base now (length read) (read ++ rest) fault in
    let Q : List ℕ → Type 0 = λ input. FailsIn kind base now (length read) input fault in
    fails-near kind first left base now fault (reads-none kind base now (length read) read fault h)
    (record { read = read; took = took; least = length read; fails = for-end left P end (subst Q (sym (append-nil read)) h); near = omega arith })

-- a fault of a read: the lines that had come are printed, and the run goes on
pub PrintsRead-from : (kind : InputKind) (first left base now : Option (List ℕ)) (runner : Runner) (read : List ℕ) → Consumes first left read → Stands kind base now runner read
    → length runner.line.items ≤ 4096 → runner.taken ≤ 67108864 → PrintsRead kind base now first left
PrintsRead-from kind first left base now runner read took stands short within =
    let Q : List ℕ → Type 0 = λ text. Appends base now text in
    let rest = runner.line.items in
    let lines_are = complete_lines-cut read stands.lines rest stands.cut in
    record {
      read = read;
      took = took;
      goes_on = record {
        going = (seen_lines kind (complete_lines read)).halt ∙ ap (λ lines. (lines_by kind lines).halt) lines_are ∙ stands.going;
        short = omega (arith, short, ap length (unfinished_line-cut read stands.lines rest stands.cut));
        within = omega (arith, within, stands.taken);
      };
      printed = subst Q (sym (seen_lines kind (complete_lines read)).text) (subst Q (sym (ap (λ lines. text_by kind (lines_by kind lines).state) lines_are)) stands.at.printed);
    }

-- a read of no bytes takes none
pub Consumes-none : (first mid left : Option (List ℕ)) (read buf : List ℕ) (n : ℕ) → n ≡ 0 → Consumes first mid read → Consumes mid left (take n buf) → Consumes first left read
Consumes-none first mid left read buf n none took last =
    let P : ℕ → Type 0 = λ k. Consumes mid left (take k buf) in
    let Q : List ℕ → Type 0 = λ bytes. Consumes first left bytes in
    subst Q (append-nil read) (Consumes-trans first mid left read [] took (subst P none last))
