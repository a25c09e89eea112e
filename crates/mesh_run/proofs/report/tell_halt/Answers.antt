use Rattle.std.proofs.Common.{ℕ, List, [], ◌∷◌, ◌++◌, decimal, codes, subst, ◌∙◌}
use Rattle.std.specs.Io.KnownBytes.{Appends}
use Rattle.std.proofs.KnownBytes.{Appends-trans}
use Rattle.mesh_model.specs.Text.Messages.{halt_text, stop_words}
use Rattle.mesh_run.proofs.report.tell_halt.Goals as goal

pub returns-clause-told : goal.returns-clause-told
unfolding halt_text
returns-clause-told g c =
    let e0 = g.E.Sink.taken c.args.err.now in
    let e1 = g.E.Sink.taken c.write_all.new.sink in
    let e2 = g.E.Sink.taken c.write_all-2.new.sink in
    let e3 = g.E.Sink.taken c.write_all-3.new.sink in
    let e4 = g.E.Sink.taken c.tell_stop.new.err in
    let e5 = g.E.Sink.taken c.write_all-4.new.sink in
    let A : List ℕ → Type 0 = λ text. Appends e1 e2 text in
    let digits = subst A (c.as_bytes.ensures.value ∙ c.format.ensures.text) c.in_ok-write_all-2.ensures.whole in
    let first = codes "batmesh: line " in
    let number = decimal c.args.line in
    let words = stop_words c.args.stop in
    Appends-trans e0 e4 e5 (first ++ number ++ codes ": " ++ words) (10 ∷ [])
    (Appends-trans e0 e3 e4 (first ++ number ++ codes ": ") words
    (Appends-trans e0 e2 e3 (first ++ number) (codes ": ")
    (Appends-trans e0 e1 e2 first number c.in_ok-write_all.ensures.whole digits)
    c.in_ok-write_all-3.ensures.whole) c.in_ok-tell_stop.ensures.told)
    c.in_ok-write_all-4.ensures.whole
