use Rattle.std.proofs.Common.{◌≡◌, [], ◌∷◌, ◌++◌, ◌+◌, ◌-◌, length, take, drop, get_or, arith, ap, append_assoc, length-append, take-append-drop, sym, ◌∙◌}
use Rattle.std.proofs.lemmas.List.{drop_more}
use Rattle.std.proofs.lemmas.Result.{err_from_is_err_and}
use Rattle.mesh_run.proofs.ProgressLemmas.{Fails-later}
use Rattle.mesh_run.proofs.runner.Runner.take_piece.Goals as goal

pub returns-in_err-take_lines-2-clause-failed : goal.returns-in_err-take_lines-2-clause-failed
returns-in_err-take_lines-2-clause-failed g c = λ kind base read stands.
    let p = err_from_is_err_and c.from_residual-in_err-take_lines-2.result c.from_residual-in_err-take_lines-2.ensures.1 in
    let piece = c.args.piece.now in
    let room = 67108864 - c.args.self.now.taken in
    let all = ap (λ bytes. read ++ bytes) (sym (take-append-drop room piece)) ∙ sym (append_assoc read (take room piece) (drop room piece)) in
    rw (p.1, p.2)
    (Fails-later kind base (g.K.Sink.taken c.take_lines-2.new.out) (length read + 1) (length read + 1) (read ++ take room piece) (read ++ piece) (drop room piece)
    c.in_err-take_lines-2.field-0.0 (omega arith) all (c.in_err-take_lines-2.ensures.failed kind base read stands))

pub returns-clause-failed : goal.returns-clause-failed
returns-clause-failed g c = λ kind base read stands.
    let piece = c.args.piece.now in
    let room = 67108864 - c.args.self.now.taken in
    let byte = get_or piece room 0 in
    let front = read ++ take room piece in
    let now = g.K.Sink.taken c.take_lines-2.new.out in
    let more = drop (room + 1) piece in
    let split : piece ≡ take room piece ++ byte ∷ more = sym (take-append-drop room piece) ∙ ap (λ bytes. take room piece ++ bytes) (drop_more piece room 0 (omega arith)) in
    let all : read ++ piece ≡ (front ++ byte ∷ []) ++ more = ap (λ bytes. read ++ bytes) split ∙ sym (append_assoc read (take room piece) (byte ∷ more))
    ∙ sym (append_assoc front (byte ∷ []) more) in
    Fails-later kind base now (length front + 1) (length read + 1) (front ++ byte ∷ []) (read ++ piece) more c.past_input.result
    (omega (arith, length-append read (take room piece))) all
    (c.past_input.ensures.failed kind base now front (c.in_ok-take_lines-2.ensures.ok kind base read stands))

pub returns-clause-faults : goal.returns-clause-faults
returns-clause-faults g c = record {
  kept = c.in_ok-take_lines-2.ensures.faults.kept;
  cause = c.past_input.ensures.blameless (g.K.Sink.faults c.args.out.now) (g.K.Sink.faults c.take_lines-2.new.out);
}
