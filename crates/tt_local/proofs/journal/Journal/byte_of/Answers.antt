use Rattle.std.proofs.Common.{◌≡◌, ◌∙◌, ◌++◌, false, [], ◌∷◌, None, Some, option_map, ap, length, sym, subst}
use Rattle.mesh_model.specs.Tables.Versions.{Version}
use Rattle.tt_local.specs.Journal.{JournalView, present_run}
use Rattle.tt_local.specs.Runs.{IsAmong, is_in, run_of}
use Rattle.tt_local.specs.declared.run.Run.{Run}
use Rattle.tt_local.proofs.RunLemmas.{found_among, last_there, none_join, there_still}
use Rattle.tt_local.proofs.journal.Journal.byte_of.Goals as goal

pub returns-then-has-clause-byte : goal.returns-then-has-clause-byte
returns-then-has-clause-byte c = λ history stands version at.
    let view = c.args.self.now in
    let there : IsAmong c.present-present.result (view.runs ++ present_run view ∷ []) = subst (λ (r : Run). IsAmong r (view.runs ++ present_run view ∷ [])) (sym c.present-present.ensures) (length view.runs, last_there view.runs (present_run view)) in
    stands.numbered.within c.present-present.result c.args.number version there (sym c.has.ensures ∙ c.if-has.true) at

pub returns-in-None-clause-byte : goal.returns-in-None-clause-byte
returns-in-None-clause-byte c = λ history stands version at.
    let view = c.args.self.now in
    let off : is_in c.args.number (present_run view) ≡ false = ap (is_in c.args.number) (sym c.present-present.ensures) ∙ sym c.has.ensures ∙ c.if-has.false in
    let runs = c.as_slice.ensures.value ∙ ap (λ (v : JournalView). v.runs) c.self.view_is in
    let none : run_of c.args.number view.runs ≡ None = ap (run_of c.args.number) (sym runs) ∙ sym c.run_of.ensures.found ∙ ap (option_map (λ run. run.now)) c.in-None.is in
    ap (λ (v : Version). v.byte) (stands.numbered.left_out c.args.number version (none_join c.args.number view.runs (present_run view) none off) at)

pub returns-in-Some-clause-byte : goal.returns-in-Some-clause-byte
returns-in-Some-clause-byte c = λ history stands version at.
    let view = c.args.self.now in
    let runs = c.as_slice.ensures.value ∙ ap (λ (v : JournalView). v.runs) c.self.view_is in
    let found : run_of c.args.number view.runs ≡ Some c.in-Some.run'.now = ap (run_of c.args.number) (sym runs) ∙ sym c.run_of.ensures.found ∙ ap (option_map (λ run. run.now)) c.in-Some.is in
    let there = found_among c.args.number view.runs c.in-Some.run'.now found in
    stands.numbered.within c.in-Some.run'.now c.args.number version (there_still view.runs c.in-Some.run'.now (present_run view) there.0) there.1 at
