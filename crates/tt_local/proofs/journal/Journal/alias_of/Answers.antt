use Rattle.std.proofs.Common.{◌≡◌, ◌∙◌, length, get_or, ap, sym, subst, arith, rules}
use Rattle.std.proofs.lemmas.Option.{slice_get_within}
use Rattle.tt_local.specs.AliasSearch.{IsFoundIn, IsLeastIn}
use Rattle.tt_local.specs.Journal.{HasTable, JournalView, all_runs, present_run}
use Rattle.tt_local.specs.Runs.{IsAmong}
use Rattle.tt_local.specs.declared.run.Run.{Run}
use Rattle.tt_local.proofs.SearchLemmas.{found_at_last, found_before_last, none_more, run_walked}
use Rattle.tt_local.proofs.RunLemmas.{last_there}
use Rattle.tt_local.proofs.journal.Journal.alias_of.Goals as goal

pub returns-in-Some : goal.returns-in-Some
returns-in-Some c = λ history stands.
    let run : Run = get_or c.deref-run-items.result.now c.loop-run.run-index (record { first = 0; count = 0 }) in
    let walked = run_walked c.args.self.now c.deref-run-items.result.now c.loop-run.run-index (record { first = 0; count = 0 }) (c.deref-run-items.ensures.value ∙ ap (λ (v : JournalView). v.runs) c.self.view_is) c.loop-run-test.true in
    let table = subst (λ t. HasTable c.args.number t history.commits) (sym c.as_slice.ensures.value) (c.in_ok-table.ensures history stands) in
    let least = c.in_ok-found.ensures.alias history stands walked.there (c.byte_of-byte.ensures.byte history stands) table (c.loop-run.invariant.passed history stands) in
    let found : IsFoundIn c.in-Some.earlier run c.args.number history.commits = subst (λ o. IsLeastIn o run c.args.number history.commits) c.in-Some.is least in
    sym (found_before_last c.args.self.now history stands c.loop-run.run-index run walked.at c.args.number c.in-Some.earlier c.requires.made found (c.loop-run.invariant.none history stands))

pub loop-run-preserved : goal.loop-run-preserved
loop-run-preserved c = record {
  none = λ history stands.
      let run : Run = get_or c.deref-run-items.result.now c.loop-run.run-index (record { first = 0; count = 0 }) in
      let walked = run_walked c.args.self.now c.deref-run-items.result.now c.loop-run.run-index (record { first = 0; count = 0 }) (c.deref-run-items.ensures.value ∙ ap (λ (v : JournalView). v.runs) c.self.view_is) c.loop-run-test.true in
      let table = subst (λ t. HasTable c.args.number t history.commits) (sym c.as_slice.ensures.value) (c.in_ok-table.ensures history stands) in
      let least = c.in_ok-found.ensures.alias history stands walked.there (c.byte_of-byte.ensures.byte history stands) table (c.loop-run.invariant.passed history stands) in
      none_more c.args.self.now.runs history.commits c.args.number c.loop-run.run-index run walked.at (subst (λ o. IsLeastIn o run c.args.number history.commits) c.in_default.is least) (c.loop-run.invariant.none history stands);
  passed = λ history stands.
      let walked = run_walked c.args.self.now c.deref-run-items.result.now c.loop-run.run-index (record { first = 0; count = 0 }) (c.deref-run-items.ensures.value ∙ ap (λ (v : JournalView). v.runs) c.self.view_is) c.loop-run-test.true in
      let table = subst (λ t. HasTable c.args.number t history.commits) (sym c.as_slice.ensures.value) (c.in_ok-table.ensures history stands) in
      c.in_ok-found.ensures.passed history stands walked.there (c.byte_of-byte.ensures.byte history stands) table (c.loop-run.invariant.passed history stands);
}

pub returns : goal.returns
returns c = λ history stands.
    let view = c.args.self.now in
    let runs = c.deref-run-items.ensures.value ∙ ap (λ (v : JournalView). v.runs) c.self.view_is in
    let test = c.loop-run-test.false in
    let table = subst (λ t. HasTable c.args.number t history.commits) (sym c.as_slice-2.ensures.value) (c.in_ok-table.ensures history stands) in
    let there : IsAmong c.present.result (all_runs view) = subst (λ (r : Run). IsAmong r (all_runs view)) (sym c.present.ensures) (length view.runs, last_there view.runs (present_run view)) in
    let least = c.in_ok-found-2.ensures.alias history stands there (c.byte_of-byte.ensures.byte history stands) table (c.loop-run.invariant.passed history stands) in
    let found = subst (λ (r : Run). IsLeastIn c.in_ok-found-2.found r c.args.number history.commits) c.present.ensures least in
    let same : c.map.result ≡ c.in_ok-found-2.found = search rules in
    same ∙ sym (found_at_last view history stands c.args.number c.in_ok-found-2.found c.requires.made found
    (λ place run at.
    let within = slice_get_within view.runs place run at in
    let long = ap length runs in
    c.loop-run.invariant.none history stands place run (omega (arith, within, long, test)) at))
