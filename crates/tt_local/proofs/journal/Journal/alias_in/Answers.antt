use Rattle.std.proofs.Common.{◌+◌, ◌*◌, ◌/◌, ◌%◌, ◌<◌, ◌∙◌, min, ap, subst, arith}
use Rattle.tt_local.specs.AliasSearch.{AreAliasesAt}
use Rattle.tt_local.specs.Journal.{all_runs}
use Rattle.tt_local.proofs.SearchLemmas.{none_at_first, none_at_next, none_in, one_byte, round_within, rounds_all}
use Rattle.tt_local.proofs.RunLemmas.{in_from}
use Rattle.tt_local.proofs.journal.Journal.alias_in.Goals as goal

pub loop-round-init : goal.loop-round-init
loop-round-init c = record {
  none = λ history stands there byte table passed.
      let least = c.min-count.ensures in
      none_at_first (all_runs c.args.self.now) history.commits stands.numbered c.args.run there c.args.number c.args.byte (c.args.byte + 0) c.min-count.result byte c.requires.byte (omega arith) (grind (arith, least));
  passed = λ history stands there byte table passed. passed;
}

pub returns-then-branch-clause-alias : goal.returns-then-branch-clause-alias
returns-then-branch-clause-alias c = λ history stands there byte table passed.
    let run = c.args.run in
    let number = c.args.number in
    let place = c.args.byte + c.loop-round.round * 256 in
    let least = c.min-count.ensures in
    let apart = c.saturating_sub.ensures in
    let in_count = round_within c.min-count.result c.args.byte c.loop-round.round c.div_ceil-round-end.result (c.div_ceil-round-end.ensures ∙ ap (λ k. k / 256 + min 1 (k % 256)) c.saturating_sub-2.ensures) c.loop-round-test.true in
    let within : place < run.count = grind (arith, in_count, least) in
    let older : run.first + place < number = grind (arith, in_count, least, apart) in
    let same = one_byte (all_runs c.args.self.now) history.commits stands.numbered run there number c.args.byte c.loop-round.round byte c.requires.byte within in
    record {
      there = in_from (run.first + place) run (omega arith) (omega (arith, within));
      older = older;
      alias = subst (λ b. AreAliasesAt b number (run.first + place) history.commits) c.if-branch.true
          (c.in_ok-is_alias.ensures.answer history stands same table (c.loop-round.invariant.passed history stands there byte table passed));
      least = none_in history.commits run number place c.min-count.result (run.first + place) (c.loop-round.invariant.none history stands there byte table passed)
          (λ at below in_run. (omega (arith, below), omega (arith, below, in_count)));
    }

pub returns-then-branch-clause-passed : goal.returns-then-branch-clause-passed
returns-then-branch-clause-passed c = λ history stands there byte table passed.
    let least = c.min-count.ensures in
    let in_count = round_within c.min-count.result c.args.byte c.loop-round.round c.div_ceil-round-end.result (c.div_ceil-round-end.ensures ∙ ap (λ k. k / 256 + min 1 (k % 256)) c.saturating_sub-2.ensures) c.loop-round-test.true in
    let same = one_byte (all_runs c.args.self.now) history.commits stands.numbered c.args.run there c.args.number c.args.byte c.loop-round.round byte c.requires.byte (grind (arith, in_count, least)) in
    c.in_ok-is_alias.ensures.passed history stands same table (c.loop-round.invariant.passed history stands there byte table passed)

pub loop-round-preserved : goal.loop-round-preserved
loop-round-preserved c = record {
  none = λ history stands there byte table passed.
      let run = c.args.run in
      let number = c.args.number in
      let place = c.args.byte + c.loop-round.round * 256 in
      let least = c.min-count.ensures in
      let in_count = round_within c.min-count.result c.args.byte c.loop-round.round c.div_ceil-round-end.result (c.div_ceil-round-end.ensures ∙ ap (λ k. k / 256 + min 1 (k % 256)) c.saturating_sub-2.ensures) c.loop-round-test.true in
      let same = one_byte (all_runs c.args.self.now) history.commits stands.numbered run there number c.args.byte c.loop-round.round byte c.requires.byte (grind (arith, in_count, least)) in
      let are = subst (λ b. AreAliasesAt b number (run.first + place) history.commits) c.if-branch.false
      (c.in_ok-is_alias.ensures.answer history stands same table (c.loop-round.invariant.passed history stands there byte table passed)) in
      none_at_next (all_runs c.args.self.now) history.commits stands.numbered run there number c.args.byte c.loop-round.round c.min-count.result byte c.requires.byte (grind (arith, least)) are
      (c.loop-round.invariant.none history stands there byte table passed);
  passed = λ history stands there byte table passed.
      let least = c.min-count.ensures in
      let in_count = round_within c.min-count.result c.args.byte c.loop-round.round c.div_ceil-round-end.result (c.div_ceil-round-end.ensures ∙ ap (λ k. k / 256 + min 1 (k % 256)) c.saturating_sub-2.ensures) c.loop-round-test.true in
      let same = one_byte (all_runs c.args.self.now) history.commits stands.numbered c.args.run there c.args.number c.args.byte c.loop-round.round byte c.requires.byte (grind (arith, in_count, least)) in
      c.in_ok-is_alias.ensures.passed history stands same table (c.loop-round.invariant.passed history stands there byte table passed);
}

pub returns-clause-alias : goal.returns-clause-alias
returns-clause-alias c = λ history stands there byte table passed.
    let run = c.args.run in
    let number = c.args.number in
    let least = c.min-count.ensures in
    let apart = c.saturating_sub.ensures in
    let test = c.loop-round-test.false in
    let all = rounds_all c.min-count.result c.args.byte c.loop-round.round c.div_ceil-round-end.result (c.div_ceil-round-end.ensures ∙ ap (λ k. k / 256 + min 1 (k % 256)) c.saturating_sub-2.ensures) (omega (arith, test)) in
    none_in history.commits run number (c.args.byte + c.loop-round.round * 256) c.min-count.result number (c.loop-round.invariant.none history stands there byte table passed)
    (λ at below in_run. let within : at < c.min-count.result = grind (arith, below, in_run, least, apart) in (omega (arith, within, all), within))
