use Rattle.std.proofs.Common.{◌≡◌, Some, ap, arith, slice_get, subst, take, ◌∙◌, rules}
use Rattle.std.proofs.lemmas.Grind.{common_steps}
use Rattle.alfred_core.specs.Facts.{FactsStand}
use Rattle.alfred_store.specs.Answers.{facts_in}
use Rattle.alfred_store.specs.StoreStands.{taken_calls}
use Rattle.alfred_store.proofs.StoreLemmas.{one_taken}
use Rattle.alfred_store.proofs.store.take_whole.Goals as goal

pub loop-i-preserved : goal.loop-i-preserved
loop-i-preserved c =
    λ me calls stands.
    let came = c.in-Whole.came in
    let found : slice_get came c.loop-i.i ≡ Some c.unwrap-fact.result.now = search rules in
    subst (FactsStand c.take.new.self me) (one_taken c.args.now c.args.sender came c.loop-i.i c.unwrap-fact.result.now calls found)
    (c.in_ok-take.ensures.ok me (taken_calls c.args.now c.args.sender (Some (take c.loop-i.i came)) calls) (c.loop-i.invariant me calls stands))

pub returns : goal.returns
returns c =
    λ me calls stands.
    let came = c.in-Whole.came in
    let all : take c.loop-i.i came ≡ came = grind (arith, common_steps) in
    let whole : Some came ≡ facts_in c.args.txn.now = search rules in
    subst (λ facts. FactsStand c.loop-i.facts me (taken_calls c.args.now c.args.sender facts calls)) (ap (λ facts. Some facts) all ∙ whole) (c.loop-i.invariant me calls stands)
