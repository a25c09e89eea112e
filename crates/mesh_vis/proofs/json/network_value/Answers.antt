use Rattle.std.proofs.Common.{◌≡◌, ◌∙◌, Bor, Global, Option, Vec, ap, arith, map, rules, sym, take_all}
use Rattle.std.specs.Prelude.{filter_map, option_map}
use Rattle.serde_json.specs.Data.{array}
use Rattle.serde_json.specs.View.{items_of, view}
use Rattle.serde_json.specs.declared.value.Value.{Array, Value, the_lemmas}
use Rattle.mesh_model.specs.declared.service.Fact.{Fact}
use Rattle.mesh_model.specs.declared.service.KeptFact.{KeptFact}
use Rattle.mesh_model.specs.Text.Pictures.{fact_data, list_data}
use Rattle.mesh_vis.proofs.Rows.{picks_more, picks_none}
use Rattle.mesh_vis.proofs.json.network_value.Goals as goal
use Rattle.mesh_vis.proofs.json.network_value.Goals.{in-Some+in_ok-push, in_default}

-- the fact of a row
abbrev fact_in : Bor KeptFact → Fact
fact_in row = row.now.fact

pub loop-kept-preserved : goal.loop-kept-preserved
loop-kept-preserved c = elim c.match-branch-2.branch [
  | in-Some+in_ok-push w ↦ ap (λ (items : Vec Value Global). map view items.items) w.items-is
      ∙ picks_more fact_data fact_in c.loop-kept.items.items w.push.new.self.items c.args.rows.now c.loop-kept.kept-index c.kept-item.result w.in-Some.value
      c.loop-kept.invariant c.loop-kept-test.true c.kept-item.is w.in_ok-push.ensures.items
      (sym c.in_ok-value.ensures ∙ ap (λ (found : Option Value). option_map view found) w.in-Some.is)
  | in_default w ↦ ap (λ (items : Vec Value Global). map view items.items) w.items-is
      ∙ picks_none fact_data fact_in c.loop-kept.items.items c.args.rows.now c.loop-kept.kept-index c.kept-item.result
      c.loop-kept.invariant c.loop-kept-test.true c.kept-item.is
      (sym c.in_ok-value.ensures ∙ ap (λ (found : Option Value). option_map view found) w.in_default.is)
]

pub returns : goal.returns
returns c =
    let built : view (Array c.loop-kept.items) ≡ array (items_of (map view c.loop-kept.items.items)) = search (rules, the_lemmas) in
    built ∙ ap list_data (c.loop-kept.invariant
    ∙ ap (λ rows. filter_map fact_data (map fact_in rows)) (take_all c.loop-kept.kept-index c.args.rows.now (omega (arith, c.loop-kept-test.false))))
