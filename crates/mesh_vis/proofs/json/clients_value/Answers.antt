use Rattle.std.proofs.Common.{◌≡◌, ◌∙◌, ap, arith, map, rules, sym, take_all}
use Rattle.serde_json.specs.Data.{array, string}
use Rattle.serde_json.specs.View.{items_of, view}
use Rattle.serde_json.specs.declared.value.Value.{Array, the_lemmas}
use Rattle.mesh_model.specs.Text.Pictures.{client_data, list_data}
use Rattle.mesh_vis.proofs.Rows.{one_more}
use Rattle.mesh_vis.proofs.json.clients_value.Goals as goal

pub loop-i-preserved : goal.loop-i-preserved
loop-i-preserved c = one_more client_data c.loop-i.items.items c.push.new.self.items c.args.picture.now.clients c.loop-i.i c.unwrap.result
    c.from.result c.loop-i.invariant c.in_ok-push.ensures.items (sym c.client_at.ensures ∙ c.unwrap.ensures)
    (c.from.ensures ∙ ap string c.in_ok-client.ensures)

pub returns : goal.returns
returns c =
    let built : view (Array c.loop-i.items) ≡ array (items_of (map view c.loop-i.items.items)) = search (rules, the_lemmas) in
    built ∙ ap list_data (c.loop-i.invariant
    ∙ ap (map client_data) (take_all c.loop-i.i c.args.picture.now.clients (omega (arith, c.clients-i-end.ensures, c.loop-i-test.false))))
