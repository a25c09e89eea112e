use Rattle.std.proofs.Common.{◌≡◌, ◌++◌, OnOk, subst, sym, rules}
use Rattle.mesh_base.specs.declared.address.Mac.{Mac}
use Rattle.mesh_model.specs.Knowledge.Known.{Knowledge}
use Rattle.mesh_model.specs.Knowledge.Offers.{gateway_rows}
use Rattle.mesh_model.specs.Knowledge.Steps.{knowledge}
use Rattle.mesh_model.specs.Routes.Queries.{Queries}
use Rattle.mesh_model.specs.Run.Shown.{mode_of}
use Rattle.mesh_model.specs.Text.Services.{gateway_header, gateway_line, gateway_table_text}
use Rattle.mesh_show.proofs.RowLemmas.{then_rows}
use Rattle.mesh_show.proofs.seen.Seen.show_gateways.Goals as goal

pub returns : goal.returns
returns g c = λ row at.
    let stands = at.standing in
    let now = c.args.self.now.moment in
    let old = c.args.out.now.items in
    let known : (Mac → Queries) → Knowledge = λ queries. knowledge (queries row.mac) row.mac row.log in
    let rows = c.in_ok-rows.ensures (gateway_rows (g.A.Algo.queries row.mac) (known g.A.Algo.queries) now) (λ place answer asked. search rules) in
    let lines = c.put_lines.ensures gateway_line (λ old shown answer new put. search rules) in
    subst (λ (queries : Mac → Queries). OnOk c.put_lines.result (c.put_lines.new.out.items ≡ old ++ gateway_table_text (record {
      name = row.name;
      mode = mode_of (known queries).services.settings.gateway;
      chosen = (known queries).services.choice;
      rows = gateway_rows (queries row.mac) (known queries) now;
    })))
    (sym g.met.A.Choosable.answers)
    (rw (at.named, ← rows, ← c.gw_mode.ensures row.mac row.log stands, ← c.chosen.ensures row.mac row.log stands)
    (then_rows c.put_lines.result gateway_line (gateway_header c.args.self.now.name.now c.gw_mode.result c.chosen.result) old c.gateway_header.new.out.items c.put_lines.new.out.items c.as_slice.result.now c.in_ok-rows.rows.items c.as_slice.ensures.value c.in_ok-gateway_header.ensures.ok lines))
