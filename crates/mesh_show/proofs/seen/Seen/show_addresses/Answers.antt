use Rattle.std.proofs.Common.{◌≡◌, length, rules, arith}
use Rattle.mesh_model.specs.Knowledge.Steps.{knowledge}
use Rattle.mesh_model.specs.Services.ArpTable.{pairs_at}
use Rattle.mesh_model.specs.Text.Services.{address_line}
use Rattle.mesh_show.proofs.RowLemmas.{then_rows}
use Rattle.mesh_show.proofs.seen.Seen.show_addresses.Goals as goal

pub returns : goal.returns
returns g c = λ row at.
    let stands = at.standing in
    let rows = c.in_ok-rows.ensures (pairs_at (knowledge (g.A.Algo.queries row.mac) row.mac row.log).services.learned c.args.self.now.moment) (λ place answer asked. search rules) in
    let lines = c.put_lines.ensures address_line (λ old shown answer new put. search rules) in
    let counted : c.len.result ≡ length c.in_ok-rows.rows.items = omega (arith, c.len.ensures, c.in_ok-rows.rows.ok.0) in
    rw (g.met.A.Choosable.answers, at.named, ← rows, ← counted)
    (then_rows c.put_lines.result address_line _ c.args.out.now.items c.address_header.new.out.items c.put_lines.new.out.items c.as_slice.result.now c.in_ok-rows.rows.items c.as_slice.ensures.value c.in_ok-address_header.ensures.ok lines)
