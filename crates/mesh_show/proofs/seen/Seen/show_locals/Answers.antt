use Rattle.std.proofs.Common.{◌≡◌, ◌++◌, length, rules, arith}
use Rattle.std.specs.Prelude.{flat_map}
use Rattle.mesh_model.specs.Clients.Mentions.{mentions}
use Rattle.mesh_model.specs.Commits.History.{history}
use Rattle.mesh_model.specs.Text.Tables.{local_header, local_line, vlan_line}
use Rattle.tt_table.specs.Sums.{named_sums}
use Rattle.mesh_show.proofs.RowLemmas.{then_more, then_rows}
use Rattle.mesh_show.proofs.seen.Seen.show_locals.Goals as goal

pub returns : goal.returns
returns g c = λ row at.
    let has = c.locals-locals.ensures row.mac row.log at.standing in
    let seen = mentions row.mac row.log in
    let made = history row.mac row.log in
    let rows = c.in_ok-rows.ensures seen made has.since has.stand (omega (arith, has.settled, at.past)) in
    let byte = c.last_byte.ensures seen made has.since has.stand in
    let sums = c.last_sums.ensures seen made has.since has.stand in
    let lines = c.put_lines.ensures local_line (λ old shown answer new put. search rules) in
    let counted : c.len.result ≡ length c.in_ok-rows.rows.items = omega (arith, c.len.ensures, c.in_ok-rows.rows.ok.0) in
    let header = local_header c.args.self.now.name.now c.last_byte.result c.len.result in
    let vlans = flat_map vlan_line (named_sums c.last_sums.result.now) in
    rw (at.named, ← rows, ← counted, ← byte, ← sums)
    (then_rows c.put_lines.result local_line (header ++ vlans) c.args.out.now.items c.put_vlans.new.out.items c.put_lines.new.out.items c.as_slice.result.now c.in_ok-rows.rows.items c.as_slice.ensures.value
    (then_more header vlans c.args.out.now.items c.local_header.new.out.items c.put_vlans.new.out.items c.in_ok-local_header.ensures.ok c.in_ok-put_vlans.ensures.ok) lines)
