use Rattle.std.proofs.Common.{◌≡◌, ◌++◌, ◌∙◌, ◌+◌, ap, length, rules, arith}
use Rattle.std.specs.Prelude.{flat_map}
use Rattle.mesh_model.specs.Knowledge.Steps.{knowledge}
use Rattle.mesh_model.specs.Clients.Mentions.{mentions}
use Rattle.mesh_model.specs.Commits.History.{history}
use Rattle.mesh_model.specs.Knowledge.Offers.{group_rows}
use Rattle.mesh_model.specs.Text.Services.{group_header, groups_line, joined_line}
use Rattle.mesh_show.proofs.RowLemmas.{then_more, then_rows}
use Rattle.mesh_show.proofs.seen.Seen.show_groups.Goals as goal

pub returns : goal.returns
returns g c = λ row at.
    let stands = at.standing in
    let queries = g.A.Algo.queries row.mac in
    let old = c.args.out.now.items in
    let has = c.locals.ensures row.mac row.log stands in
    let joined = c.in_ok-joined.ensures (mentions row.mac row.log) (history row.mac row.log) has.since has.stand (omega (arith, has.settled, at.past)) in
    let rows = c.in_ok-rows.ensures (group_rows queries (knowledge queries row.mac row.log) c.args.self.now.moment) (λ place answer asked. search rules) in
    let keys = c.in_ok-put_lines.ensures joined_line (λ old shown answer new put. search rules) in
    let lines = c.put_lines-2.ensures groups_line (λ old shown answer new put. search rules) in
    let counted : c.len.result + c.len-2.result ≡ length c.in_ok-joined.joined.items + length c.in_ok-rows.rows.items =
    omega (arith, c.len.ensures, c.in_ok-joined.joined.ok.0, c.len-2.ensures, c.in_ok-rows.rows.ok.0) in
    let header = group_header c.args.self.now.name.now (c.len.result + c.len-2.result) in
    let keyed = keys ∙ ap (λ items. c.group_header.new.out.items ++ flat_map joined_line items) c.as_slice.ensures.value in
    rw (g.met.A.Choosable.answers, at.named, ← rows, ← joined, ← counted)
    (then_rows c.put_lines-2.result groups_line (header ++ flat_map joined_line c.in_ok-joined.joined.items) old c.put_lines.new.out.items c.put_lines-2.new.out.items c.as_slice-2.result.now c.in_ok-rows.rows.items c.as_slice-2.ensures.value
    (then_more header (flat_map joined_line c.in_ok-joined.joined.items) old c.group_header.new.out.items c.put_lines.new.out.items c.in_ok-group_header.ensures.ok keyed) lines)
