use Rattle.std.proofs.Common.{◌≡◌, ◌++◌, Bor, OnOk, length, subst, sym, rules, arith}
use Rattle.mesh_base.specs.declared.address.Mac.{Mac}
use Rattle.mesh_model.specs.Knowledge.Known.{Knowledge}
use Rattle.mesh_model.specs.Knowledge.Steps.{knowledge}
use Rattle.mesh_model.specs.Routes.Queries.{Queries}
use Rattle.mesh_model.specs.Services.Facts.{facts_at}
use Rattle.std.proofs.lemmas.List.{length-map}
use Rattle.std.proofs.lemmas.List.Folds.{flat_map-map}
use Rattle.mesh_model.specs.declared.service.KeptFact.{KeptFact}
use Rattle.mesh_model.specs.Text.Services.{fact_header, fact_line, fact_table_text}
use Rattle.mesh_show.proofs.RowLemmas.{then_rows}
use Rattle.mesh_show.proofs.seen.Seen.show_facts.Goals as goal

pub returns : goal.returns
returns g c = λ row at.
    let now = c.args.self.now.moment in
    let old = c.args.out.now.items in
    let kept_of : Bor KeptFact → KeptFact = λ lent. lent.now in
    let kept = c.in_ok-rows.rows.items in
    let rows = c.in_ok-rows.ensures row.mac row.log at.standing in
    let lines = c.put_lines.ensures (λ lent. fact_line now lent.now) (λ old shown answer new put. search rules) in
    let counted : c.len.result ≡ length kept = omega (arith, c.len.ensures, c.in_ok-rows.rows.ok.0) in
    let known : (Mac → Queries) → Knowledge = λ queries. knowledge (queries row.mac) row.mac row.log in
    subst (λ (queries : Mac → Queries). OnOk c.put_lines.result (c.put_lines.new.out.items ≡ old ++ fact_table_text (record {
      name = row.name;
      mode = (known queries).services.settings.fact_store;
      now = now;
      rows = facts_at (known queries).services.facts now;
    })))
    (sym g.met.A.Choosable.answers)
    (rw (at.named, ← rows, length-map kept kept_of, ← counted, ← c.alfred_mode.ensures row.mac row.log at.standing, flat_map-map (fact_line now) kept_of kept)
    (then_rows c.put_lines.result (λ lent. fact_line now lent.now) (fact_header c.args.self.now.name.now c.alfred_mode.result c.len.result) old c.fact_header.new.out.items c.put_lines.new.out.items c.as_slice.result.now kept c.as_slice.ensures.value c.in_ok-fact_header.ensures.ok lines))
