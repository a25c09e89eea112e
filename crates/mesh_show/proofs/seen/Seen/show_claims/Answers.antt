use Rattle.std.proofs.Common.{◌≡◌, ◌++◌, ◌∙◌, List, ℕ, Option, Some, None, refl, ap, length, rules, arith}
use Rattle.std.specs.Prelude.{option_and_then, option_map}
use Rattle.mesh_base.specs.Names.{lan_name}
use Rattle.mesh_model.specs.Bridges.Claims.{claims_at}
use Rattle.mesh_model.specs.Clients.Lans.{LanOf, bridge}
use Rattle.mesh_model.specs.Text.Claims.{claim_header, claim_line}
use Rattle.mesh_show.proofs.RowLemmas.{then_rows}
use Rattle.mesh_show.proofs.seen.Seen.show_claims.Goals as goal

-- the name of a LAN by its number
by_number : (named : ℕ → Option (List ℕ)) (lan : Option LanOf) → option_and_then named (option_map (λ (l : LanOf). l.number) lan) ≡ option_and_then (λ (l : LanOf). named l.number) lan
by_number named None = refl
by_number named (Some lan) = refl

pub returns : goal.returns
returns g c = λ row at.
    let named = lan_name c.args.names.now.lans in
    let lan = c.name_of.ensures ∙ ap (option_and_then named) (c.lan.ensures row.mac row.log at.standing) ∙ by_number named (bridge row.log).lan in
    let stands = at.standing in
    let rows = c.in_ok-rows.ensures (claims_at (bridge row.log).claims c.args.self.now.moment) (λ place answer asked. search rules) in
    let lines = c.put_lines.ensures claim_line (λ old shown answer new put. search rules) in
    let counted : c.len.result ≡ length c.in_ok-rows.rows.items = omega (arith, c.len.ensures, c.in_ok-rows.rows.ok.0) in
    rw (at.named, ← rows, ← counted)
    (then_rows c.put_lines.result claim_line _ c.args.out.now.items c.claim_header.new.out.items c.put_lines.new.out.items c.as_slice.result.now c.in_ok-rows.rows.items c.as_slice.ensures.value
    (c.in_ok-claim_header.ensures.ok ∙ ap (λ l. c.args.out.now.items ++ claim_header c.args.self.now.name.now l c.len.result) lan) lines)
