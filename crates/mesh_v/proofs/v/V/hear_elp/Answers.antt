use Rattle.std.proofs.Common.{◌∙◌, ap, ap₂, sym, subst, cond, Some, rules}
use Rattle.std.specs.List.Sorted.{IsStrictlySortedBy}
use Rattle.std.specs.Map.{keys_of, lookup}
use Rattle.mesh_model.specs.Routes.Addresses.{mac_order, same_mac}
use Rattle.mesh_model.specs.Routes.HearingsV.{heard_v}
use Rattle.mesh_model.specs.Routes.Life.{of}
use Rattle.mesh_model.specs.Routes.Neighbours.{last_elp}
use Rattle.mesh_algo.specs.LifeRows.{latest, life_row}
use Rattle.mesh_v.specs.Rows.{elp_row, life_in}
use Rattle.mesh_v.specs.Tables.{Tables}
use Rattle.mesh_v.proofs.RowLemmas.{life_kept}
use Rattle.mesh_v.proofs.StepLemmas.{elp_stands, passed_elp}
use Rattle.mesh_v.proofs.v.V.hear_elp.Goals as goal

pub returns-then-ne-clause-noted : goal.returns-then-ne-clause-noted
returns-then-ne-clause-noted c =
    λ me log seq interval stands.
    passed_elp me log c.args.now c.args.from c.args.tp c.args.orig seq interval c.args.self.now stands (search rules)

pub returns-clause-noted : goal.returns-clause-noted
returns-clause-noted c =
    λ me log seq interval stands.
    let old : Tables = c.args.self.now in
    let new : Tables = record { me = c.self.inside.me; ogms = c.self.inside.ogms; elps = c.self.inside.elps; origs = c.put.new.table.entries; paths = c.self.inside.paths.entries } in
    let origs = ap (λ t. t.origs) c.self.view_is in
    let life_is = c.life_in.ensures ∙ ap life_in (c.orig.ensures me log stands) ∙ life_kept (life_row (latest (of c.args.from (heard_v me log)))) (elp_row (last_elp c.args.from log)) in
    elp_stands me log c.args.now c.args.from c.args.tp c.args.orig seq interval old new stands (search rules)
    (ap (λ t. t.me) c.self.view_is) (ap (λ t. t.ogms) c.self.view_is) (ap (λ t. t.elps) c.self.view_is) (ap (λ t. t.paths) c.self.view_is)
    (λ q. c.in_ok-put.ensures.updated.0 q
    ∙ ap₂ (λ l rows. cond (same_mac c.args.from q) (Some (record { life = l; elp = Some (record { moment = c.args.now; throughput = c.args.tp }) })) (lookup (same_mac q) rows)) life_is origs)
    (c.in_ok-put.ensures.rises (subst (λ rows. IsStrictlySortedBy mac_order (keys_of rows)) (sym origs) stands.origs_stand.rise))
