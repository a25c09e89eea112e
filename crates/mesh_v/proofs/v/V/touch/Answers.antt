use Rattle.std.proofs.Common.{◌≡◌, ◌∙◌, ap, ap₂, sym, subst, cond, Some, None, rules}
use Rattle.std.specs.List.Sorted.{IsStrictlySortedBy}
use Rattle.std.specs.Map.{keys_of, lookup}
use Rattle.mesh_model.specs.Routes.Addresses.{mac_order, same_mac}
use Rattle.mesh_model.specs.Routes.HearingsV.{heard_v}
use Rattle.mesh_model.specs.Routes.Life.{of}
use Rattle.mesh_algo.proofs.HearingLemmas.{touches_life}
use Rattle.mesh_v.specs.Hears.{IsHeard, hearing_of}
use Rattle.mesh_v.specs.Tables.{Tables}
use Rattle.mesh_v.proofs.StepLemmas.{is_met, touch_stands}
use Rattle.mesh_v.proofs.v.V.touch.Goals as goal

pub returns-in_default-clause-noted : goal.returns-in_default-clause-noted
returns-in_default-clause-noted c =
    λ me log is first.
    let none : c.args.life.now ≡ None = search rules in
    absurd (touches_life (hearing_of me log c.args.ogm.now) (of c.args.ogm.now.orig (heard_v me log)) (is_met me log c.args.ogm.now) (sym is.row_is ∙ none) first)

pub returns-clause-noted : goal.returns-clause-noted
returns-clause-noted c =
    λ me log is first.
    let came = c.args.ogm.now in
    let old : Tables = c.args.self.now in
    let new : Tables = record { me = c.self.inside.me; ogms = c.self.inside.ogms; elps = c.self.inside.elps; origs = c.put_near.new.table.entries; paths = c.self.inside.paths.entries } in
    let origs = ap (λ t. t.origs) c.self.view_is in
    let heard : IsHeard me old log came c.args.elp (Some c.in-Some.life) = subst (λ row. IsHeard me old log came c.args.elp row) c.in-Some.is is in
    touch_stands me log came c.args.elp c.in-Some.life old new heard first (ap (λ t. t.me) c.self.view_is) (ap (λ t. t.ogms) c.self.view_is) (ap (λ t. t.elps) c.self.view_is)
    (λ q. c.in_ok-put_near.ensures.updated q
    ∙ ap₂ (λ l rows. cond (same_mac came.orig q) (Some (record { life = Some l; elp = c.args.elp })) (lookup (same_mac q) rows)) c.touched-life.ensures origs)
    (c.in_ok-put_near.ensures.rises (subst (λ rows. IsStrictlySortedBy mac_order (keys_of rows)) (sym origs) is.stands.origs_stand.rise))
    (ap (λ t. t.paths) c.self.view_is)
