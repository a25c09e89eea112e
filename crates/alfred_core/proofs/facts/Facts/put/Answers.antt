use Rattle.std.proofs.Common.{◌≡◌, ◌∷◌, ap, subst, sym, ◌∙◌}
use Rattle.mesh_base.specs.declared.address.Mac.{Mac}
use Rattle.mesh_model.specs.declared.service.Fact.{Fact}
use Rattle.mesh_model.specs.declared.service.Mark.TheVariants.{Local}
use Rattle.mesh_model.specs.Services.Facts.{WasPut}
use Rattle.alfred_core.specs.Facts.{FactsStand, IsKeptBy, KeptFacts}
use Rattle.alfred_core.proofs.FactLemmas.{put_is_kept}
use Rattle.alfred_core.proofs.facts.Facts.put.Goals as goal

pub returns-clause-ok : goal.returns-clause-ok
returns-clause-ok c =
    λ me calls stands.
    let fact : Mac → Fact = λ source. record { source = source; type_no = c.args.type_no; version = c.args.version; bytes = c.args.bytes.now } in
    let own : c.self.inside.me ≡ me = ap (λ (facts : KeptFacts). facts.me) c.self.view_is ∙ stands.own in
    subst (λ source. FactsStand c.keep.new.self me (WasPut c.args.now (fact source) ∷ calls)) own
    (c.in_ok-keep.ensures.ok me calls (WasPut c.args.now (fact c.self.inside.me)) stands
    (subst (λ made. IsKeptBy (WasPut c.args.now (fact c.self.inside.me)) calls (record { moment = c.args.now; mark = Local; fact = made })) (ap (λ bytes. record { source = c.self.inside.me; type_no = c.args.type_no; version = c.args.version; bytes = bytes }) (sym c.in_ok-from_slice.ensures.ok)) (put_is_kept c.args.now (fact c.self.inside.me) calls)))
