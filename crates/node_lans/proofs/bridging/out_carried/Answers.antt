use Rattle.std.proofs.Common.{◌∙◌, Err, Ok, Option, ap, option_map, refl, subst, sym}
use Rattle.std.proofs.lemmas.Result.{err_from_is_err_and}
use Rattle.mesh_codec.specs.Payloads.{seen_frame}
use Rattle.mesh_model.specs.declared.claim.Spread.{Spread}
use Rattle.mesh_model.specs.Acts.BridgeRows.{out_acts}
use Rattle.mesh_model.specs.Acts.FrameRows.{handed_out_if}
use Rattle.mesh_model.specs.Packets.Payload.{ClientFrame}
use Rattle.node_ground.specs.KnowledgeStands.{place}
use Rattle.node_ground.specs.Puts.{Puts}
use Rattle.node_lans.proofs.bridging.out_carried.Goals as goal

pub returns-in_default : goal.returns-in_default
returns-in_default g c = λ gateway bridged.
    subst (λ (o : Option ClientFrame). Puts g.P.Port.takes g.P.Port.same g.P.Port.over c.args.port.now (handed_out_if gateway (place c.args.at) c.args.orig o) (Ok tt) c.args.port.now)
    (ap (option_map seen_frame) (sym c.in_default.is) ∙ c.read_client_frame.ensures) refl

pub returns-in_err-out : goal.returns-in_err-out
returns-in_err-out g c = λ gateway bridged.
    let p = err_from_is_err_and c.from_residual.result c.from_residual.ensures.1 in
    rw (p.1, p.2) (subst (λ (o : Option ClientFrame). Puts g.P.Port.takes g.P.Port.same g.P.Port.over c.args.port.now (handed_out_if gateway (place c.args.at) c.args.orig o) (Err c.in_err-out.field-0.0) c.out.new.port)
    (ap (option_map seen_frame) (sym c.in-Some.is) ∙ c.read_client_frame.ensures)
    (subst (λ (spread : Spread). Puts g.P.Port.takes g.P.Port.same g.P.Port.over c.args.port.now (out_acts gateway (place c.args.at) spread (seen_frame c.in-Some.frame)) (Err c.in_err-out.field-0.0) c.out.new.port)
    (c.spread_of_broadcast-spread.ensures c.args.at.me gateway bridged) (c.in_err-out.ensures gateway bridged)))

pub returns : goal.returns
returns g c = λ gateway bridged.
    subst (λ (o : Option ClientFrame). Puts g.P.Port.takes g.P.Port.same g.P.Port.over c.args.port.now (handed_out_if gateway (place c.args.at) c.args.orig o) (Ok tt) c.out.new.port)
    (ap (option_map seen_frame) (sym c.in-Some.is) ∙ c.read_client_frame.ensures)
    (subst (λ (spread : Spread). Puts g.P.Port.takes g.P.Port.same g.P.Port.over c.args.port.now (out_acts gateway (place c.args.at) spread (seen_frame c.in-Some.frame)) (Ok tt) c.out.new.port)
    (c.spread_of_broadcast-spread.ensures c.args.at.me gateway bridged) (c.in_ok-out.ensures gateway bridged))
