use Rattle.std.proofs.Common.{◌∙◌, Err, Ok, ap, refl, subst, sym}
use Rattle.std.proofs.lemmas.Result.{err_from_is_err_and}
use Rattle.mesh_codec.specs.Lans.{seen_lan}
use Rattle.mesh_model.specs.Clients.Lans.{bridge}
use Rattle.mesh_model.specs.Packets.LanFrames as lan
use Rattle.node_clients.specs.LanRows.{message_bridge}
use Rattle.node_ground.specs.declared.failure.NodeErr.TheVariants.{Memory}
use Rattle.node_lans.specs.BridgeStands.{BridgeStands}
use Rattle.node_clients.proofs.LanLemmas.{frame_known, frame_leaves, frame_mentioned}
use Rattle.node_clients.proofs.SightLemmas.{none_mentioned}
use Rattle.node_clients.proofs.lan_frames.lan_frame.Goals as goal

pub returns-in_err-claim_frame-in-Claims-clause-puts : goal.returns-in_err-claim_frame-in-Claims-clause-puts
returns-in_err-claim_frame-in-Claims-clause-puts g c = λ log before bridged flags.
    let p = err_from_is_err_and c.from_residual.result c.from_residual.ensures.1 in
    rw (p.1, p.2) (frame_leaves before c.args.bytes.now (ap seen_lan (sym c.in-Claims.is) ∙ c.read_lan.ensures) g.P.Port.takes g.P.Port.same g.P.Port.over c.args.port.now c.args.port.now (Err Memory) (g.met.P.Port.same_refl c.args.port.now, tt))

pub returns-in_ok-claim_frame-in-Claims-clause-puts : goal.returns-in_ok-claim_frame-in-Claims-clause-puts
returns-in_ok-claim_frame-in-Claims-clause-puts g c = λ log before bridged flags.
    frame_leaves before c.args.bytes.now (ap seen_lan (sym c.in-Claims.is) ∙ c.read_lan.ensures) g.P.Port.takes g.P.Port.same g.P.Port.over c.args.port.now c.args.port.now (Ok tt) refl

pub returns-in_ok-claim_frame-in-Claims-clause-noted : goal.returns-in_ok-claim_frame-in-Claims-clause-noted
returns-in_ok-claim_frame-in-Claims-clause-noted g c = λ log before bridged flags.
    frame_known before c.args.bytes.now (ap seen_lan (sym c.in-Claims.is) ∙ c.read_lan.ensures) before.known

pub returns-in_ok-claim_frame-in-Claims-clause-mentioned : goal.returns-in_ok-claim_frame-in-Claims-clause-mentioned
returns-in_ok-claim_frame-in-Claims-clause-mentioned g c = λ log before bridged flags.
    frame_mentioned before c.args.bytes.now (ap seen_lan (sym c.in-Claims.is) ∙ c.read_lan.ensures) (none_mentioned c.args.locals.now c.args.at.me log before.clients)

pub returns-in_ok-claim_frame-in-Claims-clause-bridged : goal.returns-in_ok-claim_frame-in-Claims-clause-bridged
returns-in_ok-claim_frame-in-Claims-clause-bridged g c = λ log bridged.
    subst (λ (m : lan.LanMessage). BridgeStands (record { lan = c.args.bridge.now.lan; claims = c.claim_frame.new.self }) c.args.at.me (message_bridge log c.args.at.now m)) (ap seen_lan (sym c.in-Claims.is) ∙ c.read_lan.ensures) (record { lan = bridged.lan; claims = c.in_ok-claim_frame-in-Claims.ensures.ok c.args.at.me (bridge log).claims bridged.claims })

pub returns-in_err-carried-in-Carries-clause-puts : goal.returns-in_err-carried-in-Carries-clause-puts
returns-in_err-carried-in-Carries-clause-puts g c = λ log before bridged flags.
    let p = err_from_is_err_and c.from_residual-in_err-carried-in-Carries.result c.from_residual-in_err-carried-in-Carries.ensures.1 in
    rw (p.1, p.2) (frame_leaves before c.args.bytes.now (ap seen_lan (sym c.in-Carries.is) ∙ c.read_lan.ensures) g.P.Port.takes g.P.Port.same g.P.Port.over c.args.port.now c.carried.new.port (Err c.in_err-carried-in-Carries.field-0.0) (c.in_err-carried-in-Carries.ensures.puts log before bridged flags))

pub returns-in_ok-carried-in-Carries-clause-puts : goal.returns-in_ok-carried-in-Carries-clause-puts
returns-in_ok-carried-in-Carries-clause-puts g c = λ log before bridged flags.
    frame_leaves before c.args.bytes.now (ap seen_lan (sym c.in-Carries.is) ∙ c.read_lan.ensures) g.P.Port.takes g.P.Port.same g.P.Port.over c.args.port.now c.carried.new.port (Ok tt) (c.in_ok-carried-in-Carries.ensures.puts log before bridged flags)

pub returns-in_ok-carried-in-Carries-clause-noted : goal.returns-in_ok-carried-in-Carries-clause-noted
returns-in_ok-carried-in-Carries-clause-noted g c = λ log before bridged flags.
    frame_known before c.args.bytes.now (ap seen_lan (sym c.in-Carries.is) ∙ c.read_lan.ensures) (c.in_ok-carried-in-Carries.ensures.noted log before bridged flags)

pub returns-in_ok-carried-in-Carries-clause-mentioned : goal.returns-in_ok-carried-in-Carries-clause-mentioned
returns-in_ok-carried-in-Carries-clause-mentioned g c = λ log before bridged flags.
    frame_mentioned before c.args.bytes.now (ap seen_lan (sym c.in-Carries.is) ∙ c.read_lan.ensures) (c.in_ok-carried-in-Carries.ensures.mentioned log before bridged flags)

pub returns-in_ok-carried-in-Carries-clause-bridged : goal.returns-in_ok-carried-in-Carries-clause-bridged
returns-in_ok-carried-in-Carries-clause-bridged g c = λ log bridged.
    subst (λ (m : lan.LanMessage). BridgeStands c.args.bridge.now c.args.at.me (message_bridge log c.args.at.now m)) (ap seen_lan (sym c.in-Carries.is) ∙ c.read_lan.ensures) bridged

pub returns-in-Nothing-clause-puts : goal.returns-in-Nothing-clause-puts
returns-in-Nothing-clause-puts g c = λ log before bridged flags.
    frame_leaves before c.args.bytes.now (ap seen_lan (sym c.in-Nothing.is) ∙ c.read_lan.ensures) g.P.Port.takes g.P.Port.same g.P.Port.over c.args.port.now c.args.port.now (Ok tt) refl

pub returns-in-Nothing-clause-noted : goal.returns-in-Nothing-clause-noted
returns-in-Nothing-clause-noted g c = λ log before bridged flags.
    frame_known before c.args.bytes.now (ap seen_lan (sym c.in-Nothing.is) ∙ c.read_lan.ensures) before.known

pub returns-in-Nothing-clause-mentioned : goal.returns-in-Nothing-clause-mentioned
returns-in-Nothing-clause-mentioned g c = λ log before bridged flags.
    frame_mentioned before c.args.bytes.now (ap seen_lan (sym c.in-Nothing.is) ∙ c.read_lan.ensures) (none_mentioned c.args.locals.now c.args.at.me log before.clients)

pub returns-in-Nothing-clause-bridged : goal.returns-in-Nothing-clause-bridged
returns-in-Nothing-clause-bridged g c = λ log bridged.
    subst (λ (m : lan.LanMessage). BridgeStands c.args.bridge.now c.args.at.me (message_bridge log c.args.at.now m)) (ap seen_lan (sym c.in-Nothing.is) ∙ c.read_lan.ensures) bridged
