use Rattle.std.proofs.Common.{◌∙◌, [], Bool, Err, Ok, refl, subst, sym}
use Rattle.std.specs.Prelude.{if◌then◌else◌}
use Rattle.std.proofs.lemmas.Result.{err_from_is_err_and}
use Rattle.mesh_base.specs.declared.event.ArpResult.TheVariants.{Found}
use Rattle.mesh_messages.specs.Arp.{seen_arp}
use Rattle.mesh_model.specs.Acts.ArpRows.{arp_told}
use Rattle.mesh_model.specs.Knowledge.Pairs.{with_learned}
use Rattle.node_ground.specs.KnowledgeStands.{place}
use Rattle.node_ground.specs.Puts.{Puts}
use Rattle.node_arp.proofs.pairs.found.Goals as goal

pub returns-in_err-tell-clause-puts : goal.returns-in_err-tell-clause-puts
returns-in_err-tell-clause-puts g c = λ known stands.
    let p = err_from_is_err_and c.from_residual-in_err-tell.result c.from_residual-in_err-tell.ensures.1 in
    let m = seen_arp c.args.told.now in
    let learned = with_learned c.args.at.now m.sender_ip m.vid m.sender known in
    let awaited = sym (c.close.ensures.awaited c.args.at.me learned (c.in_ok-learn.ensures known stands)) ∙ c.if-close.true in
    rw (p.1, p.2) (subst (λ (b : Bool). Puts g.P.Port.takes g.P.Port.same g.P.Port.over c.args.port.now (if b then arp_told (place c.args.at) m.sender_ip (Found m.sender) else [])
    (Err c.in_err-tell.field-0.0) c.tell.new.port) (sym awaited) c.in_err-tell.ensures)

pub returns-in_ok-tell-clause-puts : goal.returns-in_ok-tell-clause-puts
returns-in_ok-tell-clause-puts g c = λ known stands.
    let m = seen_arp c.args.told.now in
    let learned = with_learned c.args.at.now m.sender_ip m.vid m.sender known in
    let awaited = sym (c.close.ensures.awaited c.args.at.me learned (c.in_ok-learn.ensures known stands)) ∙ c.if-close.true in
    subst (λ (b : Bool). Puts g.P.Port.takes g.P.Port.same g.P.Port.over c.args.port.now (if b then arp_told (place c.args.at) m.sender_ip (Found m.sender) else [])
    (Ok tt) c.tell.new.port) (sym awaited) c.in_ok-tell.ensures

pub returns-in_ok-tell-clause-noted : goal.returns-in_ok-tell-clause-noted
returns-in_ok-tell-clause-noted g c = λ known stands.
    let m = seen_arp c.args.told.now in
    c.close.ensures.told c.args.at.me (with_learned c.args.at.now m.sender_ip m.vid m.sender known) (c.in_ok-learn.ensures known stands)

pub returns-else-close-clause-puts : goal.returns-else-close-clause-puts
returns-else-close-clause-puts g c = λ known stands.
    let m = seen_arp c.args.told.now in
    let learned = with_learned c.args.at.now m.sender_ip m.vid m.sender known in
    let closed = sym (c.close.ensures.awaited c.args.at.me learned (c.in_ok-learn.ensures known stands)) ∙ c.if-close.false in
    subst (λ (b : Bool). Puts g.P.Port.takes g.P.Port.same g.P.Port.over c.args.port.now (if b then arp_told (place c.args.at) m.sender_ip (Found m.sender) else [])
    (Ok tt) c.args.port.now) (sym closed) refl

pub returns-else-close-clause-noted : goal.returns-else-close-clause-noted
returns-else-close-clause-noted g c = λ known stands.
    let m = seen_arp c.args.told.now in
    c.close.ensures.told c.args.at.me (with_learned c.args.at.now m.sender_ip m.vid m.sender known) (c.in_ok-learn.ensures known stands)
