use Rattle.std.proofs.Common.{◌∷◌, true, sym, ap, subst, ◌∙◌, Ok, Err}
use Rattle.std.proofs.lemmas.Result.{err_from_is_err_and}
use Rattle.mesh_model.specs.declared.route.Hearing.{Hearing}
use Rattle.mesh_model.specs.Acts.Rows.{ogm_acts}
use Rattle.mesh_model.specs.Knowledge.Known.{Knowledge}
use Rattle.mesh_model.specs.Knowledge.Steps.{after_announcement, with_head, with_life, with_offered}
use Rattle.mesh_serv.specs.OffersStand.{OffersStand}
use Rattle.node_ground.proofs.PutsLemmas.{stops_last}
use Rattle.node_ground.specs.KnowledgeStands.{KnowledgeStands, coming}
use Rattle.node_ground.specs.Reading.{message}
use Rattle.node_tables.proofs.KnownLemmas.{head_came, offer_noted}
use Rattle.node_tables.proofs.OgmLemmas.{ogm_only, ogm_puts, ogm_stops}
use Rattle.node_tables.proofs.ogms.heard.Goals as goal

pub returns-in_err-send_message-clause-puts : goal.returns-in_err-send_message-clause-puts
returns-in_err-send_message-clause-puts g c = λ known number stands.
    let p = err_from_is_err_and c.from_residual-in_err-send_message.result c.from_residual-in_err-send_message.ensures.1 in
    rw (p.1, p.2) (ogm_stops g.P.Port.takes g.P.Port.same g.P.Port.over (g.A.Algo.queries c.args.me) c.args.me (coming c.args.came number) c.args.packet.now.head
    (message c.args.orig c.args.table.now) c.args.packet.now.tail.now known c.in_ok-hearing.hearing c.in_err-send_message.field-0.0 c.args.port.now c.send_message.new.port
    (c.in_ok-hearing.ensures.heard c.args.me known.routes stands.routes) c.in_err-send_message.ensures)

pub returns-in_err-accept-clause-puts : goal.returns-in_err-accept-clause-puts
returns-in_err-accept-clause-puts g c = λ known number stands.
    let p = err_from_is_err_and c.from_residual-in_err-accept.result c.from_residual-in_err-accept.ensures.1 in
    let q = g.A.Algo.queries c.args.me in
    let came = coming c.args.came number in
    let head = c.args.packet.now.head in
    let told = message c.args.orig c.args.table.now in
    let stand = head_came g.A.Algo.stands c.args.kept.now c.hear.new.self c.args.me came head known stands (c.in_ok-hearing.ensures.noted c.args.me known.routes stands.routes) in
    rw (p.1, p.2) (ogm_puts g.P.Port.takes g.P.Port.same g.P.Port.over q c.args.me came head told c.args.packet.now.tail.now known c.in_ok-hearing.hearing
    c.args.port.now c.send_message.new.port c.accept.new.port (Err c.in_err-accept.field-0.0) (c.in_ok-hearing.ensures.heard c.args.me known.routes stands.routes) c.if-hearing.true c.in_ok-send_message.ensures
    (c.in_err-accept.ensures.puts (with_head came head known) stand))

pub returns-in_err-note-clause-puts : goal.returns-in_err-note-clause-puts
returns-in_err-note-clause-puts g c = λ known number stands.
    let p = err_from_is_err_and c.from_residual-in_err-note.result c.from_residual-in_err-note.ensures.1 in
    let q = g.A.Algo.queries c.args.me in
    let came = coming c.args.came number in
    let head = c.args.packet.now.head in
    let told = message c.args.orig c.args.table.now in
    let stand = head_came g.A.Algo.stands c.args.kept.now c.hear.new.self c.args.me came head known stands (c.in_ok-hearing.ensures.noted c.args.me known.routes stands.routes) in
    rw (p.1, p.2) (stops_last g.P.Port.takes g.P.Port.same g.P.Port.over c.args.port.now c.accept.new.port (ogm_acts q c.args.me came head told c.args.packet.now.tail.now known)
    (ogm_puts g.P.Port.takes g.P.Port.same g.P.Port.over q c.args.me came head told c.args.packet.now.tail.now known c.in_ok-hearing.hearing
    c.args.port.now c.send_message.new.port c.accept.new.port (Ok tt) (c.in_ok-hearing.ensures.heard c.args.me known.routes stands.routes) c.if-hearing.true c.in_ok-send_message.ensures
    (c.in_ok-accept.ensures.puts (with_head came head known) stand))
    (g.met.P.Port.same_refl c.accept.new.port))

pub returns-in_ok-note-clause-puts : goal.returns-in_ok-note-clause-puts
returns-in_ok-note-clause-puts g c = λ known number stands.
    let q = g.A.Algo.queries c.args.me in
    let came = coming c.args.came number in
    let head = c.args.packet.now.head in
    let told = message c.args.orig c.args.table.now in
    let stand = head_came g.A.Algo.stands c.args.kept.now c.hear.new.self c.args.me came head known stands (c.in_ok-hearing.ensures.noted c.args.me known.routes stands.routes) in
    ogm_puts g.P.Port.takes g.P.Port.same g.P.Port.over q c.args.me came head told c.args.packet.now.tail.now known c.in_ok-hearing.hearing
    c.args.port.now c.send_message.new.port c.accept.new.port (Ok tt) (c.in_ok-hearing.ensures.heard c.args.me known.routes stands.routes) c.if-hearing.true c.in_ok-send_message.ensures
    (c.in_ok-accept.ensures.puts (with_head came head known) stand)

pub returns-in_ok-note-clause-noted : goal.returns-in_ok-note-clause-noted
returns-in_ok-note-clause-noted g c = λ known number stands.
    let q = g.A.Algo.queries c.args.me in
    let came = coming c.args.came number in
    let head = c.args.packet.now.head in
    let told = message c.args.orig c.args.table.now in
    let tail = c.args.packet.now.tail.now in
    let after : Knowledge = with_head came head known in
    let stand = head_came g.A.Algo.stands c.args.kept.now c.hear.new.self c.args.me came head known stands (c.in_ok-hearing.ensures.noted c.args.me known.routes stands.routes) in
    let hearing = c.in_ok-hearing.ensures.heard c.args.me known.routes stands.routes in
    let announced : Knowledge = after_announcement q came told (with_life c.args.orig c.in_ok-hearing.hearing.began after) in
    let taken = c.in_ok-accept.ensures.noted after number stand in
    let offer = subst (λ offer. OffersStand c.note.new.self (record { orig = c.args.orig; offer = offer } ∷ announced.services.offers)) c.offer_in-offer.ensures
    (c.in_ok-note.ensures.ok announced.services.offers taken.services.offers) in
    let noted = offer_noted g.A.Algo.stands c.accept.new.kept c.note.new.self c.args.me c.args.orig tail announced taken offer in
    let whole : Hearing → Knowledge = λ h. with_offered true c.args.orig tail (after_announcement q came told (with_life c.args.orig h.began after)) in
    let accepted = sym (ap (λ h. h.accepted) hearing) ∙ c.if-hearing.true in
    rw accepted (subst (λ (h : Hearing). KnowledgeStands g.A.Algo.stands (record c.accept.new.kept { services = record c.accept.new.kept.services { offers = c.note.new.self } }) c.args.me (whole h)) hearing noted)

pub returns-else-hearing-clause-puts : goal.returns-else-hearing-clause-puts
returns-else-hearing-clause-puts g c = λ known number stands.
    ogm_only g.P.Port.takes g.P.Port.same g.P.Port.over (g.A.Algo.queries c.args.me) c.args.me (coming c.args.came number) c.args.packet.now.head
    (message c.args.orig c.args.table.now) c.args.packet.now.tail.now known c.in_ok-hearing.hearing c.args.port.now c.send_message.new.port
    (c.in_ok-hearing.ensures.heard c.args.me known.routes stands.routes) c.if-hearing.false c.in_ok-send_message.ensures
