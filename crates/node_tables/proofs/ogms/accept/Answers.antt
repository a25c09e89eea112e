use Rattle.std.proofs.Common.{length, refl, sym, ap, subst, ◌∙◌, arith, Ok, Err, Option}
use Rattle.std.proofs.lemmas.Result.{err_from_is_err_and}
use Rattle.mesh_model.specs.Acts.Packing.{request_containers}
use Rattle.mesh_model.specs.Acts.TableRows.{request_acts}
use Rattle.mesh_model.specs.Knowledge.Steps.{with_life}
use Rattle.mesh_model.specs.Knowledge.Told.{message_changes, stamp_told}
use Rattle.mesh_model.specs.Tables.Versions.{Stamp}
use Rattle.mesh_model.specs.declared.table_outcome.Request.{Request}
use Rattle.node_ground.specs.KnowledgeStands.{KnowledgeStands, coming}
use Rattle.node_ground.specs.Puts.{TakesAll}
use Rattle.node_ground.specs.Reading.{message}
use Rattle.mesh_laws.proofs.RoomLemmas.{sums_few}
use Rattle.node_tables.proofs.KnownLemmas.{nothing_out, told_more, unasked_is}
use Rattle.node_tables.proofs.OgmLemmas.{request_put}
use Rattle.node_ground.proofs.PutsLemmas.{stops_free}
use Rattle.node_tables.proofs.ogms.accept.Goals as goal

pub request_containers-requires : goal.request_containers-requires
request_containers-requires g c =
    let sums = ap (λ (s : Stamp). length s.sums) c.in_ok-announced.ensures.stamp in
    let few = sums_few c.args.table.now.vlans in
    let fits = c.requires.fits in
    omega (arith, sums, few, fits)

pub returns-then-is_told_again-clause-puts : goal.returns-then-is_told_again-clause-puts
returns-then-is_told_again-clause-puts g c = λ known stands.
    let q = g.A.Algo.queries c.args.me in
    let then = with_life c.args.orig c.args.begins known in
    let unwanted = c.if-is_told_again.ensures.unwanted refl c.args.me then (c.begin_life.ensures c.args.me known stands) in
    subst (λ (out : Option Request). TakesAll g.P.Port.takes g.P.Port.over c.args.port.now (request_acts c.args.me (q.route then.routes c.args.came.now c.args.orig) (message c.args.orig c.args.table.now) out) c.args.port.now)
    (sym (nothing_out q c.args.came.now c.args.orig c.args.table.now then unwanted)) refl

pub returns-then-is_told_again-clause-noted : goal.returns-then-is_told_again-clause-noted
returns-then-is_told_again-clause-noted g c = λ known number stands.
    let q = g.A.Algo.queries c.args.me in
    let me = c.args.me in
    let table = c.args.table.now in
    let then = with_life c.args.orig c.args.begins known in
    let stand = c.begin_life.ensures me known stands in
    let unwanted = c.if-is_told_again.ensures.unwanted refl me then stand in
    subst (λ after. KnowledgeStands g.A.Algo.stands c.release.new.kept me after) (unasked_is q (coming c.args.came number) c.args.orig table then unwanted)
    (c.release.ensures me (told_more c.args.orig number (stamp_told table) (message_changes table) then) (c.if-is_told_again.ensures.noted refl me then number stand))

pub returns-in_err-announced-clause-puts : goal.returns-in_err-announced-clause-puts
returns-in_err-announced-clause-puts g c = λ known stands.
    let p = err_from_is_err_and c.from_residual.result c.from_residual.ensures.1 in
    rw (p.1, p.2) (stops_free g.P.Port.takes g.P.Port.same g.P.Port.over c.args.port.now _ (g.met.P.Port.same_refl c.args.port.now))

pub returns-in_err-request-clause-puts : goal.returns-in_err-request-clause-puts
returns-in_err-request-clause-puts g c = λ known stands.
    let p = err_from_is_err_and c.from_residual-in_err-request.result c.from_residual-in_err-request.ensures.1 in
    rw (p.1, p.2) (stops_free g.P.Port.takes g.P.Port.same g.P.Port.over c.args.port.now _ (g.met.P.Port.same_refl c.args.port.now))

pub returns-in_err-send_over-clause-puts : goal.returns-in_err-send_over-clause-puts
returns-in_err-send_over-clause-puts g c = λ known stands.
    let p = err_from_is_err_and c.from_residual-in_err-send_over.result c.from_residual-in_err-send_over.ensures.1 in
    let q = g.A.Algo.queries c.args.me in
    let then = with_life c.args.orig c.args.begins known in
    let stand = c.begin_life.ensures c.args.me known stands in
    let out = sym c.in-Some.is ∙ c.in_ok-request.ensures.asked c.args.me then c.args.table.now stand c.in_ok-announced.ensures in
    let bytes = c.as_slice.ensures.value ∙ c.in_ok-containers.ensures.ok ∙ ap (λ s. request_containers c.in-Some.request s) c.in_ok-announced.ensures.stamp in
    let next = c.route-next.ensures c.args.me _ (c.in_ok-request.ensures.noted c.args.me then c.args.table.now 0 stand c.in_ok-announced.ensures).routes in
    rw (p.1, p.2) (request_put g.P.Port.takes g.P.Port.same g.P.Port.over c.args.me (q.route then.routes c.args.came.now c.args.orig) (message c.args.orig c.args.table.now) c.in-Some.request _ _
    c.args.port.now c.send_over.new.port (Err c.in_err-send_over.field-0.0) out bytes (rw next at c.in_err-send_over.ensures))

pub returns-clause-puts : goal.returns-clause-puts
returns-clause-puts g c = λ known stands.
    let q = g.A.Algo.queries c.args.me in
    let then = with_life c.args.orig c.args.begins known in
    let stand = c.begin_life.ensures c.args.me known stands in
    let out = sym c.in-Some.is ∙ c.in_ok-request.ensures.asked c.args.me then c.args.table.now stand c.in_ok-announced.ensures in
    let bytes = c.as_slice.ensures.value ∙ c.in_ok-containers.ensures.ok ∙ ap (λ s. request_containers c.in-Some.request s) c.in_ok-announced.ensures.stamp in
    let next = c.route-next.ensures c.args.me _ (c.in_ok-request.ensures.noted c.args.me then c.args.table.now 0 stand c.in_ok-announced.ensures).routes in
    request_put g.P.Port.takes g.P.Port.same g.P.Port.over c.args.me (q.route then.routes c.args.came.now c.args.orig) (message c.args.orig c.args.table.now) c.in-Some.request _ _
    c.args.port.now c.send_over.new.port (Ok tt) out bytes (rw next at c.in_ok-send_over.ensures)
