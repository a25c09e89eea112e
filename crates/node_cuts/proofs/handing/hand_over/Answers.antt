use Rattle.std.proofs.Common.{◌≡◌, ◌∙◌, ◌+◌, Err, List, Ok, ap, subst, sym}
use Rattle.std.proofs.lemmas.Bool.{false≢true}
use Rattle.std.proofs.lemmas.Result.{err_from_is_err_and}
use Rattle.mesh_model.specs.declared.act.Act.{Act}
use Rattle.mesh_model.specs.Acts.Cuts.{cuts_among}
use Rattle.node_cuts.specs.Collected.{Collected, cutter_of, is_memory}
use Rattle.node_ground.specs.declared.failure.NodeErr.TheVariants.{Memory}
use Rattle.node_cuts.proofs.HandLemmas.{Put, collected_whole, done_then, memory_then, stopped_at, stopped_then}
use Rattle.node_cuts.proofs.handing.hand_over.Goals as goal

pub returns-in_err-put_all-in-Ok-clause-puts : goal.returns-in_err-put_all-in-Ok-clause-puts
returns-in_err-put_all-in-Ok-clause-puts g c = λ own whole uncut collected.
    let p = err_from_is_err_and c.from_residual.result c.from_residual.ensures.1 in
    let cutter = cutter_of c.args.cutter.now in
    let list = c.args.collected in
    let error = c.in_err-put_all-in-Ok.field-0.0 in
    rw (p.1, p.2)
    (done_then g.P.Port.takes g.P.Port.same g.P.Port.over cutter own whole list tt c.args.port.now c.put_all.new.port (Err error) (subst (λ answer. Collected own whole answer list) c.in-Ok.is collected)
    (subst (λ (acts : List Act). Put g.P.Port.takes g.P.Port.same g.P.Port.over cutter c.args.port.now acts (Err error) c.put_all.new.port) c.into_vec.ensures c.in_err-put_all-in-Ok.ensures.puts))

pub returns-in_ok-put_all-in-Ok-clause-puts : goal.returns-in_ok-put_all-in-Ok-clause-puts
returns-in_ok-put_all-in-Ok-clause-puts g c = λ own whole uncut collected.
    let cutter = cutter_of c.args.cutter.now in
    let list = c.args.collected in
    done_then g.P.Port.takes g.P.Port.same g.P.Port.over cutter own whole list tt c.args.port.now c.put_all.new.port (Ok tt) (subst (λ answer. Collected own whole answer list) c.in-Ok.is collected)
    (subst (λ (acts : List Act). Put g.P.Port.takes g.P.Port.same g.P.Port.over cutter c.args.port.now acts (Ok tt) c.put_all.new.port) c.into_vec.ensures c.in_ok-put_all-in-Ok.ensures.puts)

pub returns-then-is_memory-clause-puts : goal.returns-then-is_memory-clause-puts
returns-then-is_memory-clause-puts g c = λ own whole uncut collected.
    memory_then g.P.Port.takes g.P.Port.same g.P.Port.over (cutter_of c.args.cutter.now) own whole c.in-Err.error c.args.port.now (sym c.is_memory.ensures ∙ c.if-is_memory.true) (g.met.P.Port.same_refl c.args.port.now)

pub returns-in_err-put_all-in-Err-clause-puts : goal.returns-in_err-put_all-in-Err-clause-puts
returns-in_err-put_all-in-Err-clause-puts g c = λ own whole uncut collected.
    let p = err_from_is_err_and c.from_residual-in_err-put_all-in-Err.result c.from_residual-in_err-put_all-in-Err.ensures.1 in
    let cutter = cutter_of c.args.cutter.now in
    let list = c.args.collected in
    let error = c.in_err-put_all-in-Err.field-0.0 in
    let other : c.in-Err.error ≡ Memory → ⊥ = λ is. false≢true (sym c.if-is_memory.false ∙ c.is_memory.ensures ∙ ap is_memory is) in
    rw (p.1, p.2)
    (stopped_at g.P.Port.takes g.P.Port.same g.P.Port.over cutter own whole list c.in-Err.error error c.args.port.now c.put_all-in-Err.new.port other uncut c.requires.few (subst (λ answer. Collected own whole answer list) c.in-Err.is collected)
    (subst (λ (acts : List Act). Put g.P.Port.takes g.P.Port.same g.P.Port.over cutter c.args.port.now acts (Err error) c.put_all-in-Err.new.port) c.into_vec-in-Err.ensures c.in_err-put_all-in-Err.ensures.puts))

pub returns-in_ok-put_all-in-Err-clause-puts : goal.returns-in_ok-put_all-in-Err-clause-puts
returns-in_ok-put_all-in-Err-clause-puts g c = λ own whole uncut collected.
    let cutter = cutter_of c.args.cutter.now in
    let list = c.args.collected in
    let other : c.in-Err.error ≡ Memory → ⊥ = λ is. false≢true (sym c.if-is_memory.false ∙ c.is_memory.ensures ∙ ap is_memory is) in
    stopped_then g.P.Port.takes g.P.Port.same g.P.Port.over cutter own whole list c.in-Err.error c.args.port.now c.put_all-in-Err.new.port tt other uncut c.requires.few (g.met.P.Port.same_refl c.put_all-in-Err.new.port) (subst (λ answer. Collected own whole answer list) c.in-Err.is collected)
    (subst (λ (acts : List Act). Put g.P.Port.takes g.P.Port.same g.P.Port.over cutter c.args.port.now acts (Ok tt) c.put_all-in-Err.new.port) c.into_vec-in-Err.ensures c.in_ok-put_all-in-Err.ensures.puts)

pub returns-in_ok-put_all-in-Ok-clause-counted : goal.returns-in_ok-put_all-in-Ok-clause-counted
returns-in_ok-put_all-in-Ok-clause-counted g c = λ own whole collected.
    let cutter = c.args.cutter.now in
    let list = c.args.collected in
    subst (λ acts. c.put_all.new.self.cuts ≡ cutter.cuts + cuts_among cutter.most acts) (collected_whole own whole list tt (subst (λ answer. Collected own whole answer list) c.in-Ok.is collected))
    (subst (λ (acts : List Act). c.put_all.new.self.cuts ≡ cutter.cuts + cuts_among cutter.most acts) c.into_vec.ensures c.in_ok-put_all-in-Ok.ensures.counted)
