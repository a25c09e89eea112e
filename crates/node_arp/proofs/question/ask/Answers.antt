use Rattle.std.proofs.Common.{◌≡◌, ◌∙◌, Bool, true, Err, Ok, ap, subst, sym}
use Rattle.std.specs.Prelude.{if◌then◌else◌}
use Rattle.std.proofs.lemmas.Result.{err_from_is_err_and}
use Rattle.mesh_model.specs.Acts.ArpRows.{question_acts}
use Rattle.mesh_model.specs.Clients.Settings.{Settings}
use Rattle.mesh_model.specs.Knowledge.Pairs.{after_asking, with_learned}
use Rattle.node_ground.specs.KnowledgeStands.{KnowledgeStands, place}
use Rattle.node_ground.proofs.PutsLemmas.{stops_free}
use Rattle.node_arp.proofs.QuestionLemmas.{question_puts, question_stops}
use Rattle.node_arp.proofs.question.ask.Goals as goal

pub returns-in_err-learn-clause-puts : goal.returns-in_err-learn-clause-puts
returns-in_err-learn-clause-puts g c = λ known stands.
    let p = err_from_is_err_and c.from_residual-in_err-learn.result c.from_residual-in_err-learn.ensures.1 in
    let asked = c.args.asked in
    rw (p.1, p.2) (stops_free g.P.Port.takes g.P.Port.same g.P.Port.over c.args.port.now
    (question_acts (g.A.Algo.queries c.args.at.me) known (place c.args.at) asked.mac asked.own_ip asked.asked_ip asked.vid) (g.met.P.Port.same_refl c.args.port.now))

pub returns-in_err-put_pair-clause-puts : goal.returns-in_err-put_pair-clause-puts
returns-in_err-put_pair-clause-puts g c = λ known stands.
    let p = err_from_is_err_and c.from_residual-in_err-put_pair.result c.from_residual-in_err-put_pair.ensures.1 in
    let asked = c.args.asked in
    let on : known.services.settings.arp_table ≡ true = sym (ap (λ (s : Settings). s.arp_table) stands.services.settings) ∙ c.if-not-kept.false in
    let learned = with_learned c.args.at.now asked.own_ip asked.vid asked.mac known in
    rw (p.1, p.2) (question_stops g.P.Port.takes g.P.Port.same g.P.Port.over (g.A.Algo.queries c.args.at.me) known (place c.args.at) asked.mac asked.own_ip asked.asked_ip asked.vid
    c.in_err-put_pair.field-0.0 c.args.port.now c.put_pair.new.port on (c.in_err-put_pair.ensures learned (c.in_ok-learn.ensures.ok c.args.at.me known stands)))

pub returns-in_err-ask_pair-clause-puts : goal.returns-in_err-ask_pair-clause-puts
returns-in_err-ask_pair-clause-puts g c = λ known stands.
    let p = err_from_is_err_and c.from_residual-in_err-ask_pair.result c.from_residual-in_err-ask_pair.ensures.1 in
    let asked = c.args.asked in
    let on : known.services.settings.arp_table ≡ true = sym (ap (λ (s : Settings). s.arp_table) stands.services.settings) ∙ c.if-not-kept.false in
    let learned = with_learned c.args.at.now asked.own_ip asked.vid asked.mac known in
    let stand = c.in_ok-learn.ensures.ok c.args.at.me known stands in
    rw (p.1, p.2) (question_puts g.P.Port.takes g.P.Port.same g.P.Port.over (g.A.Algo.queries c.args.at.me) known (place c.args.at) asked.mac asked.own_ip asked.asked_ip asked.vid
    c.args.port.now c.put_pair.new.port c.ask_pair.new.port (Err c.in_err-ask_pair.field-0.0) on (c.in_ok-put_pair.ensures learned stand) (c.in_err-ask_pair.ensures.puts learned stand))

pub returns-clause-puts : goal.returns-clause-puts
returns-clause-puts g c = λ known stands.
    let asked = c.args.asked in
    let on : known.services.settings.arp_table ≡ true = sym (ap (λ (s : Settings). s.arp_table) stands.services.settings) ∙ c.if-not-kept.false in
    let learned = with_learned c.args.at.now asked.own_ip asked.vid asked.mac known in
    let stand = c.in_ok-learn.ensures.ok c.args.at.me known stands in
    question_puts g.P.Port.takes g.P.Port.same g.P.Port.over (g.A.Algo.queries c.args.at.me) known (place c.args.at) asked.mac asked.own_ip asked.asked_ip asked.vid
    c.args.port.now c.put_pair.new.port c.ask_pair.new.port (Ok tt) on (c.in_ok-put_pair.ensures learned stand) (c.in_ok-ask_pair.ensures.puts learned stand)

pub returns-clause-noted : goal.returns-clause-noted
returns-clause-noted g c = λ known stands.
    let asked = c.args.asked in
    let me = c.args.at.me in
    let q = g.A.Algo.queries me in
    let on : known.services.settings.arp_table ≡ true = sym (ap (λ (s : Settings). s.arp_table) stands.services.settings) ∙ c.if-not-kept.false in
    let learned = with_learned c.args.at.now asked.own_ip asked.vid asked.mac known in
    subst (λ (b : Bool). KnowledgeStands g.A.Algo.stands c.ask_pair.new.kept me (if b then after_asking q me c.args.at.now asked.asked_ip asked.vid learned else known)) (sym on)
    (c.in_ok-ask_pair.ensures.noted learned (c.in_ok-learn.ensures.ok me known stands))
