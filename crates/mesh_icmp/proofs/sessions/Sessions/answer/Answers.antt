use Rattle.std.proofs.Common.{◌≡◌, ◌+◌, rules, subst, sym, true}
use Rattle.mesh_model.specs.Probes.OpenProbes.{leads_on, probes_by}
use Rattle.mesh_icmp.specs.Sessions.{StandsFor, next_after, without}
use Rattle.mesh_icmp.proofs.SessionLemmas.{answered_last, answered_next, answered_none, given_after, keeps_from, stands_from}
use Rattle.mesh_icmp.proofs.sessions.Sessions.answer.Goals as goal

pub returns-in_default-clause-taken : goal.returns-in_default-clause-taken
returns-in_default-clause-taken c =
    λ made stands.
    let latest = c.self.inside.waiting.latest in
    let probes = c.self.inside.waiting.probes in
    let before = keeps_from _ made (subst (λ k. StandsFor k made) (sym c.self.view_is) stands) in
    stands_from _ _ _ _ c.take.ensures.latest c.take.ensures.left
    (answered_none latest c.args.now c.args.seq c.args.msg probes (probes_by made) before (sym c.in_default.ensures.found))

pub returns-then-not-leads_on-clause-taken : goal.returns-then-not-leads_on-clause-taken
returns-then-not-leads_on-clause-taken c =
    λ made stands.
    let latest = c.self.inside.waiting.latest in
    let probes = c.self.inside.waiting.probes in
    let before = keeps_from _ made (subst (λ k. StandsFor k made) (sym c.self.view_is) stands) in
    stands_from _ _ _ _ c.take.ensures.latest c.take.ensures.left
    (answered_last latest c.args.now c.args.seq c.args.msg probes (probes_by made) before c.in-Some.asked (sym c.in-Some.ensures.found) (sym c.if-not-leads_on.ensures))

pub returns-clause-taken : goal.returns-clause-taken
returns-clause-taken c =
    λ made stands.
    let latest = c.self.inside.waiting.latest in
    let probes = c.self.inside.waiting.probes in
    let asked = c.in-Some.asked in
    let before = keeps_from _ made (subst (λ k. StandsFor k made) (sym c.self.view_is) stands) in
    let goes : leads_on c.args.msg asked ≡ true = search rules in
    let number : c.give-probe.new.self.latest ≡ next_after latest = search rules in
    let left : c.give-probe.new.self.probes ≡ given_after c.args.now asked.probe.target asked.trace (asked.probe.ttl + 1) latest (without c.args.seq probes) = search rules in
    stands_from _ _ _ _ number left
    (answered_next latest c.args.now c.args.seq c.args.msg probes (probes_by made) before asked (sym c.in-Some.ensures.found) goes)
