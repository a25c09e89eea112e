use Rattle.std.proofs.Common.{◌≡◌, rules, subst, sym}
use Rattle.mesh_model.specs.Probes.OpenProbes.{session_ttl, probes_by}
use Rattle.mesh_icmp.specs.Sessions.{StandsFor, next_after}
use Rattle.mesh_icmp.proofs.SessionLemmas.{given_after, keeps_from, keeps_given, stands_from}
use Rattle.mesh_icmp.proofs.sessions.Sessions.start.Goals as goal

pub returns-clause-ok : goal.returns-clause-ok
returns-clause-ok c =
    λ made stands.
    let latest = c.self.inside.waiting.latest in
    let probes = c.self.inside.waiting.probes in
    let before = keeps_from _ made (subst (λ k. StandsFor k made) (sym c.self.view_is) stands) in
    let number : c.give.new.self.latest ≡ next_after latest = search rules in
    let left : c.give.new.self.probes ≡ given_after c.args.now c.args.target c.args.trace (session_ttl c.args.trace) latest probes = search rules in
    stands_from _ _ _ _ number left (keeps_given latest c.args.now c.args.target c.args.trace (session_ttl c.args.trace) probes (probes_by made) before)
