use Rattle.std.proofs.Common.{◌<◌, ◌≡◌, IfSome, length, nat_cmp, rules, subst, sym}
use Rattle.std.specs.List.Sorted.{IsBinarySearchResult}
use Rattle.std.specs.Result.{result_ok}
use Rattle.std.proofs.lemmas.Fn.{always_returns_same}
use Rattle.mesh_icmp.specs.Sessions.{number_rank}
use Rattle.mesh_icmp.proofs.QueueLemmas.{Placed, placed}
use Rattle.mesh_icmp.proofs.waiting.Waiting.place.Goals as goal

at_place : (c : goal.After-ok) → Placed c.args.seq c.args.self.now.probes c.ok.result
at_place c =
    let latest = c.self.inside.latest in
    let probes = c.self.inside.probes.items in
    let searched = c.binary_search_by_key.result in
    let is : c.ok.result ≡ result_ok searched = search rules in
    let within : IfSome (result_ok searched) (λ i. i < length probes) = subst (λ o. IfSome o (λ i. i < length probes)) is (search rules) in
    let at : IsBinarySearchResult (λ p. nat_cmp (number_rank latest p.probe.seq) c.rank-sought.result) probes searched
    = c.binary_search_by_key.ensures.position (λ p. number_rank latest p.probe.seq) (always_returns_same _ _ _ (λ a r g called. search rules)) in
    subst (λ k. Placed c.args.seq k.probes c.ok.result) c.self.view_is
    (subst (Placed c.args.seq probes) (sym is)
    (placed latest c.args.seq c.self.invariant.0 c.ranges.seq.fits probes c.self.invariant.1 searched within
    (subst (λ n. IsBinarySearchResult (λ p. nat_cmp (number_rank latest p.probe.seq) n) probes searched) c.rank-sought.ensures at)))

pub returns-clause-found : goal.returns-clause-found
returns-clause-found c = (at_place c).found

pub returns-clause-left : goal.returns-clause-left
returns-clause-left c = (at_place c).left

pub returns-clause-absent : goal.returns-clause-absent
returns-clause-absent c = (at_place c).absent
