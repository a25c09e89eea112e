use Rattle.std.proofs.Common.{◌<◌, ◌≡◌, ◌∙◌, deque_len, find, length, refl, rules, slice_get, subst, sym}
use Rattle.mesh_icmp.specs.Sessions.{AreInOrder, has_number, without}
use Rattle.mesh_icmp.proofs.QueueLemmas.{in_order_without, none_left, taken_at}
use Rattle.mesh_icmp.proofs.waiting.Waiting.take.Goals as goal

pub returns-in_err-place-clause-left : goal.returns-in_err-place-clause-left
returns-in_err-place-clause-left c = sym (none_left c.args.seq c.args.self.now.probes (c.in_err-place.ensures.absent refl))

pub invariant_of-self : goal.invariant_of-self
invariant_of-self c =
    let left : c.remove.new.self.items ≡ without c.args.seq c.self.inside.probes.items = search rules in (
      c.self.invariant.0,
      subst (AreInOrder c.self.inside.latest) (sym left) (in_order_without c.self.inside.latest c.args.seq c.self.inside.probes.items c.self.invariant.1),
      search rules,
    )

pub returns-clause-found : goal.returns-clause-found
returns-clause-found c =
    let probes = c.self.inside.probes.items in
    let within : c.in_ok-place.place < length probes = search rules in
    let fits : c.in_ok-place.place < deque_len c.self.inside.probes = search rules in
    taken_at probes c.in_ok-place.place c.remove.result within (λ d. c.remove.ensures.succeeds d fits)
    ∙ subst (λ k. slice_get k.probes c.in_ok-place.place ≡ find (has_number c.args.seq) c.args.self.now.probes) (sym c.self.view_is) c.in_ok-place.ensures.found
