use Rattle.std.proofs.Common.{◌≡◌, Some, None, rules, subst, sym}
use Rattle.mesh_loops.specs.Changed.{nexts_at, pair_of}
use Rattle.mesh_loops.specs.Walks.{HasMet}
use Rattle.mesh_loops.proofs.FollowLemmas.{all_noted, front_stays, goes_further, has_met, none_next, seen_here, start_noted}
use Rattle.mesh_loops.proofs.watch.Watch.meet.Goals as goal

pub returns-then-not-is_new : goal.returns-then-not-is_new
returns-then-not-is_new c =
    λ heads noted.
    let here = pair_of c.args.start.orig c.loop.node in
    let old = c.args.seen.now.keys in
    let now = c.insert_full.new.self.keys in
    let way = seen_here c.args.self.now c.args.when heads c.loop.seen.keys c.args.start here (c.loop.invariant.way heads noted) now c.in_ok-place.ensures.updates.0 in
    let front = front_stays c.len-first.result old c.loop.seen.keys now here c.loop.invariant.counted c.loop.invariant.front c.in_ok-place.ensures.keys in
    subst (HasMet c.args.self.now c.args.when heads now c.args.start) (sym c.then_some.ensures)
    (has_met c.args.self.now c.args.when heads old now c.args.start here noted way c.len-first.result c.in_ok-place.place front c.in_ok-place.ensures.stored)

pub returns-in_default : goal.returns-in_default
returns-in_default c =
    λ heads noted.
    let here = pair_of c.args.start.orig c.loop.node in
    let now = c.insert_full.new.self.keys in
    let way = seen_here c.args.self.now c.args.when heads c.loop.seen.keys c.args.start here (c.loop.invariant.way heads noted) now c.in_ok-place.ensures.updates.0 in
    let none : nexts_at c.args.self.now c.args.when c.args.start.orig c.loop.node ≡ None = search rules in
    let here_noted = none_next c.args.self.now c.args.when heads here none in
    (all_noted c.args.self.now c.args.when heads now c.args.start here way heads (λ pair among. among) here_noted, start_noted c.args.self.now c.args.when heads now c.args.start here way heads (λ pair among. among) here_noted)

pub loop-preserved : goal.loop-preserved
loop-preserved c =
    let here = pair_of c.args.start.orig c.loop.node in
    let now = c.insert_full.new.self.keys in
    let leads : nexts_at c.args.self.now c.args.when c.args.start.orig c.loop.node ≡ Some c.in-Some.next = search rules in
    record {
      counted = c.loop.invariant.counted;
      front = front_stays c.len-first.result c.args.seen.now.keys c.loop.seen.keys now here c.loop.invariant.counted c.loop.invariant.front c.in_ok-place.ensures.keys;
      way = λ heads noted.
          goes_further c.args.self.now c.args.when heads now c.args.start here
          (seen_here c.args.self.now c.args.when heads c.loop.seen.keys c.args.start here (c.loop.invariant.way heads noted) now c.in_ok-place.ensures.updates.0) c.in-Some.next leads;
    }
