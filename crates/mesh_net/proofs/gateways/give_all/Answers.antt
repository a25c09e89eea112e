use Rattle.std.proofs.Common.{◌≡◌, ◌+◌, ◌∷◌, ℕ, List, drop, slice_index_or, arith}
use Rattle.std.proofs.lemmas.Result.{err_from_is_err_and}
use Rattle.mesh_model.specs.Net.Due.{ticks_in}
use Rattle.mesh_node.specs.NodeStands.{given_by}
use Rattle.mesh_post.proofs.Midway.{grew_none, grew_both}
use Rattle.mesh_net.proofs.LanSteps.{all_end, all_fails, all_next, all_start, next_has, rest_is, rest_none, stage_takes}
use Rattle.mesh_net.proofs.gateways.give_all.Goals as goal

pub loop-place-init : goal.loop-place-init
loop-place-init g c = record {
  has = c.requires.stage;
  grew = grew_none c.args.log.now;
  goes = λ older last ticks mesh number stage. all_start g.A.Algo.queries g.A.Algo.stands c.args.seats.now.items c.args.post.now older last ticks c.args.now mesh c.args.log.now (given_by number c.args.input.now) c.args.places.now stage;
}

pub give_at-requires : goal.give_at-requires
give_at-requires g c = stage_takes g.A.Algo.queries g.A.Algo.stands c.loop-place.seats.items c.loop-place.post c.args.now (slice_index_or c.args.places.now c.loop-place.place-index 0) c.args.input.now c.loop-place.invariant.has c.requires.tickless

pub loop-place-preserved : goal.loop-place-preserved
loop-place-preserved g c =
    let q = g.A.Algo.queries in
    let st = g.A.Algo.stands in
    let inv = c.loop-place.invariant in
    let i = c.loop-place.place-index in
    let places : List ℕ = c.args.places.now in
    let place : ℕ = slice_index_or places i 0 in
    let seats = c.loop-place.seats.items in
    let seats' = c.give_at.new.seats.items in
    let post = c.loop-place.post in
    let post' = c.give_at.new.post in
    let has = inv.has in
    let split : drop i places ≡ place ∷ drop (i + 1) places = rest_is places i (omega arith) in
    record {
      has = next_has q st seats seats' post post' post.choice c.args.now place 0 (given_by 0 c.args.input.now) c.loop-place.log c.give_at.new.log has
          (c.in_ok-give_at.ensures.given has.older has.last has.ticks has.mesh 0 has.stage (λ row found. c.requires.tickless.counts (ticks_in row.log)));
      grew = grew_both c.args.log.now c.loop-place.log c.give_at.new.log inv.grew c.give_at.ensures.grew;
      goes = λ older last ticks mesh number stage.
          let m = inv.goes older last ticks mesh number stage in
          all_next q st seats seats' post post' c.args.post.now.choice older last ticks c.args.now mesh c.args.log.now c.loop-place.log c.give_at.new.log (given_by number c.args.input.now) places (drop i places) place (drop (i + 1) places) split m
          (c.in_ok-give_at.ensures.given older last ticks m.mid number m.stage (λ row found. c.requires.tickless.counts (ticks_in row.log)));
    }

pub returns-in_err-give_at-clause-cause : goal.returns-in_err-give_at-clause-cause
returns-in_err-give_at-clause-cause g c = λ older last ticks mesh number stage.
    let q = g.A.Algo.queries in
    let st = g.A.Algo.stands in
    let i = c.loop-place.place-index in
    let places : List ℕ = c.args.places.now in
    let place : ℕ = slice_index_or places i 0 in
    let split : drop i places ≡ place ∷ drop (i + 1) places = rest_is places i (omega arith) in
    let m = c.loop-place.invariant.goes older last ticks mesh number stage in
    let p = err_from_is_err_and c.from_residual.result c.from_residual.ensures.1 in
    rw (p.1, p.2) (all_fails q st c.loop-place.seats.items c.loop-place.post c.args.post.now.choice older last ticks c.args.now mesh c.args.log.now c.loop-place.log (given_by number c.args.input.now) places (drop i places) place (drop (i + 1) places) c.in_err-give_at.field-0.0 split m
    (c.in_err-give_at.ensures.cause older last ticks m.mid number m.stage (λ row found. c.requires.tickless.counts (ticks_in row.log))))

pub returns-clause-given : goal.returns-clause-given
returns-clause-given g c = λ older last ticks mesh number stage.
    let i = c.loop-place.place-index in
    let places : List ℕ = c.args.places.now in
    all_end g.A.Algo.queries g.A.Algo.stands c.loop-place.seats.items c.loop-place.post c.args.post.now.choice older last ticks c.args.now mesh c.args.log.now c.loop-place.log (given_by number c.args.input.now) places (drop i places) (rest_none places i (omega arith))
    (c.loop-place.invariant.goes older last ticks mesh number stage)
