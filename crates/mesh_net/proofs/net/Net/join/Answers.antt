use Rattle.std.proofs.Common.{◌≡◌, ◌+◌, ◌*◌, ◌<◌, [], ◌∷◌, ◌++◌, length, refl, sym, ap, ◌∙◌, arith}
use Rattle.mesh_model.specs.declared.happening.Happening.{Happening}
use Rattle.mesh_model.specs.Net.Due.{first_ticks, tick_at, tick_time}
use Rattle.mesh_model.specs.Net.Limits.{nodes_limit}
use Rattle.mesh_model.specs.Net.Mesh.{NodeLog}
use Rattle.mesh_model.specs.Run.Steps.{new_node}
use Rattle.mesh_net.specs.Reached.{joins}
use Rattle.mesh_post.specs.Joining.{with_node}
use Rattle.mesh_net.specs.Steps.{tick_now}
use Rattle.mesh_post.proofs.Besides.{step_waits}
use Rattle.mesh_post.proofs.JoinLemmas.{awaits_tick, step_ticks, ticks_more}
use Rattle.mesh_net.proofs.JoinCalls.{node_memory}
use Rattle.mesh_net.proofs.SeatLemmas.{seat_joined, seats_length}
use Rattle.mesh_net.proofs.net.Net.join.Goals as goal

pub returns-then-len-ge-NODES_LIMIT-clause-cause : goal.returns-then-len-ge-NODES_LIMIT-clause-cause
returns-then-len-ge-NODES_LIMIT-clause-cause g c = λ choice clock mesh st.
    let all = seats_length g.A.Algo.queries g.A.Algo.stands c.args.self.now.seats.items mesh.nodes st.seats in
    let len = c.len.ensures in
    let full = c.if-len-ge-NODES_LIMIT.true in
    (refl, omega (arith, all, len, full))

pub returns-in_err-place-clause-cause : goal.returns-in_err-place-clause-cause
returns-in_err-place-clause-cause g c = λ choice clock mesh st.
    node_memory g.A.Algo.queries g.A.Algo.stands c.from_residual.result c.args.self.now.seats.items mesh st.seats (omega (arith, c.len.ensures, c.if-len-ge-NODES_LIMIT.false)) c.from_residual.ensures.1

pub returns-in_err-push-clause-cause : goal.returns-in_err-push-clause-cause
returns-in_err-push-clause-cause g c = λ choice clock mesh st.
    node_memory g.A.Algo.queries g.A.Algo.stands c.from_residual-in_err-push.result c.args.self.now.seats.items mesh st.seats (omega (arith, c.len.ensures, c.if-len-ge-NODES_LIMIT.false)) c.from_residual-in_err-push.ensures.1

pub returns-in_err-add_node-clause-cause : goal.returns-in_err-add_node-clause-cause
returns-in_err-add_node-clause-cause g c = λ choice clock mesh st.
    node_memory g.A.Algo.queries g.A.Algo.stands c.from_residual-in_err-add_node.result c.args.self.now.seats.items mesh st.seats (omega (arith, c.len.ensures, c.if-len-ge-NODES_LIMIT.false)) c.from_residual-in_err-add_node.ensures.1

pub returns-in_err-push-2-clause-cause : goal.returns-in_err-push-2-clause-cause
returns-in_err-push-2-clause-cause g c = λ choice clock mesh st.
    node_memory g.A.Algo.queries g.A.Algo.stands c.from_residual-in_err-push-2.result c.args.self.now.seats.items mesh st.seats (omega (arith, c.len.ensures, c.if-len-ge-NODES_LIMIT.false)) c.from_residual-in_err-push-2.ensures.1

pub returns-clause-joins : goal.returns-clause-joins
returns-clause-joins g c = λ choice clock mesh st.
    let all = seats_length g.A.Algo.queries g.A.Algo.stands c.args.self.now.seats.items mesh.nodes st.seats in
    let len = c.len.ensures in
    let len2 = c.len-2.ensures in
    let place = c.in_ok-place.ensures.is in
    let room = c.if-len-ge-NODES_LIMIT.false in
    let sum = c.saturating_add.ensures in
    let clock_is = st.clock_is in
    let low = st.low in
    let few : length mesh.nodes < nodes_limit = omega (arith, all, len, room) in
    let place_is : c.in_ok-place.place ≡ length mesh.nodes = omega (arith, all, len2, place) in
    record {
      place_is = place_is;
      room = few;
      standing = λ name.
          let new : NodeLog = new_node name c.args.me clock in
          let moment : c.saturating_add.result ≡ new.made + tick_time * 1 = omega (arith, sum, clock_is, low) in
          let h : c.tick_of.result ≡ tick_at c.in_ok-place.place new 1 = c.tick_of.ensures ∙ ap (tick_now c.in_ok-place.place) moment in
          let ticks : first_ticks 0 mesh.nodes ++ c.tick_of.result ∷ [] ≡ first_ticks 0 (mesh.nodes ++ new ∷ []) =
          ap (λ (x : Happening). first_ticks 0 mesh.nodes ++ x ∷ []) (h ∙ ap (λ p. tick_at p new 1) (omega (arith, place_is))) ∙ sym (ticks_more 0 mesh.nodes new) in
          record {
            alive = st.alive;
            choice_is = c.add_node.ensures.choice ∙ st.choice_is;
            clock_is = clock_is;
            last_is = st.last_is;
            past = st.past;
            low = low;
            seats = seat_joined g.A.Algo.queries g.A.Algo.stands c.args.self.now.seats.items c.push-2.new.self.items mesh.nodes (record { node = c.new.result; mac = c.args.me; ticks = 0 }) new c.in_ok-push-2.ensures.items st.seats (record {
              node = c.new.ensures;
              mac = refl;
              ticks = refl;
            });
            kept = step_ticks c.add_node.new.self c.args.self.now.sent mesh.last (first_ticks 0 mesh.nodes ++ c.tick_of.result ∷ []) (first_ticks 0 (mesh.nodes ++ new ∷ [])) (with_node new mesh) ticks (c.in_ok-add_node.ensures.joins c.args.self.now.sent mesh.last (first_ticks 0 mesh.nodes ++ c.tick_of.result ∷ []) mesh new
                (step_waits st.kept (awaits_tick c.args.self.now.post.queue c.push.new.self mesh.last (first_ticks 0 mesh.nodes) mesh.links mesh.frames mesh.puts c.tick_of.result st.kept.amid.waits c.in_ok-push.ensures.ok)));
            settled = (λ i. (c.add_node.ensures.settled i).items) ∙ st.settled;
            watched = st.watched;
            reached = joins clock mesh name c.args.me st.reached few;
          };
    }
