use Rattle.std.proofs.Common.{◌<◌, length, refl, ◌∙◌, arith}
use Rattle.mesh_model.specs.Net.Due.{first_ticks}
use Rattle.mesh_model.specs.Net.Limits.{links_limit}
use Rattle.mesh_net.specs.NetStands.{net_link}
use Rattle.mesh_net.specs.Reached.{links}
use Rattle.mesh_net.proofs.ReachedLemmas.{reached}
use Rattle.mesh_net.proofs.net.Net.join_link.Goals as goal

pub returns-clause-joins : goal.returns-clause-joins
returns-clause-joins g c = λ choice clock mesh st.
    let s = st.kept.amid.stands in
    let count = s.rows.count in
    let len = c.len.ensures in
    let room = c.if-len-ge-LINKS_LIMIT.false in
    let few : length mesh.links < links_limit = omega (arith, count, len, room) in
    let new = c.requires choice clock mesh st in
    let link = net_link c.args.from c.args.to c.args.link.now in
    record {
      room = few;
      standing = record {
        alive = st.alive;
        choice_is = c.add_link.ensures.choice ∙ st.choice_is;
        clock_is = st.clock_is;
        last_is = st.last_is;
        past = st.past;
        low = st.low;
        seats = st.seats;
        kept = c.in_ok-add_link.ensures.joins c.args.self.now.sent mesh.last (first_ticks 0 mesh.nodes) mesh link st.kept (reached g.A.Algo.queries clock mesh st.reached).sound (record {
          from = refl;
          to = refl;
          start = c.mac_at.ensures mesh.nodes st.seats;
          end = c.mac_at-2.ensures mesh.nodes st.seats;
          delay = refl;
          pattern = c.new.ensures ∙ c.in_ok-from_slice.ensures.ok ∙ c.as_slice.ensures.value;
          throughput = refl;
          starts = new.from;
          ends = new.to;
          least = new.least;
          most = new.most;
        });
        settled = (λ i. (c.add_link.ensures.settled i).items) ∙ st.settled;
        watched = st.watched;
        reached = links clock mesh link st.reached few new;
      };
    }
