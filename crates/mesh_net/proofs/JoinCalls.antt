-- A net after a node or a link was to join it, when it noted whether that was refused.
use Rattle.std.proofs.Common.{◌≡◌, ℕ, ◌<◌, inl, inr, Bool, false, List, [], length, Result, Ok, Err, is_err, sym, subst}
use Rattle.std.specs.Result.{IfErr, IfOk, IsErrAnd, OnOk}
use Rattle.mesh_base.specs.declared.address.Mac.{Mac}
use Rattle.mesh_model.specs.declared.frame_choice.FrameChoice.{FrameChoice}
use Rattle.mesh_model.specs.Net.Limits.{nodes_limit, lans_limit}
use Rattle.mesh_model.specs.Net.Mesh.{NetLink, Mesh}
use Rattle.mesh_model.specs.Routes.Queries.{Queries}
use Rattle.mesh_model.specs.Routes.RouteLog.{RouteLog}
use Rattle.mesh_model.specs.Run.Steps.{new_node}
use Rattle.mesh_net.specs.declared.failure.NetErr.{NetErr}
use Rattle.mesh_net.specs.declared.failure.NetErr.TheVariants.{Memory}
use Rattle.mesh_net.specs.declared.net.Net.{Net}
use Rattle.mesh_net.specs.declared.seat.Seat.{Seat}
use Rattle.mesh_net.specs.NetStands.{HoldsFor, NetStands, IsLive, IsNet, SeatsStand}
use Rattle.mesh_post.specs.Joining.{with_node, with_link}
use Rattle.mesh_net.specs.Tells.{HasJoined, HasJoinedLan, HasLinked, LanTells, NodeTells}
use Rattle.mesh_net.proofs.SeatLemmas.{seats_length}

-- memory ran out where there was room
only_memory : (r : Result ℕ NetErr) (tells : NetErr → Type 0) → tells Memory → IsErrAnd r (λ e. e ≡ Memory) → IfErr r tells
only_memory (Ok place) tells room h = absurd h
only_memory (Err e) tells room h = subst tells (sym h) room

pub lan_memory : (r : Result ℕ NetErr) (count : ℕ) → count < lans_limit → IsErrAnd r (λ e. e ≡ Memory) → IfErr r (LanTells count)
lan_memory r count few h = only_memory r (LanTells count) few h

module _ {A : Type 0} (queries : Mac → Queries) (stands : A → Mac → RouteLog → Type 0) where
  pub node_memory : (r : Result ℕ NetErr) (seats : List (Seat A)) (mesh : Mesh) → SeatsStand queries stands seats mesh.nodes → length seats < nodes_limit → IsErrAnd r (λ e. e ≡ Memory) → IfErr r (NodeTells (length mesh.nodes))
  node_memory r seats mesh all few h = only_memory r (NodeTells (length mesh.nodes)) (subst (λ count. count < nodes_limit) (seats_length queries stands seats mesh.nodes all) few) h

  -- a net that notes whether it is dead
  abbrev noting : Net A → Bool → Net A
  noting net dead = record net { dead = dead }

  still : (net : Net A) (dead : Bool) (choice : FrameChoice) (clock : ℕ) (mesh : Mesh) → dead ≡ false → NetStands queries stands net choice clock mesh → NetStands queries stands (noting net dead) choice clock mesh
  still net dead choice clock mesh alive st = record {
    alive = alive;
    choice_is = st.choice_is;
    clock_is = st.clock_is;
    last_is = st.last_is;
    past = st.past;
    low = st.low;
    seats = st.seats;
    kept = st.kept;
    settled = st.settled;
    watched = st.watched;
    reached = st.reached;
  }

  pub still_joined : (r : Result ℕ NetErr) (net : Net A) (dead : Bool) (choice : FrameChoice) (clock : ℕ) (mesh : Mesh) (mac : Mac) → dead ≡ is_err r
      → IfOk r (HasJoined queries stands net choice clock mesh mac) → IfOk r (HasJoined queries stands (noting net dead) choice clock mesh mac)
  still_joined (Ok place) net dead choice clock mesh mac is h = record {
    place_is = h.place_is;
    room = h.room;
    standing = λ name. still net dead choice clock (with_node (new_node name mac clock) mesh) is (h.standing name);
  }
  still_joined (Err error) net dead choice clock mesh mac is h = tt

  pub still_linked : (r : Result Unit NetErr) (net : Net A) (dead : Bool) (choice : FrameChoice) (clock : ℕ) (mesh : Mesh) (link : NetLink) → dead ≡ is_err r
      → OnOk r (HasLinked queries stands net choice clock mesh link) → OnOk r (HasLinked queries stands (noting net dead) choice clock mesh link)
  still_linked (Ok done) net dead choice clock mesh link is h = record { room = h.room; standing = still net dead choice clock (with_link link mesh) is h.standing }
  still_linked (Err error) net dead choice clock mesh link is h = tt

  -- it stands for the mesh that something joined, or it is dead
  net_with : {T : Type 0} (r : Result T NetErr) (Joined : FrameChoice → ℕ → Mesh → T → Type 0) (old new : Net A) (dead : Bool) → IsNet queries stands old → old.dead ≡ false → dead ≡ is_err r
      → HoldsFor queries stands old (λ choice clock mesh. IfOk r (Joined choice clock mesh))
      → ((choice : FrameChoice) (clock : ℕ) (mesh : Mesh) (value : T) → Joined choice clock mesh value → IsLive queries stands new) → IsNet queries stands (noting new dead)
  net_with (Err error) Joined old new dead net alive is joins lives = inl is
  net_with (Ok value) Joined old new dead (inl gone) alive is joins lives = absurd (cc)
  net_with (Ok value) Joined old new dead (inr live) alive is joins lives =
      let now = lives live.choice live.clock live.mesh value (joins live.choice live.clock live.mesh live.standing) in
      inr (record { choice = now.choice; clock = now.clock; mesh = now.mesh; standing = still new dead now.choice now.clock now.mesh is now.standing })

  pub joined_net : (r : Result ℕ NetErr) (old new : Net A) (dead : Bool) (mac : Mac) → IsNet queries stands old → old.dead ≡ false → dead ≡ is_err r
      → HoldsFor queries stands old (λ choice clock mesh. IfOk r (HasJoined queries stands new choice clock mesh mac))
      → IsNet queries stands (noting new dead)
  joined_net r old new dead mac net alive is joins = net_with r (λ choice clock mesh. HasJoined queries stands new choice clock mesh mac) old new dead net alive is joins
      (λ choice clock mesh place h. record { choice = choice; clock = clock; mesh = with_node (new_node [] mac clock) mesh; standing = h.standing [] })

  pub linked_net : (r : Result Unit NetErr) (old new : Net A) (dead : Bool) (link : NetLink) → IsNet queries stands old → old.dead ≡ false → dead ≡ is_err r
      → HoldsFor queries stands old (λ choice clock mesh. OnOk r (HasLinked queries stands new choice clock mesh link))
      → IsNet queries stands (noting new dead)
  linked_net r old new dead link net alive is joins = net_with r (λ choice clock mesh done. HasLinked queries stands new choice clock mesh link) old new dead net alive is joins
      (λ choice clock mesh done h. record { choice = choice; clock = clock; mesh = with_link link mesh; standing = h.standing })

  pub still_lan : (r : Result ℕ NetErr) (net : Net A) (dead : Bool) (choice : FrameChoice) (clock : ℕ) (mesh : Mesh) (gateways : List ℕ) → dead ≡ is_err r
      → IfOk r (HasJoinedLan queries stands net choice clock mesh gateways) → IfOk r (HasJoinedLan queries stands (noting net dead) choice clock mesh gateways)
  still_lan (Ok place) net dead choice clock mesh gateways is h = record {
    place_is = h.place_is;
    room = h.room;
    joined = λ name. let j = h.joined name in record { after = j.after; is = j.is; standing = still net dead choice clock j.after is j.standing };
  }
  still_lan (Err error) net dead choice clock mesh gateways is h = tt

  pub lan_net : (r : Result ℕ NetErr) (old new : Net A) (dead : Bool) (gateways : List ℕ) → IsNet queries stands old → old.dead ≡ false → dead ≡ is_err r
      → HoldsFor queries stands old (λ choice clock mesh. IfOk r (HasJoinedLan queries stands new choice clock mesh gateways))
      → IsNet queries stands (noting new dead)
  lan_net r old new dead gateways net alive is joins = net_with r (λ choice clock mesh. HasJoinedLan queries stands new choice clock mesh gateways) old new dead net alive is joins
      (λ choice clock mesh place h. let j = h.joined [] in record { choice = choice; clock = clock; mesh = j.after; standing = j.standing })
