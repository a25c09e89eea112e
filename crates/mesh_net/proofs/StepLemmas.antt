-- A node of a net is given something: what the net is then, amid a step.
use Rattle.std.proofs.Common.{◌≡◌, ◌↔◌, ℕ, zero, suc, ◌+◌, ◌⊎◌, inl, inr, List, [], ◌∷◌, slice_get, slice_set, Some, None, Result, Ok, Err, refl, sym, ap, ◌∙◌, subst, arith}
use Rattle.std.specs.Result.{OnOk, IfErr}
use Rattle.std.proofs.lemmas.Option.{slice_get_within}
use Rattle.mesh_base.specs.declared.address.Mac.{Mac}
use Rattle.mesh_base.specs.declared.event.Event.{Event}
use Rattle.mesh_model.specs.declared.frame_choice.FrameChoice.{FrameChoice}
use Rattle.mesh_model.specs.declared.happening.Happening.{Happening}
use Rattle.mesh_model.specs.Clients.Log.{Given, LogEntry}
use Rattle.mesh_model.specs.Net.Due.{ticks_by, ticks_in}
use Rattle.mesh_model.specs.Net.Inputs.{entry_of, given_to, given_node}
use Rattle.mesh_model.specs.Net.Limits.{scenario_setup}
use Rattle.mesh_model.specs.Net.Mesh.{NodeLog, Mesh}
use Rattle.mesh_model.specs.Routes.Queries.{Queries}
use Rattle.mesh_model.specs.Routes.RouteLog.{RouteLog}
use Rattle.node_ground.specs.declared.failure.NodeErr.{NodeErr}
use Rattle.mesh_node.specs.declared.input.Input.{Input}
use Rattle.mesh_node.specs.declared.input.Input.TheVariants.{Tick, Link, Lan, Attach, Frame, Gone, Join, Leave, Arp, Dhcp, Wifi, GwOff, GwServer, GwClient, Mcast, Dat, Frag, Vis, Alfred, Put, Get, Ping, Trace, Reboot}
use Rattle.mesh_node.specs.NodeStands.{given_by}
use Rattle.mesh_post.specs.declared.post.Post.{Post}
use Rattle.mesh_net.specs.declared.give.Occasion.{Occasion}
use Rattle.mesh_post.specs.declared.row.Sender.{Sender}
use Rattle.mesh_post.specs.declared.row.Sending.{Sending}
use Rattle.mesh_net.specs.declared.seat.Seat.{Seat}
use Rattle.mesh_net.specs.Given.{HasGiven, GiveTells}
use Rattle.mesh_post.specs.Waiting.{all_deliveries}
use Rattle.mesh_model.specs.Net.Happenings.{Before}
use Rattle.mesh_model.specs.Net.Next.{Has}
use Rattle.mesh_model.specs.Net.Sending.{Attempt}
use Rattle.mesh_net.specs.NetStands.{SeatsStand}
use Rattle.mesh_post.specs.Sent.{MaySend}
use Rattle.mesh_net.specs.Steps.{ticks_with, Counts, Stage, CountsOn, Tried}
use Rattle.mesh_post.proofs.Besides.{step_waits}
use Rattle.mesh_post.proofs.Midway.{logged_none}
use Rattle.mesh_net.proofs.SeatLemmas.{seat_set}

-- the ticks that a node had with an input
pub ticks_are : (ticks number : ℕ) (input : Input) → Counts ticks input → ticks_with ticks input ≡ ticks_by (given_by number input) + ticks
ticks_are ticks number (Tick index) counts = omega (arith, counts)
ticks_are ticks number (Link from tp bytes) counts = omega arith
ticks_are ticks number (Lan bytes) counts = omega arith
ticks_are ticks number (Attach lan gateways) counts = omega arith
ticks_are ticks number (Frame src dst vid text) counts = omega arith
ticks_are ticks number (Gone key) counts = omega arith
ticks_are ticks number (Join key) counts = omega arith
ticks_are ticks number (Leave key) counts = omega arith
ticks_are ticks number (Arp mac own_ip asked_ip vid) counts = omega arith
ticks_are ticks number (Dhcp key text) counts = omega arith
ticks_are ticks number (Wifi on) counts = omega arith
ticks_are ticks number GwOff counts = omega arith
ticks_are ticks number (GwServer down up) counts = omega arith
ticks_are ticks number (GwClient policy) counts = omega arith
ticks_are ticks number (Mcast flags) counts = omega arith
ticks_are ticks number (Dat on) counts = omega arith
ticks_are ticks number (Frag size) counts = omega arith
ticks_are ticks number (Vis on) counts = omega arith
ticks_are ticks number (Alfred mode) counts = omega arith
ticks_are ticks number (Put type_no version text) counts = omega arith
ticks_are ticks number (Get type_no) counts = omega arith
ticks_are ticks number (Ping target) counts = omega arith
ticks_are ticks number (Trace target) counts = omega arith
ticks_are ticks number Reboot counts = omega arith

module _ {A : Type 0} (queries : Mac → Queries) (stands : A → Mac → RouteLog → Type 0) where
  -- where a net has no node, the mesh has none
  pub none_at : (seats : List (Seat A)) (rows : List NodeLog) (i : ℕ) → SeatsStand queries stands seats rows → slice_get seats i ≡ None → slice_get rows i ≡ None
  none_at [] [] i all e = refl
  none_at [] (row ∷ rows) i all e = absurd all
  none_at (s ∷ seats) [] i all e = absurd all
  none_at (s ∷ seats) (row ∷ rows) zero all e = cc
  none_at (s ∷ seats) (row ∷ rows) (suc i) all e = none_at seats rows i all.1 e

  -- nothing is given where there is no node
  pub tried_none : (seats : List (Seat A)) (post : Post) (older : List Sending) (last : Happening) (ticks : List Happening) (mesh : Mesh) (at : Occasion) (given : Given) (log : List Event)
      → Stage queries stands seats post older last ticks at.now mesh → slice_get seats at.place ≡ None
      → Tried queries stands seats post post.choice older last ticks mesh log log (given_to (scenario_setup queries) at.place at.now at.root given mesh)
  tried_none seats post older last ticks mesh at given log stage none = record {
    after = mesh;
    is = ap (λ o. given_node (scenario_setup queries) at.place at.now at.root given o mesh) (none_at seats mesh.nodes at.place stage.seats_stand none);
    choice_is = refl;
    seats_stand = stage.seats_stand;
    step = stage.step;
    logged = logged_none post.choice mesh log;
  }

  -- who sends amid a step may
  pub may_send : (seats : List (Seat A)) (post : Post) (older : List Sending) (last : Happening) (ticks : List Happening) (mesh : Mesh) (sender : Sender) (row : NodeLog)
      → Stage queries stands seats post older last ticks sender.now mesh → slice_get mesh.nodes sender.place ≡ Some row → MaySend sender last mesh
  may_send seats post older last ticks mesh sender row stage found = record { place = slice_get_within mesh.nodes sender.place row found; late = stage.late; soon = stage.soon }

  -- a node was given something
  pub tried_given : (seats : List (Seat A)) (post post' : Post) (older : List Sending) (last : Happening) (ticks : List Happening) (mesh : Mesh) (sender : Sender) (number : ℕ) (input : Input) (row : NodeLog) (seat : Seat A) (log log' : List Event)
      → Stage queries stands seats post older last ticks sender.now mesh → CountsOn sender.place input mesh → slice_get mesh.nodes sender.place ≡ Some row
      → seat.mac ≡ row.mac → seat.ticks ≡ ticks_with (ticks_in row.log) input
      → HasGiven queries stands seat.node post.choice sender (given_by number input) post' older last ticks row mesh log log'
      → Tried queries stands (slice_set seats sender.place seat) post' post.choice older last ticks mesh log log' (given_to (scenario_setup queries) sender.place sender.now sender.root (given_by number input) mesh)
  tried_given seats post post' older last ticks mesh sender number input row seat log log' stage counts found mac ticks_is g =
      let entry : LogEntry = entry_of (scenario_setup queries) row sender.now (given_by number input) in
      record {
        after = g.after;
        is = g.is;
        choice_is = g.choice_is;
        seats_stand = subst (SeatsStand queries stands (slice_set seats sender.place seat)) (sym g.nodes)
            (seat_set queries stands seats mesh.nodes sender.place seat row entry stage.seats_stand found (record {
              node = g.node_stands;
              mac = mac;
              ticks = ticks_is ∙ ticks_are (ticks_in row.log) number input (counts row found);
            }));
        step = g.step;
        logged = g.logged;
      }

  -- a node was given something, or refused it
  pub tried_if_given : (seats : List (Seat A)) (post post' : Post) (older : List Sending) (last : Happening) (ticks : List Happening) (mesh : Mesh) (sender : Sender) (number : ℕ) (input : Input) (row : NodeLog) (seat : Seat A) (log log' : List Event) (r : Result Unit NodeErr)
      → Stage queries stands seats post older last ticks sender.now mesh → CountsOn sender.place input mesh → slice_get mesh.nodes sender.place ≡ Some row
      → seat.mac ≡ row.mac → seat.ticks ≡ ticks_with (ticks_in row.log) input
      → OnOk r (HasGiven queries stands seat.node post.choice sender (given_by number input) post' older last ticks row mesh log log')
      → OnOk r (Tried queries stands (slice_set seats sender.place seat) post' post.choice older last ticks mesh log log' (given_to (scenario_setup queries) sender.place sender.now sender.root (given_by number input) mesh))
  tried_if_given seats post post' older last ticks mesh sender number input row seat log log' (Ok done) stage counts found mac ticks_is g =
      tried_given seats post post' older last ticks mesh sender number input row seat log log' stage counts found mac ticks_is g
  tried_if_given seats post post' older last ticks mesh sender number input row seat log log' (Err error) stage counts found mac ticks_is g = tt

  -- ---- said of another attempt, which is the same
  pub tried_as : (seats : List (Seat A)) (post : Post) (choice choice' : FrameChoice) (older : List Sending) (last : Happening) (ticks : List Happening) (mesh : Mesh) (log log' : List Event) (attempt attempt' : Attempt) (r : Result Unit NodeErr)
      → choice ≡ choice' → attempt ≡ attempt' → OnOk r (Tried queries stands seats post choice older last ticks mesh log log' attempt) → OnOk r (Tried queries stands seats post choice' older last ticks mesh log log' attempt')
  tried_as seats post choice choice' older last ticks mesh log log' attempt attempt' r same is tried =
      subst (λ a. OnOk r (Tried queries stands seats post choice' older last ticks mesh log log' a)) is (subst (λ k. OnOk r (Tried queries stands seats post k older last ticks mesh log log' attempt)) same tried)

  -- ---- one more happening waits
  pub stage_waits : (seats : List (Seat A)) (post : Post) (older : List Sending) (last : Happening) (ticks : List Happening) (now : ℕ) (mesh : Mesh) (queue : List Happening) (h next : Happening)
      → Stage queries stands seats post older last ticks now mesh → h ≡ next → ((x : Happening) → Has queue x ↔ (x ≡ h) ⊎ Has post.queue x)
      → Stage queries stands seats (record post { queue = queue }) older last (next ∷ ticks) now mesh
  stage_waits seats post older last ticks now mesh queue h next stage is gained = record {
    seats_stand = stage.seats_stand;
    step = step_waits stage.step (λ x. (λ p. to x ((gained x).0 p), λ p. (gained x).1 (from x p)));
    past = stage.past;
    late = stage.late;
    soon = stage.soon;
  }
    where
      Comes : Happening → Type 0
      Comes x = Has (all_deliveries mesh.links mesh.frames mesh.puts) x × Before last x

      old_to : (x : Happening) → Comes x ⊎ Has ticks x → Comes x ⊎ Has (next ∷ ticks) x
      old_to x (inl p) = inl p
      old_to x (inr p) = inr (inr p)

      to : (x : Happening) → (x ≡ h) ⊎ Has post.queue x → Comes x ⊎ Has (next ∷ ticks) x
      to x (inl e) = inr (inl (e ∙ is))
      to x (inr p) = old_to x ((stage.step.amid.waits x).0 p)

      from : (x : Happening) → Comes x ⊎ Has (next ∷ ticks) x → (x ≡ h) ⊎ Has post.queue x
      from x (inl p) = inr ((stage.step.amid.waits x).1 (inl p))
      from x (inr (inl e)) = inl (e ∙ sym is)
      from x (inr (inr p)) = inr ((stage.step.amid.waits x).1 (inr p))

pub told_as : (attempt attempt' : Attempt) (r : Result Unit NodeErr) → attempt ≡ attempt' → IfErr r (GiveTells attempt) → IfErr r (GiveTells attempt')
told_as attempt attempt' r is told = subst (λ a. IfErr r (GiveTells a)) is told
