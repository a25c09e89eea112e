-- What a node may be given amid a step: what a line gives it, a frame that is kept, its next tick.
use Rattle.std.proofs.Common.{◌≡◌, ℕ, zero, suc, ◌+◌, ◌<◌, List, [], ◌∷◌, ◌++◌, length, slice_get, Option, Some, None, Ok, refl, sym, ap, ◌∙◌, subst, arith, append-nil}
use Rattle.mesh_base.specs.declared.address.Mac.{Mac}
use Rattle.mesh_model.specs.declared.frame_choice.FrameChoice.{FrameChoice}
use Rattle.mesh_model.specs.declared.happening.Happening.{Happening}
use Rattle.mesh_model.specs.Clients.Log as log
use Rattle.mesh_model.specs.Knowledge.Known.{Knowledge}
use Rattle.mesh_model.specs.Knowledge.Steps.{knowledge}
use Rattle.mesh_model.specs.Net.Due.{tick_time, ticks_in}
use Rattle.mesh_model.specs.Net.Inputs.{given_to}
use Rattle.mesh_model.specs.Net.Mesh.{NodeLog, NetLink, SentFrame, Mesh, Setup, address_at}
use Rattle.mesh_model.specs.Net.Runs.{delivered, frame_given, frame_over, tick_given, ticked, throughput_between}
use Rattle.mesh_model.specs.Routes.Queries.{Queries}
use Rattle.mesh_model.specs.Routes.RouteLog.{RouteLog, MayTick}
use Rattle.mesh_node.specs.declared.input.Input.{Input}
use Rattle.mesh_node.specs.declared.input.Input.TheVariants.{Tick, Link, Lan, Attach, Frame, Gone, Join, Leave, Arp, Dhcp, Wifi, GwOff, GwServer, GwClient, Mcast, Dat, Frag, Vis, Alfred, Put, Get, Ping, Trace, Reboot}
use Rattle.mesh_node.specs.NodeStands.{MayTake, MayFollow, given_by}
use Rattle.mesh_post.specs.declared.row.Arrival.{Arrival}
use Rattle.mesh_post.specs.declared.row.Sending.{Sending}
use Rattle.mesh_net.specs.declared.net.Net.{Net}
use Rattle.mesh_net.specs.declared.seat.Seat.{Seat}
use Rattle.mesh_post.specs.Lanes.{ArrivalIs}
use Rattle.mesh_post.specs.Waiting.{Joins}
use Rattle.mesh_net.specs.NetStands.{SeatsStand}
use Rattle.mesh_net.specs.Reached.{IsOfLine}
use Rattle.mesh_net.specs.Steps.{AreOnLinks, Begun, Counts, CountsOn, HasNodes, IsTickless, MayTickAt, Stage, tick_now}
use Rattle.mesh_post.proofs.LookUps.{some_one, got_there}
use Rattle.mesh_net.proofs.MomentLemmas.{past_at}
use Rattle.mesh_net.proofs.SeatLemmas.{seat_at, seats_length}
use Rattle.mesh_net.proofs.StepLemmas.{stage_waits}

-- ---- what a line gives
-- it may come to any node at any time
pub line_tickless : (number : ℕ) (input : Input) → IsOfLine (given_by number input) → IsTickless input
line_tickless number (Tick index) line = absurd line
line_tickless number (Link from tp bytes) line = absurd line
line_tickless number (Lan bytes) line = absurd line
line_tickless number (Attach lan gateways) line = absurd line
line_tickless number (Frame src dst vid text) line = record { follows = λ known. tt; counts = λ ticks. tt }
line_tickless number (Gone key) line = record { follows = λ known. tt; counts = λ ticks. tt }
line_tickless number (Join key) line = record { follows = λ known. tt; counts = λ ticks. tt }
line_tickless number (Leave key) line = record { follows = λ known. tt; counts = λ ticks. tt }
line_tickless number (Arp mac own_ip asked_ip vid) line = record { follows = λ known. tt; counts = λ ticks. tt }
line_tickless number (Dhcp key text) line = record { follows = λ known. tt; counts = λ ticks. tt }
line_tickless number (Wifi on) line = record { follows = λ known. tt; counts = λ ticks. tt }
line_tickless number GwOff line = record { follows = λ known. tt; counts = λ ticks. tt }
line_tickless number (GwServer down up) line = record { follows = λ known. tt; counts = λ ticks. tt }
line_tickless number (GwClient policy) line = record { follows = λ known. tt; counts = λ ticks. tt }
line_tickless number (Mcast flags) line = record { follows = λ known. tt; counts = λ ticks. tt }
line_tickless number (Dat on) line = record { follows = λ known. tt; counts = λ ticks. tt }
line_tickless number (Frag size) line = record { follows = λ known. tt; counts = λ ticks. tt }
line_tickless number (Vis on) line = record { follows = λ known. tt; counts = λ ticks. tt }
line_tickless number (Alfred mode) line = record { follows = λ known. tt; counts = λ ticks. tt }
line_tickless number (Put type_no version text) line = record { follows = λ known. tt; counts = λ ticks. tt }
line_tickless number (Get type_no) line = record { follows = λ known. tt; counts = λ ticks. tt }
line_tickless number (Ping target) line = record { follows = λ known. tt; counts = λ ticks. tt }
line_tickless number (Trace target) line = record { follows = λ known. tt; counts = λ ticks. tt }
line_tickless number Reboot line = record { follows = λ known. tt; counts = λ ticks. tt }

pub line_counts : (ticks number : ℕ) (input : Input) → IsOfLine (given_by number input) → Counts ticks input
line_counts ticks number input line = (line_tickless number input line).counts ticks

module _ {A : Type 0} (queries : Mac → Queries) (stands : A → Mac → RouteLog → Type 0) where
  -- what a node knows
  abbrev known_of : NodeLog → Knowledge
  known_of row = knowledge (queries row.mac) row.mac row.log

  -- a node takes what follows all that it may know, at a moment that isn't before its newest input
  pub may_take : (net : Net A) (place now : ℕ) (input : Input) → HasNodes queries stands net now → ((known : Knowledge) → MayFollow known input) → (seat : Seat A) → slice_get net.seats.items place ≡ Some seat → MayTake stands queries seat.node now input
  may_take net place now input has follows seat found =
      let row = seat_at queries stands net.seats.items has.nodes place seat has.seats_stand found in
      record { me = row.0.mac; log = row.0.log; stand = row.2.node; later = past_at now place has.nodes row.0 has.past row.1; follows = follows (known_of row.0) }

  pub line_taken : (net : Net A) (place now number : ℕ) (input : Input) → HasNodes queries stands net now → IsOfLine (given_by number input) → (seat : Seat A) → slice_get net.seats.items place ≡ Some seat → MayTake stands queries seat.node now input
  line_taken net place now number input has line = may_take net place now input has (line_tickless number input line).follows

  -- ---- a tick
  -- the node that ticks
  pub record Ticker (seats : List (Seat A)) (place now index : ℕ) : Type 0 where
    pub seat : Seat A
    pub found : slice_get seats place ≡ Some seat
    pub low : seat.ticks < 4294967296
    pub may : (index ≡ suc seat.ticks) → MayTake stands queries seat.node now (Tick index)

  pub ticker : (net : Net A) (place now index : ℕ) → MayTickAt queries stands net place now → Ticker net.seats.items place now index
  ticker net place now index may =
      let l : place < length net.seats.items = subst (λ n. place < n) (sym (seats_length queries stands net.seats.items may.nodes may.seats_stand)) (got_low may.nodes place may.row may.found) in
      let there = got_there net.seats.items place l in
      let row = seat_at queries stands net.seats.items may.nodes place there.0 may.seats_stand there.1 in
      let same : may.row ≡ row.0 = some_one may.row row.0 (sym may.found ∙ row.1) in
      let ticks_is : there.0.ticks ≡ ticks_in may.row.log = row.2.ticks ∙ ap (λ (r : NodeLog). ticks_in r.log) (sym same) in
      let few = may.few in
      record {
        seat = there.0;
        found = there.1;
        low = omega (arith, few, ticks_is);
        may = λ e. record {
          me = row.0.mac;
          log = row.0.log;
          stand = row.2.node;
          later = past_at now place may.nodes row.0 may.past row.1;
          follows = subst (λ (r : NodeLog). MayTick (known_of r).routes index) same (subst (MayTick (known_of may.row).routes) (sym (e ∙ ap suc ticks_is)) may.may);
        };
      }
    where
      got_low : {X : Type 0} (xs : List X) (i : ℕ) (x : X) → slice_get xs i ≡ Some x → i < length xs
      got_low [] i x e = cc
      got_low (y ∷ ys) zero x e = omega arith
      got_low (y ∷ ys) (suc i) x e = let l = got_low ys i x e in omega (arith, l)

  pub tick_taken : (seats : List (Seat A)) (place now index : ℕ) (t : Ticker seats place now index) → index ≡ suc t.seat.ticks → (seat : Seat A) → slice_get seats place ≡ Some seat → MayTake stands queries seat.node now (Tick index)
  tick_taken seats place now index t e seat found = subst (λ (s : Seat A). MayTake stands queries s.node now (Tick index)) (some_one t.seat seat (sym t.found ∙ found)) (t.may e)

  -- the index counts on
  tick_counts : (seats : List (Seat A)) (nodes : List NodeLog) (place now index : ℕ) (t : Ticker seats place now index) → index ≡ suc t.seat.ticks → SeatsStand queries stands seats nodes → (row : NodeLog) → slice_get nodes place ≡ Some row → index ≡ suc (ticks_in row.log)
  tick_counts seats nodes place now index t e stand row found =
      let r = seat_at queries stands seats nodes place t.seat stand t.found in
      e ∙ ap suc (r.2.ticks ∙ ap (λ (x : NodeLog). ticks_in x.log) (some_one r.0 row (sym r.1 ∙ found)))

  -- a tick gives its node the index
  ticked_is : (setup : Setup) (seats : List (Seat A)) (mesh : Mesh) (place now index : ℕ) (t : Ticker seats place now index) → index ≡ suc t.seat.ticks → SeatsStand queries stands seats mesh.nodes
      → ticked setup place now mesh ≡ given_to setup place now index (log.Tick index) mesh
  ticked_is setup seats mesh place now index t e stand =
      let r = seat_at queries stands seats mesh.nodes place t.seat stand t.found in
      let i : suc (ticks_in r.0.log) ≡ index = sym (e ∙ ap suc r.2.ticks) in
      ap (λ o. tick_given setup place now o mesh) r.1 ∙ ap (λ n. given_to setup place now n (log.Tick n) mesh) i

  -- amid a step that had begun, its node ticks, and the next tick of it waits
  pub record TicksNow (setup : Setup) (net : Net A) (queue : List Happening) (last : Happening) (others : List Happening) (place now index : ℕ) (mesh : Mesh) : Type 0 where
    pub stage : Stage queries stands net.seats.items (record net.post { queue = queue }) net.sent last (tick_now place (now + tick_time) ∷ others) now mesh
    pub counts : CountsOn place (Tick index) mesh
    pub is : given_to setup place now index (log.Tick index) mesh ≡ ticked setup place now mesh

  pub ticks_now : (setup : Setup) (net : Net A) (queue : List Happening) (choice : FrameChoice) (last : Happening) (others : List Happening) (place now index moment : ℕ) (next : Happening) (mesh : Mesh) → Begun queries stands net choice last others now mesh → MayTickAt queries stands net place now
      → ((seat : Seat A) → slice_get net.seats.items place ≡ Some seat → seat.ticks < 4294967296 → index ≡ suc seat.ticks) → Joins next net.post.queue queue → next ≡ tick_now place moment → moment ≡ now + tick_time → TicksNow setup net queue last others place now index mesh
  ticks_now setup net queue choice last others place now index moment next mesh begun may counted joined is soon =
      let t = ticker net place now index may in
      let e = counted t.seat t.found t.low in
      record {
        stage = stage_waits queries stands net.seats.items net.post net.sent last others now mesh queue next (tick_now place (now + tick_time)) begun.stage (is ∙ ap (tick_now place) soon) joined;
        counts = tick_counts net.seats.items mesh.nodes place now index t e begun.stage.seats_stand;
        is = sym (ticked_is setup net.seats.items mesh place now index t e begun.stage.seats_stand);
      }

  -- ---- a frame
  record Comes (setup : Setup) (net : Net A) (mesh : Mesh) (place now : ℕ) (arrival : Arrival) : Type 0 where
    pub sending : Sending
    pub found : slice_get net.sent arrival.sending ≡ Some sending
    pub is : delivered setup place now mesh ≡ given_to setup arrival.to now sending.root (log.LinkFrame (suc place) arrival.from arrival.tp sending.bytes) mesh

  delivered_is : (setup : Setup) (mesh : Mesh) (place now : ℕ) (frame : SentFrame) (link : NetLink) → slice_get mesh.frames place ≡ Some frame → slice_get mesh.links frame.link ≡ Some link
      → delivered setup place now mesh ≡ given_to setup link.to now frame.root (log.LinkFrame (suc place) (address_at link.from mesh.nodes) (throughput_between link.to link.from mesh.links) frame.bytes) mesh
  delivered_is setup mesh place now frame link found on = ap (λ o. frame_given setup place now o mesh) found ∙ ap (λ o. frame_over setup place now frame o mesh) on

  comes_at : (setup : Setup) (net : Net A) (choice : FrameChoice) (last : Happening) (ticks : List Happening) (now : ℕ) (mesh : Mesh) (place : ℕ) (frame : SentFrame) (link : NetLink) (arrival : Arrival) → Begun queries stands net choice last ticks now mesh
      → slice_get mesh.frames place ≡ Some frame → slice_get mesh.links frame.link ≡ Some link → ArrivalIs (net.sent ++ net.post.fresh.items) mesh frame link arrival → Comes setup net mesh place now arrival
  comes_at setup net choice last ticks now mesh place frame link arrival begun found on a = record {
    sending = a.sending;
    found = subst (λ ss. slice_get ss arrival.sending ≡ Some a.sending) (ap (λ fs. net.sent ++ fs) begun.settled ∙ append-nil net.sent) a.found;
    is = delivered_is setup mesh place now frame link found on
        ∙ ap (λ n. given_to setup n now frame.root (log.LinkFrame (suc place) (address_at link.from mesh.nodes) (throughput_between link.to link.from mesh.links) frame.bytes) mesh) (sym a.to)
        ∙ ap (λ n. given_to setup arrival.to now n (log.LinkFrame (suc place) (address_at link.from mesh.nodes) (throughput_between link.to link.from mesh.links) frame.bytes) mesh) (sym a.root)
        ∙ ap (λ n. given_to setup arrival.to now a.sending.root (log.LinkFrame (suc place) n (throughput_between link.to link.from mesh.links) frame.bytes) mesh) (sym a.from)
        ∙ ap (λ n. given_to setup arrival.to now a.sending.root (log.LinkFrame (suc place) arrival.from n frame.bytes) mesh) (sym a.throughput)
        ∙ ap (λ n. given_to setup arrival.to now a.sending.root (log.LinkFrame (suc place) arrival.from arrival.tp n) mesh) (sym a.bytes);
  }

  by_frame : {X : Type 0} (o : Option SentFrame) → (o ≡ None → X) → ((frame : SentFrame) → o ≡ Some frame → X) → X
  by_frame None f h = f refl
  by_frame (Some frame) f h = h frame refl

  none_some : {X Y : Type 0} (x : X) (o : Option X) → o ≡ None → o ≡ Some x → Y
  none_some x o a b = cc

  -- what comes is kept
  comes : (setup : Setup) (net : Net A) (choice : FrameChoice) (last : Happening) (ticks : List Happening) (now : ℕ) (mesh : Mesh) (place : ℕ) (o : Option Arrival) (arrival : Arrival) → o ≡ Some arrival → Begun queries stands net choice last ticks now mesh → AreOnLinks mesh
      → ((frame : SentFrame) (link : NetLink) → slice_get mesh.frames place ≡ Some frame → slice_get mesh.links frame.link ≡ Some link → (a : Arrival) × (o ≡ Some a) × ArrivalIs (net.sent ++ net.post.fresh.items) mesh frame link a)
      → (slice_get mesh.frames place ≡ None → o ≡ None) → Comes setup net mesh place now arrival
  comes setup net choice last ticks now mesh place o arrival is begun on some none = by_frame (slice_get mesh.frames place)
      (λ e. none_some arrival o (none e) is)
      (λ frame e.
      let link = got_there mesh.links frame.link (on place frame e) in
      let a = some frame link.0 e link.1 in
      comes_at setup net choice last ticks now mesh place frame link.0 arrival begun e link.1 (subst (ArrivalIs (net.sent ++ net.post.fresh.items) mesh frame link.0) (some_one a.0 arrival (sym a.1 ∙ is)) a.2))

  -- where nothing comes, nothing happens
  pub comes_none : (setup : Setup) (mesh : Mesh) (place now : ℕ) (sendings : List Sending) (o : Option Arrival) → o ≡ None → AreOnLinks mesh
      → ((frame : SentFrame) (link : NetLink) → slice_get mesh.frames place ≡ Some frame → slice_get mesh.links frame.link ≡ Some link → (a : Arrival) × (o ≡ Some a) × ArrivalIs sendings mesh frame link a)
      → delivered setup place now mesh ≡ Ok mesh
  comes_none setup mesh place now sendings o is on some = by_frame (slice_get mesh.frames place)
      (λ e. ap (λ f. frame_given setup place now f mesh) e)
      (λ frame e.
      let link = got_there mesh.links frame.link (on place frame e) in
      let a = some frame link.0 e link.1 in
      none_some a.0 o is a.1)

  -- what is given is what comes
  pub frame_is : (setup : Setup) (net : Net A) (choice : FrameChoice) (last : Happening) (ticks : List Happening) (now : ℕ) (mesh : Mesh) (place : ℕ) (o : Option Arrival) (arrival : Arrival) (sending : Sending) → o ≡ Some arrival → Begun queries stands net choice last ticks now mesh → AreOnLinks mesh
      → ((frame : SentFrame) (link : NetLink) → slice_get mesh.frames place ≡ Some frame → slice_get mesh.links frame.link ≡ Some link → (a : Arrival) × (o ≡ Some a) × ArrivalIs (net.sent ++ net.post.fresh.items) mesh frame link a)
      → (slice_get mesh.frames place ≡ None → o ≡ None) → slice_get net.sent arrival.sending ≡ Some sending
      → given_to setup arrival.to now sending.root (log.LinkFrame (suc place) arrival.from arrival.tp sending.bytes) mesh ≡ delivered setup place now mesh
  frame_is setup net choice last ticks now mesh place o arrival sending is begun on some none found =
      let it = comes setup net choice last ticks now mesh place o arrival is begun on some none in
      ap (λ (x : Sending). given_to setup arrival.to now x.root (log.LinkFrame (suc place) arrival.from arrival.tp x.bytes) mesh) (some_one sending it.sending (sym found ∙ it.found)) ∙ sym it.is
