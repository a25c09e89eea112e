-- Amid a step: from the popping of a happening, or the begin of a line, to the settling of what was
-- sent. The main words are `Begun` and `Gave`.
use Rattle.std.specs.Prelude.{◌≡◌, ℕ, suc, ◌+◌, ◌<◌, ◌≤◌, true, false, Bool, List, [], ◌∷◌, ◌++◌, ◌⊎◌, length, slice_get, Some, Ok, Err, Result, ⊤}
use Rattle.std.specs.Fn.{iterate}
use Rattle.mesh_base.specs.declared.address.Mac.{Mac}
use Rattle.mesh_base.specs.declared.event.Event.{Event}
use Rattle.mesh_model.specs.declared.ending.LimitName.{LimitName}
use Rattle.mesh_model.specs.declared.ending.LimitName.TheVariants as limits
use Rattle.mesh_model.specs.declared.frame_choice.FrameChoice.{FrameChoice}
use Rattle.mesh_model.specs.declared.happening.Class.{Class}
use Rattle.mesh_model.specs.declared.happening.Class.TheVariants.{LinkDelivery, LanDelivery, NodeTick}
use Rattle.mesh_model.specs.declared.happening.Happening.{Happening}
use Rattle.mesh_model.specs.Knowledge.Known.{Knowledge}
use Rattle.mesh_model.specs.Knowledge.Steps.{knowledge}
use Rattle.mesh_model.specs.Net.Due.{tick_time, ticks_in}
use Rattle.mesh_model.specs.Net.Limits.{clock_limit, scenario_setup}
use Rattle.mesh_model.specs.Net.Mesh.{NodeLog, SentFrame, LanPut, Mesh, Setup}
use Rattle.mesh_model.specs.Net.Next.{IsNext, IsQuiet}
use Rattle.mesh_model.specs.Net.Runs.{after_happening, begin, turn, going_on, run_to}
use Rattle.mesh_laws.specs.Soundness.{rank}
use Rattle.mesh_model.specs.Net.Sending.{Attempt}
use Rattle.mesh_model.specs.Routes.Queries.{Queries}
use Rattle.mesh_model.specs.Routes.RouteLog.{RouteLog, MayTick}
use Rattle.node_ground.specs.declared.failure.NodeErr.{NodeErr}
use Rattle.node_ground.specs.declared.failure.NodeErr.TheVariants as node_errors
use Rattle.mesh_node.specs.declared.input.Input.{Input}
use Rattle.mesh_node.specs.declared.input.Input.TheVariants.{Tick, Link, Lan, Attach, Frame, Gone, Join, Leave, Arp, Dhcp, Wifi, GwOff, GwServer, GwClient, Mcast, Dat, Frag, Vis, Alfred, Put, Get, Ping, Trace, Reboot}
use Rattle.node_ground.specs.OwnStands.{newest_moment}
use Rattle.mesh_node.specs.NodeStands.{MayFollow}
use Rattle.mesh_net.specs.declared.failure.NetErr.{NetErr}
use Rattle.mesh_net.specs.declared.failure.NetErr.TheVariants as net_errors
use Rattle.mesh_net.specs.declared.net.Net.{Net}
use Rattle.mesh_post.specs.declared.post.Post.{Post}
use Rattle.mesh_post.specs.declared.row.Sending.{Sending}
use Rattle.mesh_net.specs.declared.seat.Seat.{Seat}
use Rattle.mesh_tie.specs.Steps.{IsReachable}
use Rattle.mesh_tie.specs.TieLaws.{AllKeep}
use Rattle.mesh_net.specs.NetStands.{SeatsStand, NetStands}
use Rattle.mesh_net.specs.Reached.{IsReached}
use Rattle.mesh_post.specs.Sent.{InStep, Logged}
use Rattle.mesh_net.specs.Tells.{Ran, StepTells}
use Rattle.mesh_net.specs.Watching.{WatchStands}

-- ---- one node
-- how many ticks a node had with an input
abbrev pub ticks_with : ℕ → Input → ℕ
ticks_with ticks (Tick index) = index
ticks_with ticks (Link from tp bytes) = ticks
ticks_with ticks (Lan bytes) = ticks
ticks_with ticks (Attach lan gateways) = ticks
ticks_with ticks (Frame src dst vid text) = ticks
ticks_with ticks (Gone key) = ticks
ticks_with ticks (Join key) = ticks
ticks_with ticks (Leave key) = ticks
ticks_with ticks (Arp mac own_ip asked_ip vid) = ticks
ticks_with ticks (Dhcp key text) = ticks
ticks_with ticks (Wifi on) = ticks
ticks_with ticks GwOff = ticks
ticks_with ticks (GwServer down up) = ticks
ticks_with ticks (GwClient policy) = ticks
ticks_with ticks (Mcast flags) = ticks
ticks_with ticks (Dat on) = ticks
ticks_with ticks (Frag size) = ticks
ticks_with ticks (Vis on) = ticks
ticks_with ticks (Alfred mode) = ticks
ticks_with ticks (Put type_no version text) = ticks
ticks_with ticks (Get type_no) = ticks
ticks_with ticks (Ping target) = ticks
ticks_with ticks (Trace target) = ticks
ticks_with ticks Reboot = ticks

-- an input's index, where it is a tick, is that of the next tick after so many
abbrev pub Counts : ℕ → Input → Type 0
Counts ticks (Tick index) = index ≡ suc ticks
Counts ticks (Link from tp bytes) = ⊤
Counts ticks (Lan bytes) = ⊤
Counts ticks (Attach lan gateways) = ⊤
Counts ticks (Frame src dst vid text) = ⊤
Counts ticks (Gone key) = ⊤
Counts ticks (Join key) = ⊤
Counts ticks (Leave key) = ⊤
Counts ticks (Arp mac own_ip asked_ip vid) = ⊤
Counts ticks (Dhcp key text) = ⊤
Counts ticks (Wifi on) = ⊤
Counts ticks GwOff = ⊤
Counts ticks (GwServer down up) = ⊤
Counts ticks (GwClient policy) = ⊤
Counts ticks (Mcast flags) = ⊤
Counts ticks (Dat on) = ⊤
Counts ticks (Frag size) = ⊤
Counts ticks (Vis on) = ⊤
Counts ticks (Alfred mode) = ⊤
Counts ticks (Put type_no version text) = ⊤
Counts ticks (Get type_no) = ⊤
Counts ticks (Ping target) = ⊤
Counts ticks (Trace target) = ⊤
Counts ticks Reboot = ⊤

-- the newest input of each node is not after a moment
abbrev pub ArePast : ℕ → List NodeLog → Type 0
ArePast now [] = ⊤
ArePast now (node ∷ nodes) = (newest_moment node.log ≤ now) × ArePast now nodes

-- nodes and what is kept besides, amid a step at a moment in a mesh
pub record Stage {A : Type 0} (queries : Mac → Queries) (stands : A → Mac → RouteLog → Type 0)
    (seats : List (Seat A)) (post : Post) (older : List Sending) (last : Happening)
    (ticks : List Happening) (now : ℕ) (mesh : Mesh) : Type 0 where
  pub seats_stand : SeatsStand queries stands seats mesh.nodes
  pub step : InStep post older last ticks mesh
  pub past : ArePast now mesh.nodes
  pub late : last.moment ≤ now
  pub soon : now ≤ clock_limit

-- the input counts on at the node at a place
abbrev pub CountsOn : ℕ → Input → Mesh → Type 0
CountsOn place input mesh =
    (row : NodeLog) → slice_get mesh.nodes place ≡ Some row → Counts (ticks_in row.log) input

-- nodes stand amid some step at a moment
pub record HasStage {A : Type 0} (queries : Mac → Queries) (stands : A → Mac → RouteLog → Type 0)
    (seats : List (Seat A)) (post : Post) (now : ℕ) : Type 0 where
  pub older : List Sending
  pub last : Happening
  pub ticks : List Happening
  pub mesh : Mesh
  pub stage : Stage queries stands seats post older last ticks now mesh

-- an input may come to any node at any time: it is no tick
pub record IsTickless (input : Input) : Type 0 where
  pub follows : (known : Knowledge) → MayFollow known input
  pub counts : (ticks : ℕ) → Counts ticks input

-- something was tried amid a step: the mesh after it
pub record Tried {A : Type 0} (queries : Mac → Queries) (stands : A → Mac → RouteLog → Type 0)
    (seats : List (Seat A)) (post : Post) (choice : FrameChoice) (older : List Sending)
    (last : Happening) (ticks : List Happening) (before : Mesh) (old new : List Event)
    (attempt : Attempt) : Type 0 where
  pub after : Mesh
  pub is : attempt ≡ Ok after
  pub choice_is : post.choice ≡ choice
  pub seats_stand : SeatsStand queries stands seats after.nodes
  pub step : InStep post older last ticks after
  pub logged : Logged choice before after old new

-- ---- the net
-- the nodes of a net stand for some, which were given nothing after a moment
pub record HasNodes {A : Type 0} (queries : Mac → Queries) (stands : A → Mac → RouteLog → Type 0)
    (net : Net A) (now : ℕ) : Type 0 where
  pub nodes : List NodeLog
  pub seats_stand : SeatsStand queries stands net.seats.items nodes
  pub past : ArePast now nodes

-- a step at a moment begins in a mesh, when a happening is the last and these ticks wait
pub record Begun {A : Type 0} (queries : Mac → Queries) (stands : A → Mac → RouteLog → Type 0)
    (net : Net A) (choice : FrameChoice) (last : Happening) (ticks : List Happening) (now : ℕ)
    (mesh : Mesh) : Type 0 where
  pub choice_is : net.post.choice ≡ choice
  pub settled : net.post.fresh.items ≡ []
  pub stage : Stage queries stands net.seats.items net.post net.sent last ticks now mesh

-- this holds for each choice, last happening, waiting ticks and mesh with which a step of a net
-- begins at a moment
abbrev pub HoldsAmid : {A : Type 0} → (Mac → Queries) → (A → Mac → RouteLog → Type 0) → Net A → ℕ
    → (FrameChoice → Happening → List Happening → Mesh → Type 0) → Type 0
HoldsAmid queries stands net now This =
    (choice : FrameChoice) (last : Happening) (ticks : List Happening) (mesh : Mesh)
    → Begun queries stands net choice last ticks now mesh → This choice last ticks mesh

-- a step of a net may begin now
abbrev pub MayBegin : {A : Type 0} → (Mac → Queries) → (A → Mac → RouteLog → Type 0) → Net A
    → Type 0
MayBegin queries stands net = HasStage queries stands net.seats.items net.post net.clock

-- something was tried in such a step of a net
abbrev pub Gave : {A : Type 0} → (Mac → Queries) → (A → Mac → RouteLog → Type 0) → Net A
    → FrameChoice → Happening → List Happening → Mesh → List Event → List Event → Attempt → Type 0
Gave queries stands net choice last ticks before old new attempt =
    Tried queries stands net.seats.items net.post choice net.sent last ticks before old new
    attempt

-- what a step leaves as it is, until it is settled
pub record KeepsNet {A : Type 0} (old new : Net A) : Type 0 where
  pub sent : new.sent ≡ old.sent
  pub clock : new.clock ≡ old.clock
  pub last : new.last ≡ old.last
  pub watch : new.watch ≡ old.watch
  pub dead : new.dead ≡ old.dead

-- what a happening leaves as it is, until it is settled
pub record KeepsSent {A : Type 0} (old new : Net A) : Type 0 where
  pub sent : new.sent ≡ old.sent
  pub clock : new.clock ≡ old.clock
  pub last : new.last ≡ old.last
  pub dead : new.dead ≡ old.dead

-- something happened in a step of a net, up to the lines of routes with which it ends
pub record HasHappened {A : Type 0} (queries : Mac → Queries)
    (stands : A → Mac → RouteLog → Type 0) (net : Net A) (choice : FrameChoice) (last : Happening)
    (ticks : List Happening) (before : Mesh) (old new : List Event) (h : Happening) : Type 0 where
  pub gave : Gave queries stands net choice last ticks before old new
      (after_happening (scenario_setup queries) h before)
  pub watched : WatchStands net.watch gave.after.watch

-- each frame was sent over a link
abbrev pub AreOnLinks : Mesh → Type 0
AreOnLinks mesh = (place : ℕ) (frame : SentFrame) → slice_get mesh.frames place ≡ Some frame
    → frame.link < length mesh.links

-- each LAN frame was put on a LAN
abbrev pub AreOnLans : Mesh → Type 0
AreOnLans mesh = (place : ℕ) (put : LanPut) → slice_get mesh.puts place ≡ Some put
    → put.lan < length mesh.lans

-- the node at a place of a net may tick at a moment
pub record MayTickAt {A : Type 0} (queries : Mac → Queries) (stands : A → Mac → RouteLog → Type 0)
    (net : Net A) (place now : ℕ) : Type 0 where
  pub nodes : List NodeLog
  pub seats_stand : SeatsStand queries stands net.seats.items nodes
  pub past : ArePast now nodes
  pub row : NodeLog
  pub found : slice_get nodes place ≡ Some row
  pub may : MayTick (knowledge (queries row.mac) row.mac row.log).routes (suc (ticks_in row.log))
  pub few : ticks_in row.log < 4294967295

-- the tick of the node at a place that is due at a moment
abbrev pub tick_now : ℕ → ℕ → Happening
tick_now place now = record { moment = now; class = NodeTick; place = place }

-- the ticks that wait amid a step, by the class of its happening: behind a tick, the next one of
-- the node too
abbrev pub ticks_amid : Class → ℕ → ℕ → List Happening → List Happening
ticks_amid LinkDelivery place now others = others
ticks_amid LanDelivery place now others = others
ticks_amid NodeTick place now others = tick_now place (now + tick_time) ∷ others

-- ---- the end of a step
-- what a refusal of a node is in its net
abbrev pub net_error : NodeErr → NetErr
net_error node_errors.Memory = net_errors.Memory
net_error node_errors.Clients = net_errors.Limit limits.Clients
net_error node_errors.Vlans = net_errors.Limit limits.Vlans
net_error node_errors.Frames = net_errors.Limit limits.Frames
net_error node_errors.FrameBytes = net_errors.Limit limits.FrameBytes
net_error node_errors.Cuts = net_errors.Limit limits.Cuts
net_error node_errors.Dead = net_errors.Dead

-- why the sendings of a step aren't kept: what it tried was refused, or memory ran out
abbrev pub SettleTells : Result Unit NodeErr → NetErr → Type 0
SettleTells (Ok done) error = error ≡ net_errors.Memory
SettleTells (Err refused) error = error ≡ net_error refused

-- the sendings of a step stand behind the others
pub record Settled {A : Type 0} (old new : Net A) : Type 0 where
  pub sent : new.sent ≡ old.sent ++ old.post.fresh.items
  pub fresh : new.post.fresh.items ≡ []
  pub older : new.post.older ≡ length new.sent
  pub post : new.post ≡ record old.post { fresh = new.post.fresh; older = new.post.older }
  pub seats : new.seats ≡ old.seats
  pub clock : new.clock ≡ old.clock
  pub last : new.last ≡ old.last
  pub watch : new.watch ≡ old.watch
  pub dead : new.dead ≡ old.dead

-- something was given in a step of a net, and what it sent stands behind the others
pub record GaveAndKept {A : Type 0} (queries : Mac → Queries)
    (stands : A → Mac → RouteLog → Type 0) (old new : Net A) (choice : FrameChoice)
    (last : Happening) (ticks : List Happening) (before : Mesh) (attempt : Attempt) : Type 0 where
  pub amid : Net A
  pub told : List Event
  pub log : List Event
  pub gave : Gave queries stands amid choice last ticks before told log attempt
  pub kept : KeepsNet old amid
  pub settled : Settled amid new

-- the next happening until a moment was carried out
pub record Stepped {A : Type 0} (queries : Mac → Queries) (stands : A → Mac → RouteLog → Type 0)
    (net : Net A) (choice : FrameChoice) (before : Mesh) (t : ℕ) (old new : List Event) : Type 0
  where
    pub happening : Happening
    pub next : IsNext t before happening
    pub after : Mesh
    pub is : after_happening (scenario_setup queries) happening before ≡ Ok after
    pub standing : NetStands queries stands net choice happening.moment after
    pub logged : Logged choice before after old new

-- nothing was due until a moment, and all is as it was
pub record Rested {A : Type 0} (queries : Mac → Queries) (stands : A → Mac → RouteLog → Type 0)
    (net : Net A) (choice : FrameChoice) (clock : ℕ) (before : Mesh) (t : ℕ)
    (old new : List Event) : Type 0 where
  pub quiet : IsQuiet t before
  pub standing : NetStands queries stands net choice clock before
  pub as_before : new ≡ old

-- what a step tells by whether a happening was carried out
abbrev pub StepLeaves : {A : Type 0} → (Mac → Queries) → (A → Mac → RouteLog → Type 0) → Net A
    → FrameChoice → ℕ → Mesh → ℕ → List Event → List Event → Bool → Type 0
StepLeaves queries stands net choice clock before t old new true =
    Stepped queries stands net choice before t old new
StepLeaves queries stands net choice clock before t old new false =
    Rested queries stands net choice clock before t old new

-- the next happening until a moment was refused
pub record StepFails (queries : Mac → Queries) (before : Mesh) (t : ℕ) (error : NetErr) : Type 0
  where
    pub happening : Happening
    pub next : IsNext t before happening
    pub tells : StepTells (after_happening (scenario_setup queries) happening before) error

-- ---- a run
-- so many happenings until a moment were carried out: the mesh and the clock behind them
pub record Went {A : Type 0} (queries : Mac → Queries) (stands : A → Mac → RouteLog → Type 0)
    (net : Net A) (choice : FrameChoice) (clock : ℕ) (before : Mesh) (t count : ℕ)
    (old new : List Event) : Type 0 where
  pub after : Mesh
  pub now : ℕ
  pub standing : NetStands queries stands net choice now after
  pub logged : Logged choice before after old new
  pub goes : run_to (scenario_setup queries) t before
      ≡ going_on (scenario_setup queries) t (begin after)
  pub taken : iterate (turn (scenario_setup queries) t) count (begin before) ≡ begin after
  pub risen : rank before.last + count ≤ rank after.last
  pub now_is : ((count ≡ 0) × (now ≡ clock)) ⊎ (now ≡ after.last.moment)
  pub within : now ≤ t
  pub way : AllKeep queries → IsReachable queries before → IsReachable queries after

-- at most so many were, and fewer only where no more are due
pub record WentUpTo {A : Type 0} (queries : Mac → Queries) (stands : A → Mac → RouteLog → Type 0)
    (net : Net A) (choice : FrameChoice) (clock : ℕ) (before : Mesh) (t most : ℕ)
    (old new : List Event) : Type 0 where
  pub count : ℕ
  pub few : count ≤ most
  pub went : Went queries stands net choice clock before t count old new
  pub full : (count ≡ most) ⊎ IsQuiet t went.after

-- so they were, and where no more are due, the time passed
pub record RanOn {A : Type 0} (queries : Mac → Queries) (stands : A → Mac → RouteLog → Type 0)
    (net : Net A) (choice : FrameChoice) (clock : ℕ) (before : Mesh) (t most : ℕ)
    (old new : List Event) (more : Bool) : Type 0 where
  pub ran : Ran queries stands (scenario_setup queries) net choice clock before t most old new more
  pub logged : Logged choice before ran.after old new
  pub risen : rank before.last + ran.count ≤ rank ran.after.last
  pub within_now : ran.now ≤ t

-- a run until a moment is refused since it is past the last moment
abbrev pub IsLate : ℕ → NetErr → Type 0
IsLate t (net_errors.Limit limit) = (limit ≡ limits.Clock) × (clock_limit < t)
IsLate t net_errors.Dead = ⊥
IsLate t net_errors.Memory = ⊥

-- a run until a moment passes a limit
pub record StoppedAt (setup : Setup) (choice : FrameChoice) (before : Mesh) (t : ℕ)
    (old new : List Event) (limit : LimitName) : Type 0 where
  pub after : Mesh
  pub moment : ℕ
  pub goes : run_to setup t before
      ≡ record { mesh = after; stop = Some (record { moment = moment; limit = limit }) }
  pub logged : Logged choice before after old new

-- a run until a moment lacks memory
pub record BrokeOffAt (setup : Setup) (choice : FrameChoice) (before : Mesh) (t : ℕ)
    (old new : List Event) : Type 0 where
  pub after : Mesh
  pub goes : run_to setup t before ≡ going_on setup t (begin after)
  pub logged : Logged choice before after old new

-- why a run that began is refused, and what the log gained
abbrev pub SliceTells : Setup → FrameChoice → Mesh → ℕ → List Event → List Event → NetErr → Type 0
SliceTells setup choice before t old new (net_errors.Limit limit) =
    StoppedAt setup choice before t old new limit
SliceTells setup choice before t old new net_errors.Dead = ⊥
SliceTells setup choice before t old new net_errors.Memory =
    BrokeOffAt setup choice before t old new

-- a run that began is refused behind so many turns: the mesh and the clock behind them
pub record LeftAt (queries : Mac → Queries) (choice : FrameChoice) (before : Mesh) (t : ℕ)
    (old new : List Event) : Type 0 where
  pub count : ℕ
  pub after : Mesh
  pub now : ℕ
  pub taken : iterate (turn (scenario_setup queries) t) count (begin before) ≡ begin after
  pub logged : Logged choice before after old new
  pub is_reached : IsReached (scenario_setup queries) now after
  pub way : AllKeep queries → IsReachable queries before → IsReachable queries after
