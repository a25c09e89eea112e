-- Several nodes are given the same, one after another: what the net is then, amid a step.
use Rattle.std.proofs.Common.{◌≡◌, ℕ, zero, suc, ◌+◌, ◌<◌, ◌≤◌, arith, List, [], ◌∷◌, ◌++◌, drop, filter, length, slice_get, slice_index_or, Bool, cond, Option, Some, None, Ok, refl, sym, ap, ◌∙◌, subst, append-nil}
use Rattle.std.proofs.lemmas.Option.{get_or_from_slice_get}
use Rattle.mesh_base.specs.declared.address.Mac.{Mac}
use Rattle.mesh_base.specs.declared.event.Event.{Event}
use Rattle.mesh_model.specs.declared.frame_choice.FrameChoice.{FrameChoice}
use Rattle.mesh_model.specs.declared.happening.Happening.{Happening}
use Rattle.mesh_model.specs.Clients.Log.{Given, LanFrame}
use Rattle.mesh_model.specs.Knowledge.Steps.{knowledge}
use Rattle.mesh_model.specs.Net.Due.{first_ticks}
use Rattle.mesh_model.specs.Net.Inputs.{all_given, given_to}
use Rattle.mesh_model.specs.Net.Lans.{gateways_at, gets, lan_delivered, put_given, put_over, reach_events, with_events, with_lan}
use Rattle.mesh_model.specs.Net.Limits.{scenario_setup}
use Rattle.mesh_model.specs.Net.Mesh.{NetLan, LanPut, Mesh, Setup}
use Rattle.mesh_model.specs.Net.Sending.{Attempt, on_ok, with_put}
use Rattle.mesh_model.specs.Packets.LanFrames.{LanMessage, client_frame_in, lan_message_of}
use Rattle.mesh_model.specs.Routes.Queries.{Queries}
use Rattle.mesh_model.specs.Routes.RouteLog.{RouteLog}
use Rattle.mesh_model.specs.Text.Events.{is_shown}
use Rattle.node_ground.specs.declared.failure.NodeErr.{NodeErr}
use Rattle.node_ground.specs.declared.failure.PortErr.{PortErr}
use Rattle.node_ground.specs.declared.failure.PortErr.TheVariants as port
use Rattle.node_ground.specs.Errors.{HasPortCause, error_of}
use Rattle.mesh_node.specs.declared.input.Input.{Input}
use Rattle.mesh_node.specs.NodeStands.{MayTake}
use Rattle.mesh_post.specs.declared.post.Post.{Post}
use Rattle.mesh_post.specs.declared.row.Put.{Put}
use Rattle.mesh_post.specs.declared.row.Sending.{Sending}
use Rattle.mesh_post.specs.Kept.{PutIs, gateways_of}
use Rattle.mesh_post.specs.Lanes.{is_other}
use Rattle.mesh_post.specs.Sent.{HasCome, InStep, Logged, passed_more, put_in}
use Rattle.mesh_post.proofs.ActLemmas.{room_is}
use Rattle.mesh_post.proofs.Back.{put_there}
use Rattle.mesh_post.proofs.Besides.{step_beside}
use Rattle.mesh_post.proofs.Chosen.{drop_there}
use Rattle.mesh_post.proofs.LookUps.{got_there, some_one}
use Rattle.mesh_post.proofs.Midway.{logged_none, logged_both}
use Rattle.mesh_post.proofs.Ways.{attempt_by, put_attempt}
use Rattle.mesh_net.specs.declared.seat.Seat.{Seat}
use Rattle.mesh_net.specs.Given.{GiveTells}
use Rattle.mesh_net.specs.declared.net.Net.{Net}
use Rattle.mesh_net.specs.Steps.{AreOnLans, Begun, HasStage, IsTickless, Stage, Tried}
use Rattle.mesh_net.proofs.GiveLemmas.{named_map}
use Rattle.mesh_net.proofs.MomentLemmas.{given_keeps, past_at}
use Rattle.mesh_net.proofs.SeatLemmas.{seat_at}

-- ---- the places that get a frame
filter_same : (a b : ℕ → Bool) (xs : List ℕ) → ((x : ℕ) → a x ≡ b x) → filter a xs ≡ filter b xs
filter_same a b [] same = refl
filter_same a b (x ∷ xs) same = ap (λ c. cond c (x ∷ filter a xs) (filter a xs)) (same x) ∙ ap (λ ys. cond (b x) (x ∷ ys) ys) (filter_same a b xs same)

filter_all : (xs : List ℕ) → filter (is_other None) xs ≡ xs
filter_all [] = refl
filter_all (x ∷ xs) = ap (λ ys. x ∷ ys) (filter_all xs)

-- the rest of some places begins with the one at its place
pub rest_is : (xs : List ℕ) (i : ℕ) → i < length xs → drop i xs ≡ slice_index_or xs i 0 ∷ drop (i + 1) xs
rest_is xs i low =
    let there = got_there xs i low in
    drop_there xs i there.0 there.1 ∙ ap (λ y. y ∷ drop (suc i) xs) (sym (get_or_from_slice_get xs i there.0 0 there.1)) ∙ ap (λ k. slice_index_or xs i 0 ∷ drop k xs) (next i)
  where
    next : (n : ℕ) → suc n ≡ n + 1
    next n = omega arith

pub rest_none : (xs : List ℕ) (i : ℕ) → length xs ≤ i → drop i xs ≡ []
rest_none [] zero past = refl
rest_none [] (suc i) past = refl
rest_none (x ∷ xs) zero past = absurd (omega (arith, past))
rest_none (x ∷ xs) (suc i) past = rest_none xs i (omega (arith, past))

-- the gateways of the LAN at a place are kept
lan_kept : (lans : List NetLan) (place : ℕ) (lan : NetLan) → slice_get lans place ≡ Some lan → slice_get (gateways_of lans) place ≡ Some lan.gateways
lan_kept [] place lan e = cc
lan_kept (x ∷ lans) zero lan e = ap (λ (l : NetLan). Some l.gateways) (some_one x lan e)
lan_kept (x ∷ lans) (suc place) lan e = lan_kept lans place lan e

gateways_kept : (lans : List NetLan) (place : ℕ) (lan : NetLan) (kept : List (List ℕ)) → kept ≡ gateways_of lans → slice_get lans place ≡ Some lan → slice_index_or kept place [] ≡ lan.gateways
gateways_kept lans place lan kept same found = ap (λ ls. slice_index_or ls place []) same ∙ get_or_from_slice_get (gateways_of lans) place lan.gateways [] (lan_kept lans place lan found)

-- ---- what a LAN frame leads to
-- the frame that is kept, by its bytes
lan_delivered_is : (setup : Setup) (mesh : Mesh) (place now : ℕ) (put : LanPut) (lan : NetLan) → slice_get mesh.puts place ≡ Some put → slice_get mesh.lans put.lan ≡ Some lan
    → lan_delivered setup place now mesh ≡ all_given setup (filter (gets (client_frame_in (lan_message_of put.bytes)) put.by) lan.gateways) now (LanFrame put.bytes) (with_events (reach_events now put.lan put.by (client_frame_in (lan_message_of put.bytes))) mesh)
lan_delivered_is setup mesh place now put lan found on =
    ap (λ o. put_given setup now o mesh) found ∙ ap (λ o. put_over setup now put (client_frame_in (lan_message_of put.bytes)) o mesh) on

-- a LAN frame is kept as its LAN, who put it, and its bytes
record KeptAs (k : Put) (bytes : List ℕ) (put : LanPut) : Type 0 where
  pub lan : put.lan ≡ k.lan
  pub by : put.by ≡ k.by
  pub bytes_are : put.bytes ≡ bytes

kept_as : (sent fresh : List Sending) (k : Put) (sending : Sending) (put : LanPut) → fresh ≡ [] → PutIs (sent ++ fresh) put k → slice_get sent k.sending ≡ Some sending → KeptAs k sending.bytes put
kept_as sent fresh k sending put none is found = record {
  lan = sym is.lan;
  by = sym is.by;
  bytes_are = sym is.bytes ∙ ap (λ (s : Sending). s.bytes) (some_one is.sending sending (sym is.found ∙ ap (λ fs. slice_get (sent ++ fs) k.sending) none ∙ ap (λ ss. slice_get ss k.sending) (append-nil sent) ∙ found));
}

-- its bytes are kept
pub kept_there : (sent fresh : List Sending) (k : Put) (put : LanPut) → fresh ≡ [] → PutIs (sent ++ fresh) put k → slice_get sent k.sending ≡ None → ⊥
kept_there sent fresh k put none is missing = no_both is.sending (slice_get sent k.sending) missing (sym (ap (λ fs. slice_get (sent ++ fs) k.sending) none ∙ ap (λ ss. slice_get ss k.sending) (append-nil sent)) ∙ is.found)
  where
    no_both : (s : Sending) (o : Option Sending) → o ≡ None → o ≡ Some s → ⊥
    no_both s o a b = cc

-- the gateways that get it, by what is kept
lan_given_is : (setup : Setup) (mesh : Mesh) (place now : ℕ) (k : Put) (bytes : List ℕ) (put : LanPut) (lan : NetLan) (one : Option ℕ) (kept : List (List ℕ)) (places : List ℕ) → slice_get mesh.puts place ≡ Some put → slice_get mesh.lans put.lan ≡ Some lan → KeptAs k bytes put
    → kept ≡ gateways_of mesh.lans → ((gateway : ℕ) → gets (client_frame_in (lan_message_of bytes)) k.by gateway ≡ is_other one gateway) → places ≡ filter (is_other one) (slice_index_or kept k.lan [])
    → lan_delivered setup place now mesh ≡ all_given setup places now (LanFrame bytes) (with_events (reach_events now k.lan k.by (client_frame_in (lan_message_of bytes))) mesh)
lan_given_is setup mesh place now k bytes put lan one kept places found on like same gets_is places_is =
    lan_delivered_is setup mesh place now put lan found on
    ∙ ap (λ b. by_bytes put.lan put.by b) like.bytes_are
    ∙ ap (λ o. by_bytes put.lan o bytes) like.by
    ∙ ap (λ l. by_bytes l k.by bytes) like.lan
    ∙ ap (λ ps. all_given setup ps now (LanFrame bytes) (with_events (reach_events now k.lan k.by (client_frame_in (lan_message_of bytes))) mesh)) (sym get_is)
  where
    by_bytes : ℕ → Option ℕ → List ℕ → Attempt
    by_bytes l o b = all_given setup (filter (gets (client_frame_in (lan_message_of b)) o) lan.gateways) now (LanFrame b) (with_events (reach_events now l o (client_frame_in (lan_message_of b))) mesh)

    get_is : places ≡ filter (gets (client_frame_in (lan_message_of bytes)) k.by) lan.gateways
    get_is = places_is ∙ ap (λ gs. filter (is_other one) gs) (ap (λ l. slice_index_or kept l []) (sym like.lan) ∙ gateways_kept mesh.lans put.lan lan kept same on) ∙ sym (filter_same (gets (client_frame_in (lan_message_of bytes)) k.by) (is_other one) lan.gateways gets_is)

-- all gateways of a LAN, by what is kept
pub all_gateways : (lans : List NetLan) (kept : List (List ℕ)) (place : ℕ) (places : List ℕ) → kept ≡ gateways_of lans → places ≡ filter (is_other None) (slice_index_or kept place []) → places ≡ gateways_at place lans
all_gateways lans kept place places same is = is ∙ filter_all (slice_index_or kept place []) ∙ ap (λ ls. slice_index_or ls place []) same ∙ at lans place
  where
    at : (lans : List NetLan) (place : ℕ) → slice_index_or (gateways_of lans) place [] ≡ gateways_at place lans
    at [] place = refl
    at (lan ∷ lans) zero = refl
    at (lan ∷ lans) (suc place) = at lans place

-- there are as many as LANs
pub lans_count : (lans : List NetLan) → length (gateways_of lans) ≡ length lans
lans_count [] = refl
lans_count (lan ∷ lans) = ap suc (lans_count lans)

-- ---- a frame that comes on a LAN
-- why it isn't taken
pub put_fails : (queries : Mac → Queries) (post : Post) (older : List Sending) (last : Happening) (ticks : List Happening) (mesh : Mesh) (put : LanPut) (refused : PortErr) → InStep post older last ticks mesh → HasPortCause (passed_more post 1 (length put.bytes)) refused → GiveTells (with_put (scenario_setup queries) put mesh) (error_of refused)
put_fails queries post older last ticks mesh put port.Memory step cause = tt
put_fails queries post older last ticks mesh put port.Frames step cause = put_attempt queries put mesh ∙ ap (λ o. attempt_by o (put_in put mesh)) (room_is post older last ticks mesh 1 (length put.bytes) step ∙ cause)
put_fails queries post older last ticks mesh put port.FrameBytes step cause = put_attempt queries put mesh ∙ ap (λ o. attempt_by o (put_in put mesh)) (room_is post older last ticks mesh 1 (length put.bytes) step ∙ cause)

module _ {A : Type 0} (queries : Mac → Queries) (stands : A → Mac → RouteLog → Type 0) where
  -- each node takes it
  pub stage_takes : (seats : List (Seat A)) (post : Post) (now place : ℕ) (input : Input) → HasStage queries stands seats post now → IsTickless input → (seat : Seat A) → slice_get seats place ≡ Some seat → MayTake stands queries seat.node now input
  stage_takes seats post now place input has tickless seat found =
      let row = seat_at queries stands seats has.mesh.nodes place seat has.stage.seats_stand found in
      record { me = row.0.mac; log = row.0.log; stand = row.2.node; later = past_at now place has.mesh.nodes row.0 has.stage.past row.1; follows = tickless.follows (knowledge (queries row.0.mac) row.0.mac row.0.log) }

  -- the step goes on behind a node
  pub next_stage : (seats seats' : List (Seat A)) (post post' : Post) (choice : FrameChoice) (older : List Sending) (last : Happening) (ticks : List Happening) (now place root : ℕ) (given : Given) (mesh : Mesh) (old new : List Event)
      → Stage queries stands seats post older last ticks now mesh → (t : Tried queries stands seats' post' choice older last ticks mesh old new (given_to (scenario_setup queries) place now root given mesh)) → Stage queries stands seats' post' older last ticks now t.after
  next_stage seats seats' post post' choice older last ticks now place root given mesh old new stage t = record {
    seats_stand = t.seats_stand;
    step = t.step;
    past = given_keeps (scenario_setup queries) mesh place now root given t.after t.is stage.past;
    late = stage.late;
    soon = stage.soon;
  }

  pub next_has : (seats seats' : List (Seat A)) (post post' : Post) (choice : FrameChoice) (now place root : ℕ) (given : Given) (old new : List Event) → (has : HasStage queries stands seats post now)
      → Tried queries stands seats' post' choice has.older has.last has.ticks has.mesh old new (given_to (scenario_setup queries) place now root given has.mesh) → HasStage queries stands seats' post' now
  next_has seats seats' post post' choice now place root given old new has t = record {
    older = has.older;
    last = has.last;
    ticks = has.ticks;
    mesh = t.after;
    stage = next_stage seats seats' post post' choice has.older has.last has.ticks now place root given has.mesh old new has.stage t;
  }

  -- the first were given it, and the rest follow
  pub record AmidAll (seats : List (Seat A)) (post : Post) (choice : FrameChoice) (older : List Sending) (last : Happening) (ticks : List Happening) (now : ℕ) (mesh : Mesh) (old new : List Event) (given : Given) (all rest : List ℕ) : Type 0 where
    pub mid : Mesh
    pub choice_is : post.choice ≡ choice
    pub stage : Stage queries stands seats post older last ticks now mid
    pub logged : Logged choice mesh mid old new
    pub goes : all_given (scenario_setup queries) all now given mesh ≡ all_given (scenario_setup queries) rest now given mid

  pub all_start : (seats : List (Seat A)) (post : Post) (older : List Sending) (last : Happening) (ticks : List Happening) (now : ℕ) (mesh : Mesh) (log : List Event) (given : Given) (all : List ℕ) → Stage queries stands seats post older last ticks now mesh
      → AmidAll seats post post.choice older last ticks now mesh log log given all all
  all_start seats post older last ticks now mesh log given all stage = record { mid = mesh; choice_is = refl; stage = stage; logged = logged_none post.choice mesh log; goes = refl }

  pub all_next : (seats seats' : List (Seat A)) (post post' : Post) (choice : FrameChoice) (older : List Sending) (last : Happening) (ticks : List Happening) (now : ℕ) (mesh : Mesh) (old mid new : List Event) (given : Given) (all rest : List ℕ) (place : ℕ) (next : List ℕ) → rest ≡ place ∷ next
      → (m : AmidAll seats post choice older last ticks now mesh old mid given all rest) → Tried queries stands seats' post' post.choice older last ticks m.mid mid new (given_to (scenario_setup queries) place now 0 given m.mid)
      → AmidAll seats' post' choice older last ticks now mesh old new given all next
  all_next seats seats' post post' choice older last ticks now mesh old mid new given all rest place next split m t = record {
    mid = t.after;
    choice_is = t.choice_is ∙ m.choice_is;
    stage = next_stage seats seats' post post' post.choice older last ticks now place 0 given m.mid mid new m.stage t;
    logged = logged_both choice mesh m.mid t.after old mid new m.logged (subst (λ k. Logged k m.mid t.after mid new) m.choice_is t.logged);
    goes = m.goes ∙ ap (λ ps. all_given (scenario_setup queries) ps now given m.mid) split ∙ ap (on_ok (all_given (scenario_setup queries) next now given)) t.is;
  }

  pub all_end : (seats : List (Seat A)) (post : Post) (choice : FrameChoice) (older : List Sending) (last : Happening) (ticks : List Happening) (now : ℕ) (mesh : Mesh) (old new : List Event) (given : Given) (all rest : List ℕ) → rest ≡ []
      → AmidAll seats post choice older last ticks now mesh old new given all rest → Tried queries stands seats post choice older last ticks mesh old new (all_given (scenario_setup queries) all now given mesh)
  all_end seats post choice older last ticks now mesh old new given all rest none m = record {
    after = m.mid;
    is = m.goes ∙ ap (λ ps. all_given (scenario_setup queries) ps now given m.mid) none;
    choice_is = m.choice_is;
    seats_stand = m.stage.seats_stand;
    step = m.stage.step;
    logged = m.logged;
  }

  -- one refuses it
  pub all_fails : (seats : List (Seat A)) (post : Post) (choice : FrameChoice) (older : List Sending) (last : Happening) (ticks : List Happening) (now : ℕ) (mesh : Mesh) (old mid : List Event) (given : Given) (all rest : List ℕ) (place : ℕ) (next : List ℕ) (error : NodeErr) → rest ≡ place ∷ next
      → (m : AmidAll seats post choice older last ticks now mesh old mid given all rest) → GiveTells (given_to (scenario_setup queries) place now 0 given m.mid) error → GiveTells (all_given (scenario_setup queries) all now given mesh) error
  all_fails seats post choice older last ticks now mesh old mid given all rest place next error split m told =
      named_map error (given_to (scenario_setup queries) place now 0 given m.mid) (all_given (scenario_setup queries) all now given mesh)
      (λ limit e. m.goes ∙ ap (λ ps. all_given (scenario_setup queries) ps now given m.mid) split ∙ ap (on_ok (all_given (scenario_setup queries) next now given)) e) told

  -- further events change nothing that is kept
  pub told_stage : (seats : List (Seat A)) (post : Post) (older : List Sending) (last : Happening) (ticks : List Happening) (now : ℕ) (more : List Event) (mesh : Mesh) → Stage queries stands seats post older last ticks now mesh → Stage queries stands seats post older last ticks now (with_events more mesh)
  told_stage seats post older last ticks now more mesh stage = record {
    seats_stand = stage.seats_stand;
    step = step_beside stage.step;
    past = stage.past;
    late = stage.late;
    soon = stage.soon;
  }

  -- the gateways that get a LAN frame, by what is kept, are given it behind the events that it came
  pub lan_given : (net : Net A) (choice : FrameChoice) (last : Happening) (ticks : List Happening) (place now : ℕ) (k : Put) (sending : Sending) (message : LanMessage) (one : Option ℕ) (places : List ℕ) (mesh : Mesh)
      → Begun queries stands net choice last ticks now mesh → AreOnLans mesh → slice_get net.post.puts.items place ≡ Some k → slice_get net.sent k.sending ≡ Some sending → message ≡ lan_message_of sending.bytes
      → ((gateway : ℕ) → gets (client_frame_in message) k.by gateway ≡ is_other one gateway) → places ≡ filter (is_other one) (slice_index_or net.post.lans.items k.lan [])
      → all_given (scenario_setup queries) places now (LanFrame sending.bytes) (with_events (reach_events now k.lan k.by (client_frame_in message)) mesh) ≡ lan_delivered (scenario_setup queries) place now mesh
  lan_given net choice last ticks place now k sending message one places mesh begun on found sent read gets_is places_are =
      let there = put_there (net.sent ++ net.post.fresh.items) mesh.puts net.post.puts.items place k begun.stage.step.amid.stands.puts found in
      let lan = got_there mesh.lans there.0.lan (on place there.0 there.1) in
      let like = kept_as net.sent net.post.fresh.items k sending there.0 begun.settled there.2 sent in
      ap (λ m. all_given (scenario_setup queries) places now (LanFrame sending.bytes) (with_events (reach_events now k.lan k.by (client_frame_in m)) mesh)) read
      ∙ sym (lan_given_is (scenario_setup queries) mesh place now k sending.bytes there.0 lan.0 one net.post.lans.items places there.1 lan.1 like begun.stage.step.amid.stands.lans
      (subst (λ m. (gateway : ℕ) → gets (client_frame_in m) k.by gateway ≡ is_other one gateway) read gets_is) places_are)

  -- what was told before what is tried
  pub tried_behind : (seats : List (Seat A)) (post : Post) (choice : FrameChoice) (older : List Sending) (last : Happening) (ticks : List Happening) (more : List Event) (mesh : Mesh) (old mid new : List Event) (attempt : Attempt) → mid ≡ old ++ filter (is_shown choice) more
      → Tried queries stands seats post choice older last ticks (with_events more mesh) mid new attempt → Tried queries stands seats post choice older last ticks mesh old new attempt
  tried_behind seats post choice older last ticks more mesh old mid new attempt told t = record {
    after = t.after;
    is = t.is;
    choice_is = t.choice_is;
    seats_stand = t.seats_stand;
    step = t.step;
    logged = logged_both choice mesh (with_events more mesh) t.after old mid new (record { more = more; came = refl; told = told }) t.logged;
  }

  -- a LAN frame came
  pub tried_put : (seats : List (Seat A)) (post post' : Post) (choice choice' : FrameChoice) (older : List Sending) (last : Happening) (ticks : List Happening) (now : ℕ) (put : LanPut) (mesh : Mesh) (old new : List Event) → Stage queries stands seats post older last ticks now mesh → choice ≡ choice' → post'.choice ≡ choice
      → HasCome queries choice put post' older last ticks mesh old new → Tried queries stands seats post' choice' older last ticks mesh old new (with_put (scenario_setup queries) put mesh)
  tried_put seats post post' choice choice' older last ticks now put mesh old new stage same kept came = record {
    after = put_in put mesh;
    is = came.is;
    choice_is = kept ∙ same;
    seats_stand = stage.seats_stand;
    step = came.step;
    logged = subst (λ k. Logged k mesh (put_in put mesh) old new) same came.logged;
  }

  -- nothing happened
  pub tried_nothing : (seats : List (Seat A)) (post : Post) (choice : FrameChoice) (older : List Sending) (last : Happening) (ticks : List Happening) (now : ℕ) (mesh : Mesh) (log : List Event) (attempt : Attempt) → Stage queries stands seats post older last ticks now mesh → post.choice ≡ choice → attempt ≡ Ok mesh
      → Tried queries stands seats post choice older last ticks mesh log log attempt
  tried_nothing seats post choice older last ticks now mesh log attempt stage same is = record {
    after = mesh;
    is = is;
    choice_is = same;
    seats_stand = stage.seats_stand;
    step = stage.step;
    logged = logged_none choice mesh log;
  }

  -- a LAN joined what is kept: the step begins
  pub begun_lan : (net : Net A) (post : Post) (choice : FrameChoice) (mesh : Mesh) (lan : NetLan) → Begun queries stands net choice mesh.last (first_ticks 0 mesh.nodes) net.clock mesh → post.choice ≡ net.post.choice → post.fresh.items ≡ net.post.fresh.items
      → InStep post net.sent mesh.last (first_ticks 0 mesh.nodes) (with_lan lan mesh) → Begun queries stands (record net { post = post }) choice mesh.last (first_ticks 0 mesh.nodes) net.clock (with_lan lan mesh)
  begun_lan net post choice mesh lan begun same fresh step = record {
    choice_is = same ∙ begun.choice_is;
    settled = fresh ∙ begun.settled;
    stage = record { seats_stand = begun.stage.seats_stand; step = step; past = begun.stage.past; late = begun.stage.late; soon = begun.stage.soon };
  }
