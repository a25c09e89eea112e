-- The watch of routes: the lines that are told at the end of a happening, of one node after another, and
-- how they join its events.
use Rattle.std.proofs.Common.{◌≡◌, ℕ, List, [], ◌∷◌, ◌++◌, filter, map, slice_get, slice_index_or, Option, Some, None, refl, sym, ap, ap₂, ◌∙◌, subst, append_assoc, append-nil}
use Rattle.std.proofs.lemmas.List.{map-append, reverse-append}
use Rattle.std.specs.Prelude.{option_map, reverse}
use Rattle.std.specs.Option.{option_map_or}
use Rattle.mesh_base.specs.declared.address.Mac.{Mac}
use Rattle.mesh_base.specs.declared.event.Event.{Event}
use Rattle.mesh_model.specs.declared.frame_choice.FrameChoice.{FrameChoice}
use Rattle.mesh_model.specs.declared.happening.Class.TheVariants.{LanDelivery}
use Rattle.mesh_model.specs.declared.happening.Happening.{Happening}
use Rattle.mesh_model.specs.declared.route.OrigRow.{OrigRow}
use Rattle.mesh_model.specs.declared.route_line.RouteLine.{RouteLine}
use Rattle.mesh_model.specs.Net.Lans.{gateways_at}
use Rattle.mesh_model.specs.Net.Limits.{scenario_setup}
use Rattle.mesh_model.specs.Net.Mesh.{LanPut, Mesh, NetLink, NodeLog, Setup}
use Rattle.mesh_model.specs.Net.Runs.{effect, with_last}
use Rattle.mesh_model.specs.Net.Sending.{on_ok}
use Rattle.mesh_model.specs.Net.Watching.{lines_at, lines_due, lines_of_node, lines_told, lines_watched, route_event, takers, takers_of, told_with}
use Rattle.mesh_model.specs.Routes.Queries.{Queries}
use Rattle.mesh_model.specs.Routes.RouteLog.{RouteLog}
use Rattle.mesh_model.specs.Text.Events.{is_shown}
use Rattle.mesh_net.specs.declared.net.Net.{Net}
use Rattle.mesh_net.specs.declared.seat.Seat.{Seat}
use Rattle.mesh_net.specs.NetStands.{SeatIs}
use Rattle.mesh_net.specs.Steps.{Gave, HasHappened}
use Rattle.mesh_net.specs.Watching.{HasTold, HasWatched, KeepsAllBut, WatchStands}
use Rattle.mesh_net.proofs.Ends.{ended_with}
use Rattle.mesh_net.proofs.LanSteps.{all_gateways}
use Rattle.mesh_post.proofs.Back.{no_put, put_there}
use Rattle.mesh_post.proofs.Besides.{step_beside}
use Rattle.mesh_post.proofs.Midway.{logged_both}
use Rattle.mesh_post.specs.Lanes.{is_other}
use Rattle.mesh_post.specs.Sent.{InStep}
use Rattle.mesh_post.specs.declared.post.Post.{Post}
use Rattle.mesh_post.specs.declared.row.Put.{Put}
use Rattle.mesh_post.specs.declared.row.Sending.{Sending}
use Rattle.mesh_told.specs.Told.{ToldStands}
use Rattle.mesh_told.specs.declared.told_routes.ToldRoutes.{ToldRoutes}

-- ---- lines behind lines

pub told_twice : (before a b : List RouteLine) → told_with (told_with before a) b ≡ told_with before (a ++ b)
told_twice before a b = sym (append_assoc (reverse b) (reverse a) before) ∙ ap (λ ls. ls ++ before) (sym (reverse-append a b))

pub told_none : (kept : ToldRoutes) (before : List RouteLine) (log : List Event) → ToldStands kept before → HasTold [] before kept log log
told_none kept before log stands = record { stands = stands; logged = sym (append-nil log) }

pub told_both : (a b before : List RouteLine) (mid kept : ToldRoutes) (old amid new : List Event) → HasTold a before mid old amid → HasTold b (told_with before a) kept amid new → HasTold (a ++ b) before kept old new
told_both a b before mid kept old amid new p q = record {
  stands = subst (ToldStands kept) (told_twice before a b) q.stands;
  logged = q.logged ∙ ap (λ es. es ++ map route_event b) p.logged ∙ append_assoc old (map route_event a) (map route_event b) ∙ ap (λ es. old ++ es) (sym (map-append route_event a b));
}

-- ---- the lines of one node

pub told_by_node : {A : Type 0} (queries : Mac → Queries) (stands : A → Mac → RouteLog → Type 0) (seat : Seat A) (row : NodeLog) (nodes : List NodeLog) (place now : ℕ) (rows : List OrigRow) (before : List RouteLine) (kept : ToldRoutes) (old new : List Event)
    → slice_get nodes place ≡ Some row → SeatIs queries stands seat row → rows ≡ (scenario_setup queries).originators row.mac row.log now
    → ToldStands kept (told_with before (lines_due now seat.mac rows before)) → new ≡ old ++ map route_event (lines_due now seat.mac rows before)
    → HasTold (lines_of_node (scenario_setup queries) now before (slice_get nodes place)) before kept old new
told_by_node {A} queries stands seat row nodes place now rows before kept old new found is rows_are stand told =
    let due : lines_due now seat.mac rows before ≡ lines_of_node (scenario_setup queries) now before (slice_get nodes place) =
    ap₂ (λ (me : Mac) (rs : List OrigRow). lines_due now me rs before) is.mac rows_are ∙ sym (ap (lines_of_node (scenario_setup queries) now before) found) in
    subst (λ ls. HasTold ls before kept old new) due (record { stands = stand; logged = told })

-- ---- the lines of several nodes

-- amid the telling at some places: the lines that were told, and the places that follow
pub record AmidTelling (setup : Setup) (now : ℕ) (nodes : List NodeLog) (before : List RouteLine) (kept : ToldRoutes) (old new : List Event) (places rest : List ℕ) : Type 0 where
  pub lines : List RouteLine
  pub splits : lines_at setup now nodes before places ≡ lines ++ lines_at setup now nodes (told_with before lines) rest
  pub told : HasTold lines before kept old new

pub telling_begins : (setup : Setup) (now : ℕ) (nodes : List NodeLog) (before : List RouteLine) (kept : ToldRoutes) (log : List Event) (places : List ℕ) → ToldStands kept before → AmidTelling setup now nodes before kept log log places places
telling_begins setup now nodes before kept log places stands = record { lines = []; splits = refl; told = told_none kept before log stands }

pub telling_goes : (setup : Setup) (now : ℕ) (nodes : List NodeLog) (before : List RouteLine) (mid kept : ToldRoutes) (old amid new : List Event) (places rest later : List ℕ) (place : ℕ) → rest ≡ place ∷ later → (t : AmidTelling setup now nodes before mid old amid places rest)
    → HasTold (lines_of_node setup now (told_with before t.lines) (slice_get nodes place)) (told_with before t.lines) kept amid new → AmidTelling setup now nodes before kept old new places later
telling_goes setup now nodes before mid kept old amid new places rest later place is t h =
    let told = told_with before t.lines in
    let more = lines_of_node setup now told (slice_get nodes place) in
    record {
      lines = t.lines ++ more;
      splits = t.splits ∙ ap (λ ps. t.lines ++ lines_at setup now nodes told ps) is
          ∙ sym (append_assoc t.lines more (lines_at setup now nodes (told_with told more) later))
          ∙ ap (λ ls. (t.lines ++ more) ++ lines_at setup now nodes ls later) (told_twice before t.lines more);
      told = told_both t.lines more before mid kept old amid new t.told h;
    }

pub telling_ends : (setup : Setup) (now : ℕ) (nodes : List NodeLog) (before : List RouteLine) (kept : ToldRoutes) (old new : List Event) (places rest : List ℕ) → rest ≡ [] → AmidTelling setup now nodes before kept old new places rest
    → HasTold (lines_at setup now nodes before places) before kept old new
telling_ends setup now nodes before kept old new places rest none t =
    subst (λ ls. HasTold ls before kept old new) (sym (t.splits ∙ ap (λ ps. t.lines ++ lines_at setup now nodes (told_with before t.lines) ps) none ∙ append-nil t.lines)) t.told

-- ---- who takes a happening

-- the end of the link of a frame, where there is one, as a list
pub one_or_none : (o : Option NetLink) → option_map_or (λ (one : ℕ). one ∷ []) (option_map (λ (link : NetLink). link.to) o) [] ≡ option_map_or (λ (link : NetLink). link.to ∷ []) o []
one_or_none None = refl
one_or_none (Some link) = refl

-- the gateways of the LAN on which a LAN frame was put
pub gateways_take : (post : Post) (older : List Sending) (last : Happening) (ticks : List Happening) (mesh : Mesh) (place : ℕ) (put : Put) (places : List ℕ) → InStep post older last ticks mesh → slice_get post.puts.items place ≡ Some put
    → places ≡ filter (is_other None) (slice_index_or post.lans.items put.lan []) → places ≡ takers_of LanDelivery place mesh
gateways_take post older last ticks mesh place put places step found is =
    let there = put_there (older ++ post.fresh.items) mesh.puts post.puts.items place put step.amid.stands.puts found in
    let lan = there.2.lan in
    all_gateways mesh.lans post.lans.items put.lan places step.amid.stands.lans is ∙ ap (λ l. gateways_at l mesh.lans) lan
    ∙ sym (ap (λ o. option_map_or (λ (x : LanPut). gateways_at x.lan mesh.lans) o []) there.1)

-- none was put at a place
pub none_takes : (post : Post) (older : List Sending) (last : Happening) (ticks : List Happening) (mesh : Mesh) (place : ℕ) (places : List ℕ) → InStep post older last ticks mesh → slice_get post.puts.items place ≡ None → places ≡ [] → places ≡ takers_of LanDelivery place mesh
none_takes post older last ticks mesh place places step found is =
    is ∙ sym (ap (λ o. option_map_or (λ (x : LanPut). gateways_at x.lan mesh.lans) o []) (no_put (older ++ post.fresh.items) mesh.puts post.puts.items place step.amid.stands.puts found))

-- ---- watched or not

-- nothing is told where routes aren't watched
pub unwatched : (setup : Setup) (h : Happening) (mesh : Mesh) (watch : Option (List RouteLine)) (log : List Event) → WatchStands None watch → HasWatched (lines_watched setup h mesh watch) None watch log log
unwatched setup h mesh None log stands = record { stands = tt; logged = sym (append-nil log) }
unwatched setup h mesh (Some told) log stands = absurd stands

-- and else the lines of the nodes that take the happening
pub watched : (setup : Setup) (h : Happening) (mesh : Mesh) (watch : Option (List RouteLine)) (old kept : ToldRoutes) (places : List ℕ) (log new : List Event) → WatchStands (Some old) watch → places ≡ takers h mesh
    → ((before : List RouteLine) → ToldStands old before → HasTold (lines_at setup h.moment mesh.nodes before places) before kept log new) → HasWatched (lines_watched setup h mesh watch) (Some kept) watch log new
watched setup h mesh None old kept places log new stands is told = absurd stands
watched setup h mesh (Some before) old kept places log new stands is told =
    let t = subst (λ ps. HasTold (lines_at setup h.moment mesh.nodes before ps) before kept log new) is (told before stands) in
    record { stands = t.stands; logged = t.logged }

-- ---- the end of a happening

-- each choice shows the events of routes
routes_shown : (choice : FrameChoice) (lines : List RouteLine) → filter (is_shown choice) (map route_event lines) ≡ map route_event lines
routes_shown choice [] = refl
routes_shown choice (line ∷ lines) = ap (λ es. route_event line ∷ es) (routes_shown choice lines)

pub happened : {A : Type 0} (queries : Mac → Queries) (stands : A → Mac → RouteLog → Type 0) (amid done : Net A) (choice : FrameChoice) (last : Happening) (ticks : List Happening) (before : Mesh) (old mid new : List Event) (h : Happening)
    → (g : Gave queries stands amid choice last ticks before old mid (effect (scenario_setup queries) h.class h.place h.moment before)) → KeepsAllBut amid done
    → HasWatched (lines_told (scenario_setup queries) h g.after) done.watch g.after.watch mid new → HasHappened queries stands done choice last ticks before old new h
happened {A} queries stands amid done choice last ticks before old mid new h g kept w =
    let setup : Setup = scenario_setup queries in
    let lines = lines_told setup h g.after in
    let after : Mesh = ended_with lines h g.after in
    subst (λ (n : Net A). HasHappened queries stands n choice last ticks before old new h) (sym kept) (record {
      gave = record {
        after = after;
        is = ap (on_ok (with_last setup h)) g.is;
        choice_is = g.choice_is;
        seats_stand = g.seats_stand;
        step = step_beside g.step;
        logged = logged_both choice before g.after after old mid new g.logged (record {
          more = map route_event lines;
          came = refl;
          told = w.logged ∙ ap (λ es. mid ++ es) (sym (routes_shown choice lines));
        });
      };
      watched = w.stands;
    })
