-- What an act leads to, in what is kept and in the mesh.
use Rattle.std.proofs.Common.{◌≡◌, ℕ, zero, suc, ◌+◌, ◌*◌, ◌^◌, ◌<◌, ◌≤◌, nat_eq, nat_lt, Bool, true, false, drop, if◌then◌else◌, List, [], ◌∷◌, ◌++◌, length, slice_get, Option, Some, None, Ok, Err, refl, sym, ap, ◌∙◌, subst, arith, append_assoc, length-append}
use Rattle.std.proofs.lemmas.Bool.{ltb-false}
use Rattle.mesh_base.specs.declared.address.Mac.{Mac}
use Rattle.mesh_base.specs.declared.event.Event.{Event}
use Rattle.mesh_base.specs.declared.event.Event.TheVariants.{LanSent}
use Rattle.mesh_base.specs.declared.event.Reason.{Reason}
use Rattle.mesh_model.specs.declared.act.Act.{Act}
use Rattle.mesh_model.specs.declared.act.Act.TheVariants.{Link, Lan, Print}
use Rattle.mesh_model.specs.declared.ending.LimitName.{LimitName}
use Rattle.mesh_model.specs.declared.ending.LimitName.TheVariants.{Frames, FrameBytes}
use Rattle.mesh_model.specs.declared.happening.Happening.{Happening}
use Rattle.mesh_model.specs.Net.Due.{lan_delivery_at}
use Rattle.mesh_model.specs.Net.Limits.{scenario_setup, clock_limit, frames_limit, frame_bytes_limit}
use Rattle.mesh_model.specs.Net.Mesh.{SentFrame, LanPut, NetLan, Mesh}
use Rattle.mesh_model.specs.Net.Next.{Has}
use Rattle.mesh_model.specs.Net.Sending.{Actor, ways, after_act, lan_from, lan_of, put_event, put_on}
use Rattle.mesh_model.specs.Routes.Queries.{Queries}
use Rattle.std.specs.List.{filter, list_any}
use Rattle.mesh_model.specs.Text.Events.{is_shown}
use Rattle.mesh_post.specs.declared.post.Post.{Post}
use Rattle.mesh_post.specs.declared.posted.Posted.{Posted}
use Rattle.mesh_post.specs.declared.row.Put.{Put}
use Rattle.mesh_post.specs.declared.row.Sender.{Sender}
use Rattle.mesh_post.specs.declared.row.Sending.{Sending}
use Rattle.mesh_post.specs.Kept.{FramesAre, PutsAre, RowsAre, TurnsAre, WaysAre, bytes_in, frames_in, gateways_of}
use Rattle.mesh_post.specs.Sent.{sent_on, sent_on_all, put_in, actor_of, IsSending, Gained, Amid, SentAll, InStep, MaySend, HasActed, HasCome, HasRoomFor, CarriesPut, AreLow, chosen_ways, lan_among, passed_room, passed_more, passed_on, passed_by}
use Rattle.mesh_post.proofs.Besides.{step_beside}
use Rattle.mesh_post.proofs.Midway.{logged_none}
use Rattle.mesh_post.proofs.Chosen.{drop_there}
use Rattle.mesh_post.proofs.PostLemmas.{awaits_put, frames_length, length_more, put_bytes_more, puts_length, puts_more}
use Rattle.mesh_post.proofs.Ways.{chosen_are_ways, rising_ways, low_ways, frames_attempt, put_attempt, attempt_by}
use Rattle.mesh_laws.proofs.Schedule.Steps.{get_front}

-- ---- one sending more
pub got_last : {X : Type 0} (xs : List X) (x : X) → slice_get (xs ++ x ∷ []) (length xs) ≡ Some x
got_last [] x = refl
got_last (y ∷ ys) x = got_last ys x

frames_keep : (sendings : List Sending) (s : Sending) (frames : List SentFrame) (kept : List Posted) → FramesAre sendings frames kept → FramesAre (sendings ++ s ∷ []) frames kept
frames_keep sendings s [] [] all = tt
frames_keep sendings s [] (q ∷ kept) all = absurd all
frames_keep sendings s (x ∷ frames) [] all = absurd all
frames_keep sendings s (x ∷ frames) (q ∷ kept) all =
    (record { link = all.0.link; sending = all.0.sending; found = get_front sendings (s ∷ []) q.sending all.0.sending all.0.found; bytes = all.0.bytes; root = all.0.root }, frames_keep sendings s frames kept all.1)

puts_keep : (sendings : List Sending) (s : Sending) (puts : List LanPut) (kept : List Put) → PutsAre sendings puts kept → PutsAre (sendings ++ s ∷ []) puts kept
puts_keep sendings s [] [] all = tt
puts_keep sendings s [] (q ∷ kept) all = absurd all
puts_keep sendings s (x ∷ puts) [] all = absurd all
puts_keep sendings s (x ∷ puts) (q ∷ kept) all =
    (record { lan = all.0.lan; by = all.0.by; sending = all.0.sending; found = get_front sendings (s ∷ []) q.sending all.0.sending all.0.found; bytes = all.0.bytes }, puts_keep sendings s puts kept all.1)

pub amid_more : (post : Post) (sendings : List Sending) (s : Sending) (last : Happening) (ticks : List Happening) (mesh : Mesh) → Amid post sendings last ticks mesh → Amid post (sendings ++ s ∷ []) last ticks mesh
amid_more post sendings s last ticks mesh amid = record {
  stands = record {
    rows = amid.stands.rows;
    turns = amid.stands.turns;
    ways = amid.stands.ways;
    lans = amid.stands.lans;
    frames = frames_keep sendings s mesh.frames post.frames amid.stands.frames;
    puts = puts_keep sendings s mesh.puts post.puts.items amid.stands.puts;
    bytes = amid.stands.bytes;
    few = amid.stands.few;
    small = amid.stands.small;
  };
  waits = amid.waits;
}

-- the place of a sending that comes next
pub next_sending : (older fresh : List Sending) (s : Sending) (place : ℕ) → place ≡ length older + length fresh → IsSending ((older ++ fresh) ++ s ∷ []) place s.bytes s.root
next_sending older fresh s place is = record {
  sending = s;
  found = ap (slice_get ((older ++ fresh) ++ s ∷ [])) (is ∙ sym (length-append older fresh)) ∙ got_last (older ++ fresh) s;
  bytes_are = refl;
  root_is = refl;
}

-- ---- an act
-- the frame that a gateway puts on the LAN at a place
abbrev pub put_by : Sender → List ℕ → ℕ → LanPut
put_by sender bytes lan = record { lan = lan; moment = sender.now; bytes = bytes; by = Some sender.place }

-- the mesh with such a frame, where there is a LAN
abbrev pub put_where : Sender → List ℕ → Option ℕ → Mesh → Mesh
put_where sender bytes None mesh = mesh
put_where sender bytes (Some lan) mesh = put_in (put_by sender bytes lan) mesh

-- the mesh after an act that passes no limit
abbrev pub acted : Post → Sender → Act → Mesh → Mesh
acted post sender (Link to reason bytes) mesh = sent_on_all (actor_of sender) reason bytes (chosen_ways post sender.place to) mesh
acted post sender (Lan bytes) mesh = put_where sender bytes (lan_among sender.place 0 post.lans.items) mesh
acted post sender (Print event) mesh = record mesh { events = mesh.events ++ event ∷ [] }

ways_are : (post : Post) (older : List Sending) (last : Happening) (ticks : List Happening) (sender : Sender) (to : Option Mac) (mesh : Mesh) → InStep post older last ticks mesh → sender.place < length mesh.nodes → chosen_ways post sender.place to ≡ ways mesh.nodes sender.place to 0 mesh.links
ways_are post older last ticks sender to mesh step low = chosen_are_ways post mesh.nodes mesh.links sender.place to step.amid.stands.rows (λ leaving found. step.amid.stands.ways.each sender.place leaving found) (subst (λ n. sender.place < n) (sym step.amid.stands.ways.count) low)

-- the limit that more frames would pass is told by what is kept
pub room_is : (post : Post) (older : List Sending) (last : Happening) (ticks : List Happening) (mesh : Mesh) (count size : ℕ) → InStep post older last ticks mesh → passed_room (frames_in mesh) (bytes_in mesh) count size ≡ passed_more post count size
room_is post older last ticks mesh count size step =
    let sendings = older ++ post.fresh.items in
    ap (λ n. passed_room n (bytes_in mesh) count size) (
    let f = frames_length sendings mesh.frames post.frames step.amid.stands.frames in
    let p = puts_length sendings mesh.puts post.puts.items step.amid.stands.puts in
    omega (arith, f, p)
    )
    ∙ ap (λ n. passed_room (length post.frames + length post.puts.items) n count size) (sym step.amid.stands.bytes)

-- the LAN of a node is told by its gateways
pub lan_by_gateways : (node place : ℕ) (lans : List NetLan) → lan_among node place (gateways_of lans) ≡ lan_from node place lans
lan_by_gateways node place [] = refl
lan_by_gateways node place (lan ∷ rest) = ap (λ o. if list_any (nat_eq node) lan.gateways then Some place else o) (lan_by_gateways node (suc place) rest)

pub lan_is : (post : Post) (older : List Sending) (last : Happening) (ticks : List Happening) (node : ℕ) (mesh : Mesh) → InStep post older last ticks mesh → lan_among node 0 post.lans.items ≡ lan_of node mesh.lans
lan_is post older last ticks node mesh step = ap (lan_among node 0) step.amid.stands.lans ∙ lan_by_gateways node 0 mesh.lans

-- what an act leads to is told by what is kept
pub act_attempt : (queries : Mac → Queries) (post : Post) (older : List Sending) (last : Happening) (ticks : List Happening) (sender : Sender) (act : Act) (mesh : Mesh) → InStep post older last ticks mesh → sender.place < length mesh.nodes
    → after_act (scenario_setup queries) (actor_of sender) act mesh ≡ attempt_by (passed_by post sender.place act) (acted post sender act mesh)
act_attempt queries post older last ticks sender (Link to reason bytes) mesh step low =
    frames_attempt queries (actor_of sender) reason bytes ws mesh (rising_ways mesh.nodes sender.place to 0 mesh.links)
    ∙ ap (λ vs. attempt_by (passed_room (frames_in mesh) (bytes_in mesh) (length vs) (length bytes)) (sent_on_all (actor_of sender) reason bytes vs mesh)) (sym (ways_are post older last ticks sender to mesh step low))
    ∙ ap (λ o. attempt_by o after) (room_is post older last ticks mesh (length (chosen_ways post sender.place to)) (length bytes) step)
  where
    ws : List ℕ
    ws = ways mesh.nodes sender.place to 0 mesh.links

    after : Mesh
    after = sent_on_all (actor_of sender) reason bytes (chosen_ways post sender.place to) mesh
act_attempt queries post older last ticks sender (Lan bytes) mesh step low =
    ap (λ o. put_on (scenario_setup queries) (actor_of sender) bytes o mesh) (sym (lan_is post older last ticks sender.place mesh step))
    ∙ by_lan (lan_among sender.place 0 post.lans.items)
  where
    by_lan : (o : Option ℕ) → put_on (scenario_setup queries) (actor_of sender) bytes o mesh ≡ attempt_by (passed_on post o (length bytes)) (put_where sender bytes o mesh)
    by_lan None = refl
    by_lan (Some lan) = put_attempt queries (put_by sender bytes lan) mesh ∙ ap (λ o. attempt_by o (put_in (put_by sender bytes lan) mesh)) (room_is post older last ticks mesh 1 (length bytes) step)
act_attempt queries post older last ticks sender (Print event) mesh step low = refl

pub within_act : (queries : Mac → Queries) (post : Post) (older : List Sending) (last : Happening) (ticks : List Happening) (sender : Sender) (act : Act) (mesh : Mesh) → InStep post older last ticks mesh → sender.place < length mesh.nodes → passed_by post sender.place act ≡ None
    → after_act (scenario_setup queries) (actor_of sender) act mesh ≡ Ok (acted post sender act mesh)
within_act queries post older last ticks sender act mesh step low none = act_attempt queries post older last ticks sender act mesh step low ∙ ap (λ o. attempt_by o (acted post sender act mesh)) none

pub over_act : (queries : Mac → Queries) (post : Post) (older : List Sending) (last : Happening) (ticks : List Happening) (sender : Sender) (act : Act) (mesh : Mesh) (limit : LimitName) → InStep post older last ticks mesh → sender.place < length mesh.nodes → passed_by post sender.place act ≡ Some limit
    → after_act (scenario_setup queries) (actor_of sender) act mesh ≡ Err limit
over_act queries post older last ticks sender act mesh limit step low some = act_attempt queries post older last ticks sender act mesh step low ∙ ap (λ o. attempt_by o (acted post sender act mesh)) some

-- ---- room
both_false : (a b : Bool) → (if a then Some Frames else if b then Some FrameBytes else None) ≡ None → (a ≡ false) × (b ≡ false)
both_false true b e = cc
both_false false true e = cc
both_false false false e = (refl, refl)

-- so there is room for so many more frames
pub room_more : (post : Post) (older : List Sending) (last : Happening) (ticks : List Happening) (mesh : Mesh) (now count size : ℕ) → InStep post older last ticks mesh → now ≤ clock_limit → passed_more post count size ≡ None → HasRoomFor mesh now count size
room_more post older last ticks mesh now count size step soon none =
    let tests = both_false (nat_lt frames_limit (frames_in mesh + count)) (nat_lt frame_bytes_limit (bytes_in mesh + count * size)) (room_is post older last ticks mesh count size step ∙ none) in
    record { few = ltb-false frames_limit (frames_in mesh + count) tests.0; small = ltb-false frame_bytes_limit (bytes_in mesh + count * size) tests.1; soon = soon }

pub room_for : (post : Post) (older : List Sending) (last : Happening) (ticks : List Happening) (sender : Sender) (mesh : Mesh) (to : Option Mac) (reason : Option Reason) (bytes : List ℕ) → InStep post older last ticks mesh → MaySend sender last mesh → passed_by post sender.place (Link to reason bytes) ≡ None → HasRoomFor mesh sender.now (length (chosen_ways post sender.place to)) (length bytes)
room_for post older last ticks sender mesh to reason bytes step may none = room_more post older last ticks mesh sender.now (length (chosen_ways post sender.place to)) (length bytes) step may.soon none

pub are_low : (post : Post) (older : List Sending) (last : Happening) (ticks : List Happening) (sender : Sender) (to : Option Mac) (mesh : Mesh) → InStep post older last ticks mesh → sender.place < length mesh.nodes → AreLow (chosen_ways post sender.place to) mesh
are_low post older last ticks sender to mesh step low way h =
    let l = low_ways mesh.nodes sender.place to 0 mesh.links way (subst (λ ws. Has ws way) (ways_are post older last ticks sender to mesh step low) h) in
    omega (arith, l)

-- ---- what an act leaves
sent_nodes : (actor : Actor) (reason : Option Reason) (bytes ws : List ℕ) (mesh : Mesh) → (sent_on_all actor reason bytes ws mesh).nodes ≡ mesh.nodes
sent_nodes actor reason bytes [] mesh = refl
sent_nodes actor reason bytes (w ∷ ws) mesh = sent_nodes actor reason bytes ws (sent_on actor reason bytes w mesh)

pub has_sent : (queries : Mac → Queries) (old new : Post) (older : List Sending) (last : Happening) (ticks : List Happening) (sender : Sender) (mesh : Mesh) (to : Option Mac) (reason : Option Reason) (bytes : List ℕ) (log log' : List Event)
    → InStep old older last ticks mesh → MaySend sender last mesh → passed_by old sender.place (Link to reason bytes) ≡ None
    → SentAll old.choice new older last ticks mesh (sent_on_all (actor_of sender) reason bytes (chosen_ways old sender.place to) mesh) log log'
    → HasActed queries old.choice sender (Link to reason bytes) new older last ticks mesh log log'
has_sent queries old new older last ticks sender mesh to reason bytes log log' step may none s = record {
  after = sent_on_all (actor_of sender) reason bytes (chosen_ways old sender.place to) mesh;
  is = within_act queries old older last ticks sender (Link to reason bytes) mesh step may.place none;
  step = s.step;
  logged = s.logged;
  nodes = sent_nodes (actor_of sender) reason bytes (chosen_ways old sender.place to) mesh;
}

no_items : {X : Type 0} (xs : List X) → length xs ≡ 0 → xs ≡ []
no_items [] e = refl
no_items (x ∷ xs) e = absurd (omega (arith, e))

-- nothing goes where no link leads
pub has_sent_none : (queries : Mac → Queries) (post : Post) (older : List Sending) (last : Happening) (ticks : List Happening) (sender : Sender) (mesh : Mesh) (to : Option Mac) (reason : Option Reason) (bytes : List ℕ) (log : List Event)
    → InStep post older last ticks mesh → MaySend sender last mesh → passed_by post sender.place (Link to reason bytes) ≡ None → length (chosen_ways post sender.place to) ≡ 0
    → HasActed queries post.choice sender (Link to reason bytes) post older last ticks mesh log log
has_sent_none queries post older last ticks sender mesh to reason bytes log step may none zero_ways = record {
  after = mesh;
  is = within_act queries post older last ticks sender (Link to reason bytes) mesh step may.place none ∙ ap (λ ws. Ok (sent_on_all (actor_of sender) reason bytes ws mesh)) (no_items (chosen_ways post sender.place to) zero_ways);
  step = step;
  logged = logged_none post.choice mesh log;
  nodes = refl;
}

pub grown : (older fresh kept all : List Sending) (s : Sending) → kept ≡ fresh → all ≡ kept ++ s ∷ [] → older ++ all ≡ (older ++ fresh) ++ s ∷ []
grown older fresh kept all s same more = ap (λ ss. older ++ ss) (more ∙ ap (λ ss. ss ++ s ∷ []) same) ∙ sym (append_assoc older fresh (s ∷ []))

-- an event of a node's own
pub has_printed : (queries : Mac → Queries) (post : Post) (older : List Sending) (last : Happening) (ticks : List Happening) (sender : Sender) (mesh : Mesh) (event : Event) (log log' : List Event)
    → InStep post older last ticks mesh → log' ≡ log ++ filter (is_shown post.choice) (event ∷ [])
    → HasActed queries post.choice sender (Print event) post older last ticks mesh log log'
has_printed queries post older last ticks sender mesh event log log' step told = record {
  after = record mesh { events = mesh.events ++ event ∷ [] };
  is = refl;
  step = step_beside step;
  logged = record { more = event ∷ []; came = refl; told = told };
  nodes = refl;
}

-- ---- a LAN frame
-- what is kept has one more
pub came : (queries : Mac → Queries) (old new : Post) (put : LanPut) (older : List Sending) (last : Happening) (ticks : List Happening) (mesh : Mesh) (log log' : List Event) → InStep old older last ticks mesh → last.moment ≤ put.moment → put.moment ≤ clock_limit
    → passed_more old 1 (length put.bytes) ≡ None → CarriesPut old new put → log' ≡ log ++ filter (is_shown old.choice) (put_event mesh put ∷ []) → HasCome queries old.choice put new older last ticks mesh log log'
unfolding next_sending
came queries old new put older last ticks mesh log log' step late soon none c told = record {
  is = put_attempt queries put mesh ∙ ap (λ o. attempt_by o (put_in put mesh)) (room_is old older last ticks mesh 1 (length put.bytes) step ∙ none);
  step = record {
    amid = record {
      stands = record {
        rows = subst (RowsAre mesh.nodes mesh.links) (sym c.rows) more.stands.rows;
        turns = subst (TurnsAre mesh.links mesh.frames) (sym c.turns) more.stands.turns;
        ways = subst (WaysAre mesh.nodes mesh.links) (sym c.ways) more.stands.ways;
        lans = c.lans ∙ more.stands.lans;
        frames = subst (λ ss. FramesAre ss mesh.frames new.frames) sendings_are (subst (FramesAre sendings mesh.frames) (sym c.frames) more.stands.frames);
        puts = subst (λ ss. PutsAre ss (mesh.puts ++ put ∷ []) new.puts.items) sendings_are (subst (PutsAre sendings (mesh.puts ++ put ∷ [])) (sym c.puts) (puts_more sendings mesh.puts old.puts.items put kept more.stands.puts (record {
          lan = refl;
          by = refl;
          sending = s;
          found = sending.found;
          bytes = refl;
        })));
        bytes = let b = c.bytes in let k = step.amid.stands.bytes in let m = put_bytes_more mesh.puts put in omega (arith, b, k, m);
        few = let few = room.few in let m = length_more mesh.puts put in omega (arith, few, m);
        small = let small = room.small in let m = put_bytes_more mesh.puts put in omega (arith, small, m);
      };
      waits = awaits_put old.queue new.queue last ticks mesh.links mesh.frames mesh.puts put late step.amid.waits gained;
    };
    older_is = c.older ∙ step.older_is;
  };
  logged = record { more = put_event mesh put ∷ []; came = refl; told = told };
}
  where
    s : Sending
    s = record { root = 0; bytes = put.bytes }

    kept : Put
    kept = record { lan = put.lan; sending = old.older + length old.fresh.items; by = put.by }

    sendings : List Sending
    sendings = (older ++ old.fresh.items) ++ s ∷ []

    sendings_are : sendings ≡ older ++ new.fresh.items
    sendings_are = sym (grown older old.fresh.items old.fresh.items new.fresh.items s refl c.fresh)

    more : Amid old sendings last ticks mesh
    more = amid_more old (older ++ old.fresh.items) s last ticks mesh step.amid

    sending : IsSending sendings (old.older + length old.fresh.items) put.bytes 0
    sending = next_sending older old.fresh.items s (old.older + length old.fresh.items) (ap (λ n. n + length old.fresh.items) step.older_is)

    room : HasRoomFor mesh put.moment 1 (length put.bytes)
    room = room_more old older last ticks mesh put.moment 1 (length put.bytes) step soon none

    gained : Gained old.queue new.queue (lan_delivery_at (length mesh.puts) put ∷ [])
    gained = subst (λ n. Gained old.queue new.queue (lan_delivery_at n put ∷ [])) (puts_length (older ++ old.fresh.items) mesh.puts old.puts.items step.amid.stands.puts) c.queue

-- an act on the LAN of a gateway
pub has_put : (queries : Mac → Queries) (old new : Post) (older : List Sending) (last : Happening) (ticks : List Happening) (sender : Sender) (mesh : Mesh) (bytes : List ℕ) (lan : ℕ) (log log' : List Event)
    → InStep old older last ticks mesh → lan_among sender.place 0 old.lans.items ≡ Some lan → HasCome queries old.choice (put_by sender bytes lan) new older last ticks mesh log log'
    → HasActed queries old.choice sender (Lan bytes) new older last ticks mesh log log'
has_put queries old new older last ticks sender mesh bytes lan log log' step at h = record {
  after = put_in (put_by sender bytes lan) mesh;
  is = ap (λ o. put_on (scenario_setup queries) (actor_of sender) bytes o mesh) (sym (lan_is old older last ticks sender.place mesh step) ∙ at) ∙ h.is;
  step = h.step;
  logged = h.logged;
  nodes = refl;
}

-- where there is none, nothing is put
pub has_put_none : (queries : Mac → Queries) (post : Post) (older : List Sending) (last : Happening) (ticks : List Happening) (sender : Sender) (mesh : Mesh) (bytes : List ℕ) (log : List Event)
    → InStep post older last ticks mesh → lan_among sender.place 0 post.lans.items ≡ None → HasActed queries post.choice sender (Lan bytes) post older last ticks mesh log log
has_put_none queries post older last ticks sender mesh bytes log step none = record {
  after = mesh;
  is = ap (λ o. put_on (scenario_setup queries) (actor_of sender) bytes o mesh) (sym (lan_is post older last ticks sender.place mesh step) ∙ none);
  step = step;
  logged = logged_none post.choice mesh log;
  nodes = refl;
}

-- ---- the LAN of a node
-- the rest of some LANs begins with the one at a place
pub lan_here : (node : ℕ) (lans : List (List ℕ)) (i : ℕ) (gateways : List ℕ) (b : Bool) → slice_get lans i ≡ Some gateways → list_any (nat_eq node) gateways ≡ b → lan_among node i (drop i lans) ≡ (if b then Some i else lan_among node (i + 1) (drop (i + 1) lans))
lan_here node lans i gateways b found is =
    ap (lan_among node i) (drop_there lans i gateways found)
    ∙ ap (λ c. if c then Some i else lan_among node (suc i) (drop (suc i) lans)) is
    ∙ ap (λ n. if b then Some i else lan_among node n (drop n lans)) (next i)
  where
    next : (n : ℕ) → suc n ≡ n + 1
    next n = omega arith

pub no_more_lans : (node : ℕ) (lans : List (List ℕ)) (i : ℕ) → length lans ≤ i → lan_among node i (drop i lans) ≡ None
no_more_lans node lans i past = ap (lan_among node i) (all_dropped lans i past)
  where
    all_dropped : {X : Type 0} (xs : List X) (n : ℕ) → length xs ≤ n → drop n xs ≡ []
    all_dropped [] zero l = refl
    all_dropped [] (suc n) l = refl
    all_dropped (x ∷ xs) zero l = absurd (omega (arith, l))
    all_dropped (x ∷ xs) (suc n) l = all_dropped xs n (omega (arith, l))

-- what a call carries, where there is room, and tells
pub came_told : (queries : Mac → Queries) (old new : Post) (put : LanPut) (older : List Sending) (last : Happening) (ticks : List Happening) (mesh : Mesh) (log log' : List Event) → InStep old older last ticks mesh → last.moment ≤ put.moment → put.moment ≤ clock_limit
    → passed_more old 1 (length put.bytes) ≡ None → (old.bytes + length put.bytes < 2 ^ 64 → put.moment < 2 ^ 63 → CarriesPut old new put)
    → log' ≡ log ++ filter (is_shown old.choice) (LanSent (length new.puts.items) put.moment (put.lan + 1) put.bytes ∷ []) → HasCome queries old.choice put new older last ticks mesh log log'
came_told queries old new put older last ticks mesh log log' step late soon none carried told =
    came queries old new put older last ticks mesh log log' step late soon none c
    (told ∙ ap (λ n. log ++ filter (is_shown old.choice) (LanSent n put.moment (put.lan + 1) put.bytes ∷ [])) number_is
    ∙ ap (λ n. log ++ filter (is_shown old.choice) (LanSent (suc (length mesh.puts)) put.moment n put.bytes ∷ [])) (omega arith))
  where
    room : HasRoomFor mesh put.moment 1 (length put.bytes)
    room = room_more old older last ticks mesh put.moment 1 (length put.bytes) step soon none

    c : CarriesPut old new put
    c = let small = room.small in let b = step.amid.stands.bytes in carried (omega (arith, small, b)) (omega (arith, soon))

    number_is : length new.puts.items ≡ suc (length mesh.puts)
    number_is = ap length c.puts ∙ length_more old.puts.items (record { lan = put.lan; sending = old.older + length old.fresh.items; by = put.by }) ∙ ap suc (puts_length (older ++ old.fresh.items) mesh.puts old.puts.items step.amid.stands.puts)
