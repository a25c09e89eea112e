-- The links on which a frame goes: they are chosen among those that leave its node, and they rise.
use Rattle.std.proofs.Common.{◌≡◌, ℕ, suc, ◌+◌, ◌*◌, ◌<◌, ◌≤◌, ◌⊎◌, inl, inr, nat_eq, nat_lt, bytes_eq, ◌&&◌, Bool, true, false, cond, if◌then◌else◌, List, [], ◌∷◌, ◌++◌, length, slice_get, slice_index_or, Option, Some, None, Ok, Err, refl, sym, ap, ◌∙◌, arith, append_assoc, append-nil, length-append}
use Rattle.std.specs.Bool.{⊤}
use Rattle.std.proofs.Math.Nat.{suc-mul}
use Rattle.std.proofs.lemmas.Bool.{ne_eqb}
use Rattle.std.proofs.lemmas.Option.{get_or_from_slice_get}
use Rattle.std.specs.List.{filter}
use Rattle.std.specs.Option.{option_map_or}
use Rattle.mesh_base.specs.declared.address.Mac.{Mac}
use Rattle.mesh_base.specs.declared.event.Event.{Event}
use Rattle.mesh_base.specs.declared.event.Event.TheVariants.{FrameSent}
use Rattle.mesh_base.specs.declared.event.Reason.{Reason}
use Rattle.mesh_model.specs.declared.ending.LimitName.{LimitName}
use Rattle.mesh_model.specs.declared.ending.LimitName.TheVariants.{Frames, FrameBytes}
use Rattle.mesh_model.specs.Net.Limits.{scenario_setup, frames_limit, frame_bytes_limit}
use Rattle.mesh_model.specs.Net.Mesh.{NodeLog, NetLink, SentFrame, LanPut, Mesh, address_at}
use Rattle.mesh_model.specs.Net.Next.{Has}
use Rattle.mesh_model.specs.Net.Sending.{Attempt, Actor, frames_on, frames_over, put_bytes, total_bytes, goes_to, ways, end_of, sent_events, with_frames, with_put}
use Rattle.mesh_model.specs.Routes.Queries.{Queries}
use Rattle.mesh_post.specs.declared.post.Post.{Post}
use Rattle.mesh_post.specs.declared.row.Row.{Row}
use Rattle.mesh_post.specs.Kept.{RowsAre, RowIs, bytes_in, frames_in}
use Rattle.mesh_post.specs.Sent.{goes_mac, row_goes, chosen_ways, next_frame, next_event, sent_on, sent_on_all, put_in, passed_room}
use Rattle.mesh_laws.proofs.Schedule.Members.{has_either}
use Rattle.mesh_post.proofs.LookUps.{got_there}
use Rattle.mesh_post.proofs.PostLemmas.{length_more, on_more, put_bytes_more}

-- ---- they rise
abbrev pub Rising : ℕ → List ℕ → Type 0
Rising low [] = ⊤
Rising low (way ∷ rest) = (low ≤ way) × Rising (suc way) rest

rising_from : (low high : ℕ) (ws : List ℕ) → low ≤ high → Rising high ws → Rising low ws
rising_from low high [] l r = tt
rising_from low high (w ∷ ws) l r = let m = r.0 in (omega (arith, l, m), r.1)

pub rising_ways : (nodes : List NodeLog) (sender : ℕ) (to : Option Mac) (place : ℕ) (links : List NetLink) → Rising place (ways nodes sender to place links)
rising_ways nodes sender to place [] = tt
rising_ways nodes sender to place (link ∷ rest) =
    elim (nat_eq link.from sender && goes_to to nodes link.to) as (λ b. Rising place ((if b then place ∷ [] else []) ++ ways nodes sender to (suc place) rest)) [
      | true ↦ (omega arith, rising_ways nodes sender to (suc place) rest)
      | false ↦ rising_from place (suc place) (ways nodes sender to (suc place) rest) (omega arith) (rising_ways nodes sender to (suc place) rest)
    ]

above : (low : ℕ) (ws : List ℕ) (v : ℕ) → Rising low ws → Has ws v → low ≤ v
above low (w ∷ ws) v r (inl e) = let m = r.0 in omega (arith, m, e)
above low (w ∷ ws) v r (inr h) = let m = r.0 in let n = above (suc w) ws v r.1 h in omega (arith, m, n)
above low [] v r h = absurd h

one_low : (place way most : ℕ) (test : Bool) → place < most → Has (if test then place ∷ [] else []) way → way < most
one_low place way most true l (inl e) = omega (arith, l, e)
one_low place way most true l (inr h) = absurd h
one_low place way most false l h = absurd h

pub low_ways : (nodes : List NodeLog) (sender : ℕ) (to : Option Mac) (place : ℕ) (links : List NetLink) (way : ℕ) → Has (ways nodes sender to place links) way → way < place + length links
low_ways nodes sender to place [] way h = absurd h
low_ways nodes sender to place (link ∷ rest) way h =
    either (has_either (if nat_eq link.from sender && goes_to to nodes link.to then place ∷ [] else []) (ways nodes sender to (suc place) rest) way h) (low_ways nodes sender to (suc place) rest way)
  where
    either : Has (if nat_eq link.from sender && goes_to to nodes link.to then place ∷ [] else []) way ⊎ Has (ways nodes sender to (suc place) rest) way
        → (Has (ways nodes sender to (suc place) rest) way → way < suc place + length rest) → way < place + suc (length rest)
    either (inl q) more = one_low place way (place + suc (length rest)) (nat_eq link.from sender && goes_to to nodes link.to) (omega arith) q
    either (inr q) more = let l = more q in omega (arith, l)

-- ---- they are chosen among those that leave the node
abbrev goes_on : List NodeLog → Option Mac → List NetLink → ℕ → Bool
goes_on nodes to all way = goes_to to nodes (end_of way all)

head_chosen : (test : ℕ → Bool) (place : ℕ) (leaves goes : Bool) (ws vs : List ℕ) → test place ≡ goes → ws ≡ filter test vs → (if leaves && goes then place ∷ [] else []) ++ ws ≡ filter test ((if leaves && true then place ∷ [] else []) ++ vs)
head_chosen test place false goes ws vs t e = e
head_chosen test place true true ws vs t e = ap (λ xs. place ∷ xs) e ∙ sym (ap (λ b. cond b (place ∷ filter test vs) (filter test vs)) t)
head_chosen test place true false ws vs t e = e ∙ sym (ap (λ b. cond b (place ∷ filter test vs) (filter test vs)) t)

chosen_from : (nodes : List NodeLog) (sender : ℕ) (to : Option Mac) (place : ℕ) (links all : List NetLink) → ((i : ℕ) → slice_get links i ≡ slice_get all (place + i)) → ways nodes sender to place links ≡ filter (goes_on nodes to all) (ways [] sender None place links)
chosen_from nodes sender to place [] all same = refl
chosen_from nodes sender to place (link ∷ rest) all same =
    head_chosen (goes_on nodes to all) place (nat_eq link.from sender) (goes_to to nodes link.to) (ways nodes sender to (suc place) rest) (ways [] sender None (suc place) rest)
    (ap (λ o. goes_to to nodes (option_map_or (λ (x : NetLink). x.to) o 0)) (ap (slice_get all) (omega arith) ∙ sym (same 0)))
    (chosen_from nodes sender to (suc place) rest all (λ i. same (suc i) ∙ ap (slice_get all) (omega arith)))

-- the tests agree where a link is
goes_same : (nodes : List NodeLog) (to : Option Mac) (link : NetLink) (row : Row) → RowIs nodes link row → goes_mac to row.end ≡ goes_to to nodes link.to
goes_same nodes None link row is = refl
goes_same nodes (Some mac) link row is = ap (λ (m : Mac). bytes_eq m.0 mac.0) is.end

row_goes_on : (nodes : List NodeLog) (to : Option Mac) (links : List NetLink) (rows : List Row) (way : ℕ) → RowsAre nodes links rows → way < length links → row_goes rows to way ≡ goes_on nodes to links way
row_goes_on nodes to links rows way are low =
    let there = got_there links way low in
    let has = are.each way there.0 there.1 in
    ap (λ o. option_map_or (λ (row : Row). goes_mac to row.end) o false) has.found
    ∙ goes_same nodes to there.0 has.row has.is
    ∙ ap (λ o. goes_to to nodes (option_map_or (λ (x : NetLink). x.to) o 0)) (sym there.1)

filter_same : (a b : ℕ → Bool) (ws : List ℕ) → ((w : ℕ) → Has ws w → a w ≡ b w) → filter a ws ≡ filter b ws
filter_same a b [] same = refl
filter_same a b (w ∷ ws) same =
    ap (λ c. cond c (w ∷ filter a ws) (filter a ws)) (same w (inl refl))
    ∙ ap (λ xs. cond (b w) (w ∷ xs) xs) (filter_same a b ws (λ v h. same v (inr h)))

pub chosen_are_ways : (post : Post) (nodes : List NodeLog) (links : List NetLink) (place : ℕ) (to : Option Mac) → RowsAre nodes links post.rows → ((leaving : List ℕ) → slice_get post.ways.items place ≡ Some leaving → leaving ≡ ways [] place None 0 links) → place < length post.ways.items → chosen_ways post place to ≡ ways nodes place to 0 links
chosen_are_ways post nodes links place to rows leaving low =
    let there = got_there post.ways.items place low in
    let is = leaving there.0 there.1 in
    let read : slice_index_or post.ways.items place [] ≡ ways [] place None 0 links = get_or_from_slice_get post.ways.items place there.0 [] there.1 ∙ is in
    ap (filter (row_goes post.rows to)) read
    ∙ filter_same (row_goes post.rows to) (goes_on nodes to links) (ways [] place None 0 links) (λ w h. row_goes_on nodes to links post.rows w rows (let l = low_ways [] place None 0 links w h in omega (arith, l)))
    ∙ sym (chosen_from nodes place to 0 links links (λ i. ap (slice_get links) (omega arith)))

-- ---- one frame after another is what an act sends
other_on : (way v : ℕ) (frames : List SentFrame) (f : SentFrame) → f.link ≡ way → way < v → frames_on v (frames ++ f ∷ []) ≡ frames_on v frames
other_on way v frames f is l = on_more v frames f ∙ ap (λ b. frames_on v frames + cond b 1 0) (ne_eqb f.link v (λ e. omega (arith, l, is, e))) ∙ omega arith

abbrev over_all : Actor → List ℕ → List ℕ → List SentFrame → List SentFrame
over_all actor bytes ws before = frames_over ws before actor.now actor.root bytes

same_over : (actor : Actor) (bytes ws : List ℕ) (a b : List SentFrame) → ((v : ℕ) → Has ws v → frames_on v a ≡ frames_on v b) → over_all actor bytes ws a ≡ over_all actor bytes ws b
same_over actor bytes [] a b same = refl
same_over actor bytes (w ∷ ws) a b same =
    ap (λ t. record { link = w; turn = t; moment = actor.now; bytes = bytes; root = actor.root } ∷ over_all actor bytes ws a) (same w (inl refl))
    ∙ ap (λ fs. record { link = w; turn = frames_on w b; moment = actor.now; bytes = bytes; root = actor.root } ∷ fs) (same_over actor bytes ws a b (λ v h. same v (inr h)))

same_events : (me : Mac) (reason : Option Reason) (a b : Mesh) (place : ℕ) (fs : List SentFrame) → a.links ≡ b.links → a.nodes ≡ b.nodes → sent_events me reason a place fs ≡ sent_events me reason b place fs
same_events me reason a b place [] l n = refl
same_events me reason a b place (f ∷ fs) l n =
    ap (λ ls. next a.nodes ls ∷ sent_events me reason a (suc place) fs) l
    ∙ ap (λ ns. next ns b.links ∷ sent_events me reason a (suc place) fs) n
    ∙ ap (λ es. next b.nodes b.links ∷ es) (same_events me reason a b (suc place) fs l n)
  where
    next : List NodeLog → List NetLink → Event
    next ns ls = FrameSent (suc place) f.moment me (address_at (end_of f.link ls) ns) reason f.bytes

-- a mesh with more frames and their events
abbrev with_all : Actor → Option Reason → List SentFrame → Mesh → Mesh
with_all actor reason new mesh = record mesh {
  frames = mesh.frames ++ new;
  events = mesh.events ++ sent_events actor.mac reason mesh (length mesh.frames) new;
}

pub all_sent : (actor : Actor) (reason : Option Reason) (bytes ws : List ℕ) (low : ℕ) (mesh : Mesh) → Rising low ws → sent_on_all actor reason bytes ws mesh ≡ with_all actor reason (over_all actor bytes ws mesh.frames) mesh
all_sent actor reason bytes [] low mesh r = λ i. record mesh {
  frames = sym (append-nil mesh.frames) i;
  events = sym (append-nil mesh.events) i;
}
all_sent actor reason bytes (w ∷ ws) low mesh r =
    all_sent actor reason bytes ws (suc w) next r.1
    ∙ (λ i. record mesh { frames = frames_are i; events = events_are i })
  where
    f : SentFrame
    f = next_frame actor bytes w mesh

    next : Mesh
    next = sent_on actor reason bytes w mesh

    rest : List SentFrame
    rest = over_all actor bytes ws mesh.frames

    rest_is : over_all actor bytes ws next.frames ≡ rest
    rest_is = same_over actor bytes ws next.frames mesh.frames (λ v h. let l = above (suc w) ws v r.1 h in other_on w v mesh.frames f refl (omega (arith, l)))

    frames_are : next.frames ++ over_all actor bytes ws next.frames ≡ mesh.frames ++ f ∷ rest
    frames_are = ap (λ fs. next.frames ++ fs) rest_is ∙ append_assoc mesh.frames (f ∷ []) rest

    place_is : length next.frames ≡ suc (length mesh.frames)
    place_is = length-append mesh.frames (f ∷ []) ∙ omega arith

    events_are : next.events ++ sent_events actor.mac reason next (length next.frames) (over_all actor bytes ws next.frames) ≡ mesh.events ++ sent_events actor.mac reason mesh (length mesh.frames) (f ∷ rest)
    events_are =
        ap (λ fs. next.events ++ sent_events actor.mac reason next (length next.frames) fs) rest_is
        ∙ ap (λ p. next.events ++ sent_events actor.mac reason next p rest) place_is
        ∙ ap (λ es. next.events ++ es) (same_events actor.mac reason next mesh (suc (length mesh.frames)) rest refl refl)
        ∙ append_assoc mesh.events (next_event actor reason bytes w mesh ∷ []) (sent_events actor.mac reason mesh (suc (length mesh.frames)) rest)

-- ---- limits
over_length : (actor : Actor) (bytes ws : List ℕ) (before : List SentFrame) → length (over_all actor bytes ws before) ≡ length ws
over_length actor bytes [] before = refl
over_length actor bytes (w ∷ ws) before = ap suc (over_length actor bytes ws before)

total_append : (a b : List SentFrame) → total_bytes (a ++ b) ≡ total_bytes a + total_bytes b
total_append [] b = omega arith
total_append (f ∷ fs) b = ap (λ n. length f.bytes + n) (total_append fs b) ∙ omega arith

over_bytes : (actor : Actor) (bytes ws : List ℕ) (before : List SentFrame) → total_bytes (over_all actor bytes ws before) ≡ length ws * length bytes
over_bytes actor bytes [] before = omega arith
over_bytes actor bytes (w ∷ ws) before = ap (λ n. length bytes + n) (over_bytes actor bytes ws before) ∙ more (length ws) (length bytes)
  where
    more : (n m : ℕ) → m + n * m ≡ suc n * m
    more n m = omega arith ∙ sym (suc-mul n m)

-- what an act leads to that would pass this limit, or none
abbrev pub attempt_by : Option LimitName → Mesh → Attempt
attempt_by None after = Ok after
attempt_by (Some limit) after = Err limit

attempt_if : (a b : Bool) (mesh : Mesh) → (if a then Err Frames else if b then Err FrameBytes else Ok mesh) ≡ attempt_by (if a then Some Frames else if b then Some FrameBytes else None) mesh
attempt_if true b mesh = refl
attempt_if false true mesh = refl
attempt_if false false mesh = refl

pub frames_attempt : (queries : Mac → Queries) (actor : Actor) (reason : Option Reason) (bytes ws : List ℕ) (mesh : Mesh) → Rising 0 ws → with_frames (scenario_setup queries) actor.mac reason (over_all actor bytes ws mesh.frames) mesh ≡ attempt_by (passed_room (frames_in mesh) (bytes_in mesh) (length ws) (length bytes)) (sent_on_all actor reason bytes ws mesh)
frames_attempt queries actor reason bytes ws mesh r =
    attempt_if (nat_lt frames_limit (length (mesh.frames ++ new) + length mesh.puts)) (nat_lt frame_bytes_limit (total_bytes (mesh.frames ++ new) + put_bytes mesh.puts)) (with_all actor reason new mesh)
    ∙ ap (λ n. attempt_by (if nat_lt frames_limit n then Some Frames else if nat_lt frame_bytes_limit (total_bytes (mesh.frames ++ new) + put_bytes mesh.puts) then Some FrameBytes else None) (with_all actor reason new mesh)) count_is
    ∙ ap (λ n. attempt_by (if nat_lt frames_limit (frames_in mesh + length ws) then Some Frames else if nat_lt frame_bytes_limit n then Some FrameBytes else None) (with_all actor reason new mesh)) size_is
    ∙ ap (attempt_by (passed_room (frames_in mesh) (bytes_in mesh) (length ws) (length bytes))) (sym (all_sent actor reason bytes ws 0 mesh r))
  where
    new : List SentFrame
    new = over_all actor bytes ws mesh.frames

    count_is : length (mesh.frames ++ new) + length mesh.puts ≡ frames_in mesh + length ws
    count_is = let both = length-append mesh.frames new in let more = over_length actor bytes ws mesh.frames in omega (arith, both, more)

    size_is : total_bytes (mesh.frames ++ new) + put_bytes mesh.puts ≡ bytes_in mesh + length ws * length bytes
    size_is = let both = total_append mesh.frames new in let more = over_bytes actor bytes ws mesh.frames in omega (arith, both, more)

-- so is what a LAN frame leads to
pub put_attempt : (queries : Mac → Queries) (put : LanPut) (mesh : Mesh) → with_put (scenario_setup queries) put mesh ≡ attempt_by (passed_room (frames_in mesh) (bytes_in mesh) 1 (length put.bytes)) (put_in put mesh)
put_attempt queries put mesh =
    attempt_if (nat_lt frames_limit (length mesh.frames + length (mesh.puts ++ put ∷ []))) (nat_lt frame_bytes_limit (total_bytes mesh.frames + put_bytes (mesh.puts ++ put ∷ []))) (put_in put mesh)
    ∙ ap (λ n. attempt_by (if nat_lt frames_limit n then Some Frames else if nat_lt frame_bytes_limit (total_bytes mesh.frames + put_bytes (mesh.puts ++ put ∷ [])) then Some FrameBytes else None) (put_in put mesh)) count_is
    ∙ ap (λ n. attempt_by (if nat_lt frames_limit (frames_in mesh + 1) then Some Frames else if nat_lt frame_bytes_limit n then Some FrameBytes else None) (put_in put mesh)) size_is
  where
    count_is : length mesh.frames + length (mesh.puts ++ put ∷ []) ≡ frames_in mesh + 1
    count_is = let more = length_more mesh.puts put in omega (arith, more)

    size_is : total_bytes mesh.frames + put_bytes (mesh.puts ++ put ∷ []) ≡ bytes_in mesh + 1 * length put.bytes
    size_is = let more = put_bytes_more mesh.puts put in omega (arith, more)
