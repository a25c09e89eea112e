-- Amid the sending of an act on links: some links had their frame, and the others follow.
use Rattle.std.proofs.Common.{◌≡◌, ℕ, suc, inl, inr, List, [], ◌∷◌, ◌++◌, length, slice_get, slice_index_or, Option, Some, option_and_then, refl, Bool, true, false, cond, sym, ap, ◌∙◌, subst, arith, append_assoc, append-nil}
use Rattle.std.proofs.Math.Nat.{suc-mul}
use Rattle.std.specs.List.{filter}
use Rattle.mesh_base.specs.declared.address.Mac.{Mac}
use Rattle.mesh_base.specs.declared.event.Event.{Event}
use Rattle.mesh_base.specs.declared.event.Reason.{Reason}
use Rattle.mesh_model.specs.declared.frame_choice.FrameChoice.{FrameChoice}
use Rattle.mesh_model.specs.declared.happening.Happening.{Happening}
use Rattle.mesh_model.specs.Net.Mesh.{NetLink, Mesh}
use Rattle.mesh_model.specs.Net.Sending.{Actor}
use Rattle.mesh_model.specs.Text.Events.{is_shown}
use Rattle.mesh_post.specs.declared.post.Post.{Post}
use Rattle.mesh_post.specs.declared.row.Sender.{Sender}
use Rattle.mesh_post.specs.declared.row.Sending.{Sending}
use Rattle.mesh_post.specs.Sent.{next_frame, sent_on, sent_on_all, actor_of, Amid, Sends, Logged, Grew, HasRoom, HasRoomFor, AreLow, KeepsAll, row_goes, chosen_at, if_passes}
use Rattle.mesh_post.proofs.LookUps.{got_there}
use Rattle.mesh_post.proofs.PostLemmas.{length_more, bytes_more}

-- ---- logs
pub filter_append : {X : Type 0} (test : X → Bool) (a b : List X) → filter test (a ++ b) ≡ filter test a ++ filter test b
filter_append test [] b = refl
filter_append test (x ∷ xs) b =
    ap (λ r. cond (test x) (x ∷ r) r) (filter_append test xs b)
    ∙ elim (test x) as (λ c. cond c (x ∷ (filter test xs ++ filter test b)) (filter test xs ++ filter test b) ≡ cond c (x ∷ filter test xs) (filter test xs) ++ filter test b) [ true ↦ refl | false ↦ refl ]

pub logged_none : (choice : FrameChoice) (mesh : Mesh) (log : List Event) → Logged choice mesh mesh log log
logged_none choice mesh log = record { more = []; came = sym (append-nil mesh.events); told = sym (append-nil log) }

pub logged_both : (choice : FrameChoice) (a b c : Mesh) (k m n : List Event) → Logged choice a b k m → Logged choice b c m n → Logged choice a c k n
logged_both choice a b c k m n p q = record {
  more = p.more ++ q.more;
  came = q.came ∙ ap (λ es. es ++ q.more) p.came ∙ append_assoc a.events p.more q.more;
  told = q.told ∙ ap (λ es. es ++ filter (is_shown choice) q.more) p.told ∙ append_assoc k (filter (is_shown choice) p.more) (filter (is_shown choice) q.more) ∙ ap (λ es. k ++ es) (sym (filter_append (is_shown choice) p.more q.more));
}

pub grew_none : (log : List Event) → Grew log log
grew_none log = record { more = []; is = sym (append-nil log) }

pub grew_both : (k m n : List Event) → Grew k m → Grew m n → Grew k n
grew_both k m n p q = record { more = p.more ++ q.more; is = q.is ∙ ap (λ es. es ++ q.more) p.is ∙ append_assoc k p.more q.more }

pub keeps_none : (post : Post) → KeepsAll post post
keeps_none post = record { alloc = refl; rows = refl; ways = refl; lans = refl; puts = refl; older = refl; fresh = refl; choice = refl }

pub keeps_both : (a b c : Post) → KeepsAll a b → KeepsAll b c → KeepsAll a c
keeps_both a b c p q = record { alloc = q.alloc ∙ p.alloc; rows = q.rows ∙ p.rows; ways = q.ways ∙ p.ways; lans = q.lans ∙ p.lans; puts = q.puts ∙ p.puts; older = q.older ∙ p.older; fresh = q.fresh ∙ p.fresh; choice = q.choice ∙ p.choice }

-- ---- midway
-- the links of the first had their frame; the rest follow
pub record Midway (choice : FrameChoice) (post : Post) (sendings : List Sending) (last : Happening) (ticks : List Happening) (sender : Sender) (reason : Option Reason) (bytes : List ℕ) (all rest : List ℕ) (mesh : Mesh) (old new : List Event) : Type 0 where
  pub mid : Mesh
  pub sends : Sends choice post sendings last ticks mesh mid old new
  pub goes : sent_on_all (actor_of sender) reason bytes rest mid ≡ sent_on_all (actor_of sender) reason bytes all mesh
  pub room : HasRoomFor mid sender.now (length rest) (length bytes)
  pub low : AreLow rest mid

pub midway_start : (choice : FrameChoice) (post : Post) (sendings : List Sending) (last : Happening) (ticks : List Happening) (sender : Sender) (reason : Option Reason) (bytes all : List ℕ) (mesh : Mesh) (log : List Event)
    → Amid post sendings last ticks mesh → HasRoomFor mesh sender.now (length all) (length bytes) → AreLow all mesh → Midway choice post sendings last ticks sender reason bytes all all mesh log log
midway_start choice post sendings last ticks sender reason bytes all mesh log amid room low = record {
  mid = mesh;
  sends = record { amid = amid; logged = logged_none choice mesh log };
  goes = refl;
  room = room;
  low = low;
}

pub first_room : (mesh : Mesh) (now size : ℕ) (rest : List ℕ) → HasRoomFor mesh now (suc (length rest)) size → HasRoom mesh now size
first_room mesh now size rest room =
    let few = room.few in
    let small = room.small in
    let all = suc-mul (length rest) size in
    record { few = omega (arith, few); small = omega (arith, small, all); soon = room.soon }

next_room : (actor : Actor) (reason : Option Reason) (bytes : List ℕ) (way : ℕ) (rest : List ℕ) (mesh : Mesh) (now : ℕ) → HasRoomFor mesh now (suc (length rest)) (length bytes) → HasRoomFor (sent_on actor reason bytes way mesh) now (length rest) (length bytes)
next_room actor reason bytes way rest mesh now room =
    let few = room.few in
    let small = room.small in
    let all = suc-mul (length rest) (length bytes) in
    let l = length_more mesh.frames (next_frame actor bytes way mesh) in
    let b = bytes_more mesh.frames (next_frame actor bytes way mesh) in
    record { few = omega (arith, few, l); small = omega (arith, small, all, b); soon = room.soon }

pub midway_next : (choice : FrameChoice) (old_post post : Post) (sendings : List Sending) (last : Happening) (ticks : List Happening) (sender : Sender) (reason : Option Reason) (bytes all : List ℕ) (way : ℕ) (rest : List ℕ) (mesh : Mesh) (old mid new : List Event)
    → (m : Midway choice old_post sendings last ticks sender reason bytes all (way ∷ rest) mesh old mid)
    → Sends choice post sendings last ticks m.mid (sent_on (actor_of sender) reason bytes way m.mid) mid new
    → Midway choice post sendings last ticks sender reason bytes all rest mesh old new
midway_next choice old_post post sendings last ticks sender reason bytes all way rest mesh old mid new m s = record {
  mid = sent_on (actor_of sender) reason bytes way m.mid;
  sends = record { amid = s.amid; logged = logged_both choice mesh m.mid (sent_on (actor_of sender) reason bytes way m.mid) old mid new m.sends.logged s.logged };
  goes = m.goes;
  room = next_room (actor_of sender) reason bytes way rest m.mid sender.now m.room;
  low = λ v h. m.low v (inr h);
}

pub midway_end : (choice : FrameChoice) (post : Post) (sendings : List Sending) (last : Happening) (ticks : List Happening) (sender : Sender) (reason : Option Reason) (bytes all : List ℕ) (mesh : Mesh) (old new : List Event)
    → Midway choice post sendings last ticks sender reason bytes all [] mesh old new → Sends choice post sendings last ticks mesh (sent_on_all (actor_of sender) reason bytes all mesh) old new
midway_end choice post sendings last ticks sender reason bytes all mesh old new m = subst (λ after. Sends choice post sendings last ticks mesh after old new) m.goes m.sends

-- the next link has its frame, by a call that sends it in any mesh
pub midway_step : (choice : FrameChoice) (old_post post : Post) (sendings : List Sending) (last : Happening) (ticks : List Happening) (sender : Sender) (reason : Option Reason) (bytes all rest : List ℕ) (way : ℕ) (next : List ℕ) (mesh : Mesh) (old mid new : List Event)
    → rest ≡ way ∷ next → Midway choice old_post sendings last ticks sender reason bytes all rest mesh old mid
    → ((m : Mesh) (link : NetLink) → Amid old_post sendings last ticks m → slice_get m.links way ≡ Some link → HasRoom m sender.now (length bytes) → Sends choice post sendings last ticks m (sent_on (actor_of sender) reason bytes way m) mid new)
    → Midway choice post sendings last ticks sender reason bytes all next mesh old new
midway_step choice old_post post sendings last ticks sender reason bytes all rest way next mesh old mid new split m send =
    let at : Midway choice old_post sendings last ticks sender reason bytes all (way ∷ next) mesh old mid = subst (λ r. Midway choice old_post sendings last ticks sender reason bytes all r mesh old mid) split m in
    let link = got_there at.mid.links way (at.low way (inl refl)) in
    midway_next choice old_post post sendings last ticks sender reason bytes all way next mesh old mid new at
    (send at.mid link.0 at.sends.amid link.1 (first_room at.mid sender.now (length bytes) next at.room))

pub chosen_kept : (a b : Post) (node i : ℕ) (to : Option Mac) → KeepsAll a b → chosen_at b node i to ≡ chosen_at a node i to
chosen_kept a b node i to kept = λ k. option_and_then (if_passes (row_goes (kept.rows k) to)) (slice_get (slice_index_or (kept.ways k).items node []) i)

pub count_kept : (a b : Post) (node : ℕ) → KeepsAll a b → length (slice_index_or b.ways.items node []) ≡ length (slice_index_or a.ways.items node [])
count_kept a b node kept = λ k. length (slice_index_or (kept.ways k).items node [])

pub midway_skip : (choice : FrameChoice) (post : Post) (sendings : List Sending) (last : Happening) (ticks : List Happening) (sender : Sender) (reason : Option Reason) (bytes all rest next : List ℕ) (mesh : Mesh) (old new : List Event)
    → rest ≡ next → Midway choice post sendings last ticks sender reason bytes all rest mesh old new → Midway choice post sendings last ticks sender reason bytes all next mesh old new
midway_skip choice post sendings last ticks sender reason bytes all rest next mesh old new same m = subst (λ r. Midway choice post sendings last ticks sender reason bytes all r mesh old new) same m
