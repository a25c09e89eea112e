-- What a refused act leaves is as before.
use Rattle.std.proofs.Common.{◌≡◌, ◌↔◌, ◌≤◌, ℕ, zero, suc, Bool, true, false, cond, List, [], ◌∷◌, ◌++◌, length, take, drop, refl, sym, ap, subst, ◌∙◌, append_assoc, append-nil, arith}
use Rattle.std.specs.List.{filter}
use Rattle.std.proofs.lemmas.Bool.{lt-ltb, ltb-true}
use Rattle.std.proofs.Math.Seq.{drop-append_seam}
use Rattle.mesh_base.specs.declared.event.Event.{Event}
use Rattle.mesh_model.specs.declared.happening.Class.{Class}
use Rattle.mesh_model.specs.declared.happening.Class.TheVariants.{LinkDelivery, LanDelivery, NodeTick}
use Rattle.mesh_model.specs.declared.happening.Happening.{Happening}
use Rattle.mesh_model.specs.Net.Happenings.{Before}
use Rattle.mesh_model.specs.Net.Next.{Has}
use Rattle.mesh_laws.proofs.Schedule.Members.{filter_has, has_filter, one_some}
use Rattle.mesh_post.specs.declared.marks.Mark.{Mark}
use Rattle.mesh_post.specs.declared.post.Post.{Post}
use Rattle.mesh_post.specs.declared.posted.Posted.{Posted}
use Rattle.mesh_post.specs.declared.row.Put.{Put}
use Rattle.mesh_post.specs.declared.row.Sending.{Sending}
use Rattle.mesh_post.specs.Refused.{Enters, IsAsBefore, IsMark, KeepsJoined, TakesBack, is_older, stays, with_turns}
use Rattle.mesh_post.specs.Sent.{Grew}
use Rattle.mesh_post.specs.Waiting.{IsRising}
use Rattle.mesh_post.proofs.RisingLemmas.{first_before, has_at, rest_rises}
use Rattle.mesh_post.proofs.TurnLemmas.{turns_both}

-- ---- lists
first : {X : Type 0} (xs more : List X) → take (length xs) (xs ++ more) ≡ xs
first [] more = refl
first (x ∷ xs) more = ap (λ l. x ∷ l) (first xs more)

take_front : {X : Type 0} (xs more all : List X) → all ≡ xs ++ more → take (length xs) all ≡ xs
take_front xs more all is = ap (take (length xs)) is ∙ first xs more

drop_front : {X : Type 0} (xs more all : List X) → all ≡ xs ++ more → drop (length xs) all ≡ more
drop_front xs more all is = ap (drop (length xs)) is ∙ drop-append_seam xs more

-- a log that grew is cut back
pub cut_back : (old new : List Event) (told : ℕ) → told ≡ length old → Grew old new → take told new ≡ old
cut_back old new told is grew = ap (λ n. take n new) is ∙ take_front old grew.more new grew.is

joined_longer : {X : Type 0} (xs more : List X) → length xs ≤ length (xs ++ more)
joined_longer [] more = omega arith
joined_longer (x ∷ xs) more = let l = joined_longer xs more in omega (arith, l)

longer : {X : Type 0} (xs more all : List X) → all ≡ xs ++ more → length xs ≤ length all
longer xs more all is = subst (λ n. length xs ≤ n) (sym (ap length is)) (joined_longer xs more)

-- ---- what rises still does where some are left out
cons_rises : (h : Happening) (xs : List Happening) → ((x : Happening) → Has xs x → Before h x) → IsRising xs → IsRising (h ∷ xs)
cons_rises h xs first rising i zero x y l p q = absurd (omega (arith, l))
cons_rises h xs first rising zero (suc j) x y l p q = subst (λ k. Before k y) (one_some h x p) (first y (has_at xs j y q))
cons_rises h xs first rising (suc i) (suc j) x y l p q = rising i j x y (omega (arith, l)) p q

pub filter_rises : (test : Happening → Bool) (xs : List Happening) → IsRising xs → IsRising (filter test xs)
filter_rises test [] rising = rising
filter_rises test (h ∷ xs) rising = go (test h) (filter_rises test xs (rest_rises (h ∷ xs) rising))
  where
    go : (b : Bool) → IsRising (filter test xs) → IsRising (cond b (h ∷ filter test xs) (filter test xs))
    go true later = cons_rises h (filter test xs) (λ x has. first_before h xs rising x (filter_has test xs x has).1) later
    go false later = later

-- ---- happenings
older_grows : (a b c d : ℕ) (class : Class) (place : ℕ) → a ≤ c → b ≤ d → is_older a b class place ≡ true → is_older c d class place ≡ true
older_grows a b c d LinkDelivery place l m is = let low = ltb-true place a is in lt-ltb place c (omega (arith, low, l))
older_grows a b c d LanDelivery place l m is = let low = ltb-true place b is in lt-ltb place d (omega (arith, low, m))
older_grows a b c d NodeTick place l m is = refl

-- ---- what is entered
joined_none : (p : Post) → KeepsJoined p p
joined_none p = record { alloc = refl; rows = refl; ways = refl; lans = refl; older = refl; choice = refl }

joined_both : (a b c : Post) → KeepsJoined a b → KeepsJoined b c → KeepsJoined a c
joined_both a b c p q = record {
  alloc = q.alloc ∙ p.alloc;
  rows = q.rows ∙ p.rows;
  ways = q.ways ∙ p.ways;
  lans = q.lans ∙ p.lans;
  older = q.older ∙ p.older;
  choice = q.choice ∙ p.choice;
}

pub enters_none : (p : Post) → Enters p p
enters_none p = record {
  joined = joined_none p;
  frames = [];
  frames_are = sym (append-nil p.frames);
  turns = refl;
  puts = [];
  puts_are = sym (append-nil p.puts.items);
  fresh = [];
  fresh_are = sym (append-nil p.fresh.items);
  waits = λ x old. (λ has. has, λ has. has);
}

pub enters_both : (a b c : Post) → Enters a b → Enters b c → Enters a c
enters_both a b c p q = record {
  joined = joined_both a b c p.joined q.joined;
  frames = p.frames ++ q.frames;
  frames_are = q.frames_are ∙ ap (λ l. l ++ q.frames) p.frames_are ∙ append_assoc a.frames p.frames q.frames;
  turns = q.turns ∙ ap (with_turns q.frames) p.turns ∙ sym (turns_both p.frames q.frames a.turns.items);
  puts = p.puts ++ q.puts;
  puts_are = q.puts_are ∙ ap (λ l. l ++ q.puts) p.puts_are ∙ append_assoc a.puts.items p.puts q.puts;
  fresh = p.fresh ++ q.fresh;
  fresh_are = q.fresh_are ∙ ap (λ l. l ++ q.fresh) p.fresh_are ∙ append_assoc a.fresh.items p.fresh q.fresh;
  waits = λ x old.
      let later = older_grows (length a.frames) (length a.puts.items) (length b.frames) (length b.puts.items) x.class x.place (longer a.frames p.frames b.frames p.frames_are) (longer a.puts.items p.puts b.puts.items p.puts_are) old in
      let one = p.waits x old in
      let two = q.waits x later in
      (λ has. one.0 (two.0 has), λ has. two.1 (one.1 has));
}

-- a happening that stays is no delivery of the next frame
pub no_next_frame : (frames puts : ℕ) (x : Happening) → stays frames puts x ≡ true → x.class ≡ LinkDelivery → x.place ≡ frames → ⊥
no_next_frame frames puts x old class place =
    let low = ltb-true x.place frames (subst (λ c. is_older frames puts c x.place ≡ true) class old) in omega (arith, low, place)

pub no_next_put : (frames puts : ℕ) (x : Happening) → stays frames puts x ≡ true → x.class ≡ LanDelivery → x.place ≡ puts → ⊥
no_next_put frames puts x old class place =
    let low = ltb-true x.place puts (subst (λ c. is_older frames puts c x.place ≡ true) class old) in omega (arith, low, place)

-- a frame on a link may have been entered, and its deliveries
pub frame_entered : (a b : Post) (place : ℕ) (more : List Posted) → KeepsJoined a b → place ≡ length a.frames → b.frames ≡ a.frames ++ more → b.turns.items ≡ with_turns more a.turns.items → b.puts.items ≡ a.puts.items → b.fresh.items ≡ a.fresh.items
    → ((x : Happening) → (x.class ≡ LinkDelivery → x.place ≡ place → ⊥) → Has b.queue x ↔ Has a.queue x) → Enters a b
frame_entered a b place more joined next frames turns puts fresh others = record {
  joined = joined;
  frames = more;
  frames_are = frames;
  turns = turns;
  puts = [];
  puts_are = puts ∙ sym (append-nil a.puts.items);
  fresh = [];
  fresh_are = fresh ∙ sym (append-nil a.fresh.items);
  waits = λ x old. others x (λ class at. no_next_frame (length a.frames) (length a.puts.items) x old class (at ∙ next));
}

-- a frame on a LAN may have been entered, and its delivery
pub put_entered : (a b : Post) (place : ℕ) (more : List Put) (sent : List Sending) → KeepsJoined a b → place ≡ length a.puts.items → b.frames ≡ a.frames → b.turns.items ≡ a.turns.items → b.puts.items ≡ a.puts.items ++ more → b.fresh.items ≡ a.fresh.items ++ sent
    → ((x : Happening) → (x.class ≡ LanDelivery → x.place ≡ place → ⊥) → Has b.queue x ↔ Has a.queue x) → Enters a b
put_entered a b place more sent joined next frames turns puts fresh others = record {
  joined = joined;
  frames = [];
  frames_are = frames ∙ sym (append-nil a.frames);
  turns = turns;
  puts = more;
  puts_are = puts;
  fresh = sent;
  fresh_are = fresh;
  waits = λ x old. others x (λ class at. no_next_put (length a.frames) (length a.puts.items) x old class (at ∙ next));
}

-- ---- what is taken back
pub as_before : (mark : Mark) (old mid new : Post) → IsMark old mark → Enters old mid → TakesBack mark mid new → IsAsBefore old new
as_before mark old mid new m e t = record {
  joined = joined_both old mid new e.joined t.joined;
  turns = t.turns old.turns.items (e.turns ∙ ap (λ l. with_turns l old.turns.items) (sym came));
  frames = t.frames ∙ ap (λ n. take n mid.frames) m.frames ∙ take_front old.frames e.frames mid.frames e.frames_are;
  puts = t.puts ∙ ap (λ n. take n mid.puts.items) m.puts ∙ take_front old.puts.items e.puts mid.puts.items e.puts_are;
  fresh = t.fresh ∙ ap (λ n. take n mid.fresh.items) m.fresh ∙ take_front old.fresh.items e.fresh mid.fresh.items e.fresh_are;
  bytes = t.bytes ∙ m.bytes;
  waits = λ own x. (
    λ has. let left = filter_has test mid.queue x (subst (λ q. Has q x) queue has) in (e.waits x left.0).0 left.1,
    λ has. subst (λ q. Has q x) (sym queue) (has_filter test mid.queue x (own x has) ((e.waits x (own x has)).1 has)),
  );
}
  where
    came : drop mark.frames mid.frames ≡ e.frames
    came = ap (λ n. drop n mid.frames) m.frames ∙ drop_front old.frames e.frames mid.frames e.frames_are

    test : Happening → Bool
    test = stays (length old.frames) (length old.puts.items)

    queue : new.queue ≡ filter test mid.queue
    queue = t.queue ∙ ap (λ n. filter (stays n mark.puts) mid.queue) m.frames ∙ ap (λ n. filter (stays (length old.frames) n) mid.queue) m.puts
