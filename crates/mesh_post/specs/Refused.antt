-- What a refused act leaves. Where it would pass a limit nothing is begun; where memory is wanting
-- amid it, what was entered is taken back: the frames with the turns of their links, what they
-- bring, and what was told of them. So what is kept is as before, and so is the log. The main words
-- are `IsAsBefore` and `PortSame`.
use Rattle.std.specs.Prelude.{◌≡◌, ◌↔◌, ℕ, nat_lt, Bool, true, List, ◌++◌, filter, length, take, drop, suc, slice_index_or, slice_set, [], ◌∷◌}
use Rattle.mesh_model.specs.declared.happening.Class.{Class}
use Rattle.mesh_model.specs.declared.happening.Class.TheVariants.{LinkDelivery, LanDelivery, NodeTick}
use Rattle.mesh_model.specs.declared.happening.Happening.{Happening}
use Rattle.mesh_model.specs.Net.Next.{Has}
use Rattle.mesh_post.specs.declared.marks.Mark.{Mark}
use Rattle.mesh_post.specs.declared.port.NetPort.{NetPort}
use Rattle.mesh_post.specs.declared.post.Post.{Post}
use Rattle.mesh_post.specs.declared.posted.Posted.{Posted}
use Rattle.mesh_post.specs.declared.row.Put.{Put}
use Rattle.mesh_post.specs.declared.row.Sending.{Sending}

-- whether what happens of a class at a place is no delivery of a frame on a link from one place on,
-- or of one on a LAN from another
abbrev pub is_older : (frames puts : ℕ) → Class → ℕ → Bool
is_older frames puts LinkDelivery place = nat_lt place frames
is_older frames puts LanDelivery place = nat_lt place puts
is_older frames puts NodeTick place = true

-- so of a happening
abbrev pub stays : (frames puts : ℕ) → Happening → Bool
stays frames puts h = is_older frames puts h.class h.place

-- what joined, and what an act never changes besides
pub record KeepsJoined (old new : Post) : Type 0 where
  pub alloc : new.alloc ≡ old.alloc
  pub rows : new.rows ≡ old.rows
  pub ways : new.ways ≡ old.ways
  pub lans : new.lans ≡ old.lans
  pub older : new.older ≡ old.older
  pub choice : new.choice ≡ old.choice

-- how many frames each link carried, where the one at a place carried one more
abbrev pub with_turn : ℕ → List ℕ → List ℕ
with_turn way turns = slice_set turns way (suc (slice_index_or turns way 0))

-- how many, where they carried these besides
abbrev pub with_turns : List Posted → List ℕ → List ℕ
with_turns [] turns = turns
with_turns (frame ∷ frames) turns = with_turns frames (with_turn frame.link turns)

-- frames and sendings were entered behind the others, and only deliveries of these frames wait
-- besides what waited
pub record Enters (old new : Post) : Type 0 where
  pub joined : KeepsJoined old new
  pub frames : List Posted
  pub frames_are : new.frames ≡ old.frames ++ frames
  pub turns : new.turns.items ≡ with_turns frames old.turns.items
  pub puts : List Put
  pub puts_are : new.puts.items ≡ old.puts.items ++ puts
  pub fresh : List Sending
  pub fresh_are : new.fresh.items ≡ old.fresh.items ++ fresh
  pub waits : (x : Happening) →
      stays (length old.frames) (length old.puts.items) x ≡ true →
      Has new.queue x ↔ Has old.queue x

-- a mark is of what is kept
pub record IsMark (post : Post) (mark : Mark) : Type 0 where
  pub frames : mark.frames ≡ length post.frames
  pub puts : mark.puts ≡ length post.puts.items
  pub fresh : mark.fresh ≡ length post.fresh.items
  pub bytes : mark.bytes ≡ post.bytes

-- what was entered since a mark is taken back
pub record TakesBack (mark : Mark) (old new : Post) : Type 0 where
  pub joined : KeepsJoined old new
  pub frames : new.frames ≡ take mark.frames old.frames
  pub puts : new.puts.items ≡ take mark.puts old.puts.items
  pub fresh : new.fresh.items ≡ take mark.fresh old.fresh.items
  pub bytes : new.bytes ≡ mark.bytes
  pub turns : (before : List ℕ) →
      old.turns.items ≡ with_turns (drop mark.frames old.frames) before →
      new.turns.items ≡ before
  pub queue : new.queue ≡ filter (stays mark.frames mark.puts) old.queue

-- each delivery that waits is of a frame that is kept
abbrev pub AwaitsItsFrames : Post → Type 0
AwaitsItsFrames post = (x : Happening) → Has post.queue x →
    stays (length post.frames) (length post.puts.items) x ≡ true

-- what is kept is as it was
pub record IsAsBefore (old new : Post) : Type 0 where
  pub joined : KeepsJoined old new
  pub turns : new.turns.items ≡ old.turns.items
  pub frames : new.frames ≡ old.frames
  pub puts : new.puts.items ≡ old.puts.items
  pub fresh : new.fresh.items ≡ old.fresh.items
  pub bytes : new.bytes ≡ old.bytes
  pub waits : AwaitsItsFrames old → (x : Happening) → Has new.queue x ↔ Has old.queue x

-- a port as one that refused an act leaves it
pub record PortSame (old new : NetPort) : Type 0 where
  pub post : new.post.ghost_name ≡ old.post.ghost_name
  pub log : new.log.ghost_name ≡ old.log.ghost_name
  pub kept : IsAsBefore old.post.now new.post.now
  pub told : new.log.now ≡ old.log.now
