-- A walk over the containers of bytes, first to last. It ends at the end of the bytes, or with the
-- first cut. The main words are `Walk`, the state of a walk, and `to_come`, the containers that it
-- will still give.
use Rattle.std.specs.Prelude.{◌≡◌, ℕ, ◌+◌, ◌<◌, ◌⊎◌, Bool, true, false, IsTrue, if◌then◌else◌, List, [], length, drop}
use Rattle.mesh_model.specs.Packets.Containers as grammar
use Rattle.mesh_model.specs.Packets.Containers.{containers_of, container_size, AreShort}
use Rattle.mesh_tvlv.specs.declared.walk.Container.{Container}

-- a container apart from where its body lies
abbrev pub seen : Container → grammar.Container
seen container = record {
  kind = container.kind;
  version = container.version;
  body = container.body.now;
}

-- the bytes that aren't read yet, the offset of the first of them, and whether a cut came
pub record Walk : Type 0 where
  pub left : List ℕ
  pub offset : ℕ
  pub stopped : Bool

-- a walk that begins at the first of these bytes
abbrev pub walk_over : List ℕ → Walk
walk_over bytes = record { left = bytes; offset = 0; stopped = false }

-- the containers that a walk will still give
abbrev pub to_come : Walk → List grammar.Container
to_come walk = if walk.stopped then [] else containers_of walk.left

-- a walk that is at the end of its bytes, or came to a cut
abbrev pub HasEnded : Walk → Type 0
HasEnded walk = (walk.left ≡ []) ⊎ IsTrue walk.stopped

-- a walk before some bytes, but fewer than a header and the length that it tells
pub record IsAtCut (walk : Walk) : Type 0 where
  pub goes_on : walk.stopped ≡ false
  pub some_left : 0 < length walk.left
  pub few_left : AreShort walk.left

-- a walk that came to a cut
abbrev pub stopped : Walk → Walk
stopped walk = record walk { stopped = true }

-- a walk behind its next container
abbrev pub behind : Walk → grammar.Container → Walk
behind walk container = record walk {
  left = drop (container_size container) walk.left;
  offset = walk.offset + container_size container;
}
