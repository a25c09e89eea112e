-- What a happening does, and the run until a moment: what is due is carried out, one happening
-- after another, each at its own moment, until none is left or one would pass a limit. What is sent
-- meanwhile joins what is due. A happening that would pass a limit leaves nothing. Where the routes
-- of the mesh are watched, a happening ends with lines of them. Turns are taken by doubling, so that
-- the number of turns that there may be is no bound on what is computed; the laws say that it is
-- never used up. The main words are `after_happening` and `run_to`.
use Rattle.std.specs.Prelude.{ℕ, suc, zero, ◌||◌, ◌&&◌, nat_eq, Bool, true, false, find, List, slice_get, Option, Some, None, is_some, is_none, Ok, Err, if◌then◌else◌}
use Rattle.std.specs.Option.{option_map_or}
use Rattle.mesh_model.specs.declared.ending.LimitName.{LimitName}
use Rattle.mesh_model.specs.declared.happening.Class.{Class}
use Rattle.mesh_model.specs.declared.happening.Class.TheVariants.{LinkDelivery, LanDelivery, NodeTick}
use Rattle.mesh_model.specs.declared.happening.Happening.{Happening}
use Rattle.mesh_model.specs.Clients.Log.{Tick, LinkFrame}
use Rattle.mesh_model.specs.Net.Mesh.{NodeLog, NetLink, SentFrame, Mesh, Setup, address_at}
use Rattle.mesh_model.specs.Net.Sending.{Attempt, on_ok}
use Rattle.mesh_model.specs.Net.Inputs.{given_to}
use Rattle.mesh_model.specs.Net.Lans.{lan_delivered}
use Rattle.mesh_model.specs.Net.Due.{ticks_in, next_due}
use Rattle.mesh_model.specs.Net.Watching.{lines_told, with_lines}

-- whether a link leads from the node at one place to the node at another
abbrev pub leads : ℕ → ℕ → NetLink → Bool
leads from to link = nat_eq link.from from && nat_eq link.to to

-- the throughput of the link from one node to another, or 0 where there is none
abbrev pub throughput_between : ℕ → ℕ → List NetLink → ℕ
throughput_between from to links =
    option_map_or (λ (link : NetLink). link.throughput) (find (leads from to) links) 0

-- the mesh after the frame at a place arrives over its link
abbrev pub frame_over : Setup → ℕ → ℕ → SentFrame → Option NetLink → Mesh → Attempt
frame_over setup place now frame None mesh = Ok mesh
frame_over setup place now frame (Some link) mesh = given_to setup link.to now frame.root
    (LinkFrame (suc place) (address_at link.from mesh.nodes)
    (throughput_between link.to link.from mesh.links) frame.bytes) mesh

-- the mesh after the frame that stands at a place arrives
abbrev pub frame_given : Setup → ℕ → ℕ → Option SentFrame → Mesh → Attempt
frame_given setup place now None mesh = Ok mesh
frame_given setup place now (Some frame) mesh =
    frame_over setup place now frame (slice_get mesh.links frame.link) mesh

-- the mesh after the frame at a place is delivered at a moment: the node at its link's end is given
-- the bytes that it was sent with
abbrev pub delivered : Setup → ℕ → ℕ → Mesh → Attempt
delivered setup place now mesh =
    frame_given setup place now (slice_get mesh.frames place) mesh

-- the mesh after the node that stands at a place ticks; what it sends has this tick as its root
abbrev pub tick_given : Setup → ℕ → ℕ → Option NodeLog → Mesh → Attempt
tick_given setup place now None mesh = Ok mesh
tick_given setup place now (Some node) mesh = given_to setup place now
    (suc (ticks_in node.log)) (Tick (suc (ticks_in node.log))) mesh

-- the mesh after the node at a place ticks at a moment
abbrev pub ticked : Setup → ℕ → ℕ → Mesh → Attempt
ticked setup place now mesh = tick_given setup place now (slice_get mesh.nodes place) mesh

-- the mesh after what happens of this class at a place and a moment
abbrev pub effect : Setup → Class → ℕ → ℕ → Mesh → Attempt
effect setup LinkDelivery place now mesh = delivered setup place now mesh
effect setup LanDelivery place now mesh = lan_delivered setup place now mesh
effect setup NodeTick place now mesh = ticked setup place now mesh

-- the mesh at the end of a happening: its lines are told, and it is the last
abbrev pub with_last : Setup → Happening → Mesh → Attempt
with_last setup h mesh = Ok (record (with_lines (lines_told setup h mesh) mesh) { last = h })

-- the mesh after a happening
abbrev pub after_happening : Setup → Happening → Mesh → Attempt
after_happening setup h mesh =
    on_ok (with_last setup h) (effect setup h.class h.place h.moment mesh)

-- a limit that would be passed, and the moment of the happening that would pass it
pub record PassedLimit : Type 0 where
  pub moment : ℕ
  pub limit : LimitName

-- how far a run came, and the limit that ended it
pub record Course : Type 0 where
  pub mesh : Mesh
  pub stop : Option PassedLimit

-- a run that begins with this mesh
abbrev pub begin : Mesh → Course
begin mesh = record { mesh = mesh; stop = None }

-- the course after a happening; one that would pass a limit leaves the mesh as it was
abbrev pub course_after : Mesh → Happening → Attempt → Course
course_after before h (Ok after) = begin after
course_after before h (Err limit) =
    record { mesh = before; stop = Some (record { moment = h.moment; limit = limit }) }

-- the course after the next happening, where there is one
abbrev pub after_next : Setup → Course → Option Happening → Course
after_next setup course None = course
after_next setup course (Some h) = course_after course.mesh h (after_happening setup h course.mesh)

-- one turn: the next happening until a moment, where one is due and nothing ended the run
abbrev pub turn : Setup → ℕ → Course → Course
turn setup t course =
    if is_some course.stop then course else after_next setup course (next_due t course.mesh)

-- whether nothing is left to do until a moment
abbrev pub is_done : ℕ → Course → Bool
is_done t course = is_some course.stop || is_none (next_due t course.mesh)

-- going on from a course, unless it is done
abbrev pub unless_done : Bool → (Course → Course) → Course → Course
unless_done true go course = course
unless_done false go course = go course

-- as many turns as one that is doubled so many times, or as many as there are to take
abbrev pub turns : Setup → ℕ → ℕ → Course → Course
turns setup t zero course = turn setup t course
turns setup t (suc depth) course =
    unless_done (is_done t (turns setup t depth course)) (turns setup t depth)
    (turns setup t depth course)

-- how often turns are doubled: there are fewer happenings until the last moment than 2 ^ 82 turns
abbrev pub doublings : ℕ
doublings = 82

-- a course that goes on until a moment
unfoldable pub going_on : Setup → ℕ → Course → Course
going_on setup t course = turns setup t doublings course

-- the run of a mesh until a moment
abbrev pub run_to : Setup → ℕ → Mesh → Course
run_to setup t mesh = going_on setup t (begin mesh)
