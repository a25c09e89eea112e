-- What is kept of a mesh says nothing of its events, of its last happening, of the routes that were
-- told, nor of what waits: where these change, or only nodes and links, the rest stands as it stood.
use Rattle.std.proofs.Common.{ℕ, List, Option}
use Rattle.std.specs.Global.{Vec}
use Rattle.mesh_base.specs.declared.event.Event.{Event}
use Rattle.mesh_model.specs.declared.happening.Happening.{Happening}
use Rattle.mesh_model.specs.declared.route_line.RouteLine.{RouteLine}
use Rattle.mesh_model.specs.Net.Mesh.{NodeLog, NetLink, Mesh}
use Rattle.mesh_post.specs.declared.post.Post.{Post}
use Rattle.mesh_post.specs.declared.row.Row.{Row}
use Rattle.mesh_post.specs.declared.row.Sending.{Sending}
use Rattle.mesh_post.specs.Kept.{PostStands, RowsAre, TurnsAre, WaysAre}
use Rattle.mesh_post.specs.Sent.{InStep}
use Rattle.mesh_post.specs.Waiting.{Awaits}

pub stands_beside : {post : Post} {sendings : List Sending} {mesh : Mesh} {queue : List Happening} {fresh : Vec Sending} {older : ℕ} {events : List Event} {last : Happening} {watch : Option (List RouteLine)}
    → PostStands post sendings mesh → PostStands (record post { queue = queue; fresh = fresh; older = older }) sendings (record mesh { events = events; last = last; watch = watch })
stands_beside kept = record {
  rows = kept.rows;
  turns = kept.turns;
  ways = kept.ways;
  lans = kept.lans;
  frames = kept.frames;
  puts = kept.puts;
  bytes = kept.bytes;
  few = kept.few;
  small = kept.small;
}

-- amid a step, in a mesh with other events, another last happening, or other routes that were told
pub step_beside : {post : Post} {older : List Sending} {last : Happening} {ticks : List Happening} {mesh : Mesh} {events : List Event} {ended : Happening} {watch : Option (List RouteLine)}
    → InStep post older last ticks mesh → InStep post older last ticks (record mesh { events = events; last = ended; watch = watch })
step_beside step = record {
  amid = record { stands = stands_beside step.amid.stands; waits = step.amid.waits };
  older_is = step.older_is;
}

-- amid a step, where others wait
pub step_waits : {post : Post} {older : List Sending} {before last : Happening} {old ticks queue : List Happening} {mesh : Mesh}
    → InStep post older before old mesh → Awaits queue last ticks mesh.links mesh.frames mesh.puts → InStep (record post { queue = queue }) older last ticks mesh
step_waits step waits = record {
  amid = record { stands = stands_beside step.amid.stands; waits = waits };
  older_is = step.older_is;
}

-- amid a step, in a mesh with other nodes and links
pub step_over : {post : Post} {older : List Sending} {last : Happening} {ticks : List Happening} {mesh : Mesh} {nodes : List NodeLog} {links : List NetLink} {rows : List Row} {turns : Vec ℕ} {ways : Vec (List ℕ)}
    → InStep post older last ticks mesh → RowsAre nodes links rows → TurnsAre links mesh.frames turns.items → WaysAre nodes links ways.items → Awaits post.queue last ticks links mesh.frames mesh.puts
    → InStep (record post { rows = rows; turns = turns; ways = ways }) older last ticks (record mesh { nodes = nodes; links = links })
step_over step rows turns ways waits = record {
  amid = record {
    stands = record {
      rows = rows;
      turns = turns;
      ways = ways;
      lans = step.amid.stands.lans;
      frames = step.amid.stands.frames;
      puts = step.amid.stands.puts;
      bytes = step.amid.stands.bytes;
      few = step.amid.stands.few;
      small = step.amid.stands.small;
    };
    waits = waits;
  };
  older_is = step.older_is;
}
