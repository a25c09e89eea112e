-- The rows of fragments: what a node puts for one that is for it, and for one that is for another
-- node. The first gives nothing, unless it makes a packet for one node whole, which then has its
-- own row; the second goes on while hops are left and a route leads there. The main words are
-- `unicast_here`, `carried_here` and `passed_fragment`.
use Rattle.std.specs.Prelude.{ℕ, nat_le, List, [], ◌++◌, Option, Some, None, if◌then◌else◌}
use Rattle.mesh_base.specs.declared.address.Mac.{Mac}
use Rattle.mesh_model.specs.declared.act.Act.{Act}
use Rattle.mesh_model.specs.declared.packet.Head.{Head}
use Rattle.mesh_model.specs.Acts.BridgeRows.{Place}
use Rattle.mesh_model.specs.Acts.FactRows.{fact_acts}
use Rattle.mesh_model.specs.Acts.FrameRows.{here_acts}
use Rattle.mesh_model.specs.Acts.Packing.{sent_over}
use Rattle.mesh_model.specs.Clients.Lans.{Bridge}
use Rattle.mesh_model.specs.Clients.Mentions.{Mention}
use Rattle.mesh_model.specs.Knowledge.Known.{Knowledge}
use Rattle.mesh_model.specs.Knowledge.PutTogether.{Carried}
use Rattle.mesh_model.specs.Packets.FactMessages.{fact_message_of}
use Rattle.mesh_model.specs.Routes.Queries.{Queries}

-- a packet for this node, with so many hops left and this payload
abbrev pub unicast_here : Queries → Knowledge → List Mention → Bridge → Place → ℕ → List ℕ
    → List Act
unicast_here q known mentions bridge at ttl payload =
    here_acts q known mentions bridge at ttl payload
    ++ fact_acts q known at (fact_message_of payload)

-- a packet that was put together here, where one was
abbrev pub carried_here : Queries → Knowledge → List Mention → Bridge → Place → Option Carried
    → List Act
carried_here q known mentions bridge at None = []
carried_here q known mentions bridge at (Some carried) =
    unicast_here q known mentions bridge at carried.ttl carried.payload

-- a fragment for another node: its hops, its receiver, and its head and tail as they go on
abbrev pub passed_fragment : Queries → Knowledge → ℕ → ℕ → Mac → Head → List ℕ → List Act
passed_fragment q known now ttl dst head tail =
    if nat_le ttl 1 then [] else sent_over (q.route known.routes now dst) head tail
