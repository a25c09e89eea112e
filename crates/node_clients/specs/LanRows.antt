-- What a node does with a frame of its LAN, by what the frame is: the words of the definitions, apart
-- from the bytes. The main word is `message_acts`.
use Rattle.std.specs.Prelude.{ℕ, ◌++◌, List, Option}
use Rattle.mesh_base.specs.declared.address.Mac.{Mac}
use Rattle.mesh_model.specs.declared.act.Act.{Act}
use Rattle.mesh_model.specs.Acts.Choosing.{claimed_first, from_lan_acts}
use Rattle.mesh_model.specs.Acts.NodeLimits.{NodeLimit}
use Rattle.mesh_model.specs.Clients.Lans.{Bridge, bridge, with_claim}
use Rattle.mesh_model.specs.Clients.Limits.{limit_of_mentions}
use Rattle.mesh_model.specs.Clients.Log.{Log}
use Rattle.mesh_model.specs.Clients.Mentions.{Mention, mentions, passed_from_lan, passed_mentions, sighted_after}
use Rattle.mesh_model.specs.Knowledge.Known.{Knowledge}
use Rattle.mesh_model.specs.Knowledge.Steps.{after_passed, knowledge}
use Rattle.mesh_model.specs.Packets.LanFrames.{LanMessage, client_frame_in}
use Rattle.mesh_model.specs.Packets.Payload.{ClientFrame}
use Rattle.mesh_model.specs.Routes.Queries.{Queries}
use Rattle.node_ground.specs.Puts.{behind}

-- the mentions of a client frame that is passed, and those before it
abbrev pub mentions_behind : Mac → Log → ℕ → Option ClientFrame → List Mention
mentions_behind me log now passed =
    passed_mentions (sighted_after log) now passed ++ mentions me log

-- the client frame that the gateway of an address passes, where it passes one
abbrev pub passed_of : Mac → Log → ℕ → LanMessage → Option ClientFrame
passed_of me log now message = passed_from_lan me log now (client_frame_in message)

-- the acts of a frame on the LAN
abbrev pub message_acts : Queries → Mac → Log → ℕ → LanMessage → List Act
message_acts q me log now message = claimed_first me log now (client_frame_in message)
    ++ from_lan_acts q me log now (mentions_behind me log now (passed_of me log now message))
    (passed_of me log now message)

-- the limit that it passes
abbrev pub message_limit : Mac → Log → ℕ → LanMessage → Option NodeLimit
message_limit me log now message = behind (claimed_first me log now (client_frame_in message))
    (limit_of_mentions (mentions me log)
    (passed_mentions (sighted_after log) now (passed_of me log now message)))

-- what is known after it
abbrev pub message_knowledge : Queries → Mac → Log → ℕ → LanMessage → Knowledge
message_knowledge q me log now message = after_passed q me log (knowledge q me log) now
    (mentions_behind me log now (passed_of me log now message)) (passed_of me log now message)

-- the node as a gateway after it
abbrev pub message_bridge : Log → ℕ → LanMessage → Bridge
message_bridge log now message =
    record (bridge log) { claims = with_claim now message (bridge log).claims }
