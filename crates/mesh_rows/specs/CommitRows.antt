-- Small logs of a node with clients that come, change and go, and commits of which one is an alias.
use Rattle.std.specs.Prelude.{ℕ, true, List, [], ◌∷◌}
use Rattle.mesh_base.specs.declared.address.Mac.{Mac}
use Rattle.mesh_model.specs.Clients.Log.{Given, Tick, Line, LineGiven, Frame, Gone, Join, Leave, Sets, LogEntry, Log}
use Rattle.mesh_model.specs.Clients.Settings.{Wifi}
use Rattle.mesh_model.specs.Commits.Versions.{first_commit}
use Rattle.mesh_model.specs.Tables.Versions.{Version}
use Rattle.mesh_rows.specs.TableRows.{client, first, first_station, group_tagged, second}

-- the address of the node
abbrev pub me : Mac
me = record { 0 = 2 ∷ 0 ∷ 0 ∷ 0 ∷ 0 ∷ 10 ∷ [] }

-- what was given at a moment
abbrev at : ℕ → Given → LogEntry
at moment given = record { moment = moment; given = given; acts = [] }

-- what a line gave at a moment
abbrev line_at : ℕ → LineGiven → LogEntry
line_at moment line = at moment (Line line)

-- a frame of the first station, untagged
abbrev sent : LineGiven
sent = Frame (record { 0 = first_station }) (record { 0 = 255 ∷ 255 ∷ 255 ∷ 255 ∷ 255 ∷ 255 ∷ [] })
    (record { 0 = 0 }) []

-- the first station is sighted, and a second later once more, by wireless
abbrev pub wifi_log : Log
wifi_log = at 2000 (Tick 4) ∷ at 1500 (Tick 3) ∷ line_at 1000 sent
    ∷ line_at 1000 (Sets (Wifi true))
    ∷ at 1000 (Tick 2) ∷ at 500 (Tick 1) ∷ line_at 0 sent ∷ []

-- the first station is sighted, and departs
abbrev pub gone_log : Log
gone_log = at 2000 (Tick 4) ∷ at 1500 (Tick 3) ∷ line_at 1200 (Gone first.key) ∷ at 1000 (Tick 2)
    ∷ at 500 (Tick 1) ∷ line_at 0 sent ∷ []

-- a group is joined, and left after its 600,000 ms
abbrev pub group_log : Log
group_log = at 601000 (Tick 1202) ∷ line_at 600700 (Leave group_tagged.key) ∷ at 600000 (Tick 1200)
    ∷ at 1000 (Tick 2) ∷ line_at 0 (Join group_tagged.key) ∷ []

-- commits under the bytes 1, 2 and 1, of which the last has the checksums of the first
abbrev pub aliased : List Version
aliased = record {
  byte = 1;
  table = client (2 ∷ 0 ∷ 0 ∷ 0 ∷ 1 ∷ 5 ∷ []) 0 0
      ∷ client (2 ∷ 0 ∷ 0 ∷ 0 ∷ 1 ∷ 6 ∷ []) 0 0 ∷ [];
}
    ∷ record { byte = 2; table = first ∷ [] }
    ∷ record { byte = 1; table = first ∷ second ∷ [] } ∷ first_commit ∷ []
