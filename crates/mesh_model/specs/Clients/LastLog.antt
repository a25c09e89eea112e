-- The log of a node since its last reboot. It begins with the settings that the log before had, in
-- their order and at the moment of the reboot; all that a node knows, its commits apart, is the same
-- by it. The main word is `last_log`.
use Rattle.std.specs.Prelude.{ℕ, [], ◌∷◌, filter, map, is_some, if◌then◌else◌}
use Rattle.mesh_model.specs.Clients.Log.{Log, LogEntry, is_reboot, setting_of}

-- the entries of a log that set something
abbrev pub settings_in : Log → Log
settings_in log = filter (λ (entry : LogEntry). is_some (setting_of entry.given)) log

-- entries as those of a moment
abbrev pub moved_to : ℕ → Log → Log
moved_to moment log = map (λ (entry : LogEntry). record entry { moment = moment }) log

-- the log since the last reboot, and before it the settings; all of it without a reboot
abbrev pub last_log : Log → Log
last_log [] = []
last_log (entry ∷ older) = if is_reboot entry.given
    then moved_to entry.moment (settings_in (last_log older)) else entry ∷ last_log older
