-- What an originator message tells of its node's commits: the byte of the last one, the sums of the
-- VLANs that have entries in it, and its changes, in the first three messages after it if they are
-- at most 120. A message's root is the own tick at which its originator sent it; the message is of
-- the last commit at its root. The main words are `announcement` and `commit_at_root`.
use Rattle.std.specs.Prelude.{ℕ, ◌==◌, ◌&&◌, nat_lt, nat_le, Bool, false, List, [], ◌∷◌, length, map, Option, Some, None, if◌then◌else◌}
use Rattle.std.specs.Option.{option_map_or}
use Rattle.mesh_base.specs.declared.address.Mac.{Mac}
use Rattle.mesh_model.specs.Packets.Numbers.{ogm_diff_flag}
use Rattle.mesh_model.specs.Packets.Bodies.{TtData, TtChange, change_of}
use Rattle.mesh_model.specs.Clients.Log.{Given, Log, tick_of}
use Rattle.mesh_model.specs.Tables.Sums.{sums_of}
use Rattle.mesh_model.specs.Tables.Versions.{Version}
use Rattle.mesh_model.specs.Commits.Versions.{last_commit}
use Rattle.mesh_model.specs.Commits.History.{History, commits, is_first, last_changes}
use Rattle.mesh_model.specs.declared.table_change.Change.{Change}

-- how many messages carry a commit's changes
abbrev pub carrying_messages : ℕ
carrying_messages = 3

-- the most changes that a message carries
abbrev pub carried_changes : ℕ
carried_changes = 120

-- whether changes are few enough for a message
abbrev pub are_few : List Change → Bool
are_few changes = nat_le (length changes) carried_changes

-- changes, where they are few enough for a message
abbrev pub if_few : List Change → Option (List Change)
if_few changes = if are_few changes then Some changes else None

-- the changes of the last commit, where it isn't a first one and they are few enough for a message
abbrev pub told_changes : History → Option (List Change)
told_changes history = if is_first history then None else if_few (last_changes history)

-- the changes that the next message carries
abbrev pub announced_changes : History → List Change
announced_changes history =
    if nat_lt history.sent carrying_messages && are_few (last_changes history)
    then last_changes history else []

-- the record of a change
abbrev pub record_of_change : Change → TtChange
record_of_change change = change_of change.entry change.del

-- what the next message tells
abbrev pub announcement : History → TtData
announcement history = record {
  flags = ogm_diff_flag;
  ttvn = (last_commit history.commits).byte;
  vlans = sums_of (last_commit history.commits).table;
  changes = map record_of_change (announced_changes history);
}

-- whether an input is the tick of this index
abbrev pub is_tick : ℕ → Given → Bool
is_tick root given = option_map_or (λ index. index == root) (tick_of given) false

-- a log up to an own tick, itself included
abbrev pub log_until : ℕ → Log → Log
log_until root [] = []
log_until root (entry ∷ older) =
    if is_tick root entry.given then entry ∷ older else log_until root older

-- the commit that the messages of an own tick announce
abbrev pub commit_at_root : Mac → Log → ℕ → Version
commit_at_root me log root = last_commit (commits me (log_until root log))
