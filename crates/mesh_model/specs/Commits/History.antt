-- The commits in a node's log. At each even tick the table of present clients is the next commit,
-- under the next byte, if it differs from the last commit's; then an originator message announces
-- the last commit. A message counts among those of its commit also where no link takes it. Before
-- the first input, and at each reboot, there is a first commit, which has no changes; those of
-- another lead to it from the one before. Commits are numbered on over a reboot. The main words are
-- `commits` and `last_changes`.
use Rattle.mesh_model.specs.Routes.RouteLog.{is_ogm_tick}
use Rattle.std.specs.Prelude.{ℕ, suc, ◌+◌, nat_eq, Bool, List, [], ◌∷◌, length, map, Option, Some, None, if◌then◌else◌}
use Rattle.mesh_base.specs.declared.address.Mac.{Mac}
use Rattle.mesh_base.specs.declared.client.Entry.{Entry}
use Rattle.mesh_model.specs.Clients.Log.{Given, Log, is_reboot, tick_of}
use Rattle.mesh_model.specs.Clients.Mentions.{Mention, mentions}
use Rattle.mesh_model.specs.Clients.Present.{present_clients}
use Rattle.mesh_model.specs.Commits.Versions.{changes_to_last, first_commit, last_commit, same_table}
use Rattle.mesh_model.specs.Tables.Versions.{Version, next_byte}
use Rattle.mesh_model.specs.declared.table_change.Change.{Change}

-- the commits of a node, newest first, the number of the last first commit, and how many messages
-- have announced the newest
pub record History : Type 0 where
  pub commits : List Version
  pub start : ℕ
  pub sent : ℕ

-- commit 0, and no message
abbrev pub first_history : History
first_history = record { commits = first_commit ∷ []; start = 0; sent = 0 }

-- a history with one more first commit, which no message has announced
abbrev pub restarted : History → History
restarted before = record {
  commits = first_commit ∷ before.commits;
  start = length before.commits;
  sent = 0;
}

-- whether the last commit is a first one
abbrev pub is_first : History → Bool
is_first history = nat_eq (length history.commits) (suc history.start)

-- the changes of the last commit; a first commit has none
abbrev pub last_changes : History → List Change
last_changes history = if is_first history then [] else changes_to_last history.commits

-- the table of the present clients at a moment
abbrev pub present_table : List Mention → ℕ → List Entry
present_table mentions now = map (λ row. row.entry) (present_clients mentions now)

-- a history with one more commit, which no message has announced
abbrev pub with_commit : List Entry → History → History
with_commit table history = record {
  commits = record { byte = next_byte (last_commit history.commits).byte; table = table }
      ∷ history.commits;
  start = history.start;
  sent = 0;
}

-- a history after a table is committed, if it differs from the last commit's
abbrev pub committed : List Entry → History → History
committed table history =
    if same_table (last_commit history.commits).table table then history
    else with_commit table history

-- a history after one more message
abbrev pub with_message : History → History
with_message history = record history { sent = history.sent + 1 }

-- whether a node commits at the tick of this index: at each second one
abbrev pub is_commit_tick : ℕ → Bool
is_commit_tick index = is_ogm_tick index

-- the history after a tick, from the table that is then present and the history before
abbrev pub after_tick : ℕ → List Entry → History → History
after_tick index table before =
    if is_commit_tick index then with_message (committed table before) else before

-- the history after the tick of an index at a moment, where there is one, from the mentions and the
-- history before
abbrev pub after_ticking : List Mention → History → ℕ → Option ℕ → History
after_ticking older before moment None = before
after_ticking older before moment (Some index) =
    after_tick index (present_table older moment) before

-- the history after an input, from the mentions and the history before
abbrev pub next_history : List Mention → History → ℕ → Given → History
next_history older before moment given = if is_reboot given then restarted before
    else after_ticking older before moment (tick_of given)

-- the history in the log of the node of an address
abbrev pub history : Mac → Log → History
history me [] = first_history
history me (entry ∷ older) =
    next_history (mentions me older) (history me older) entry.moment entry.given

-- the commits in the log of the node of an address, newest first
abbrev pub commits : Mac → Log → List Version
commits me log = (history me log).commits
