-- How what a node keeps of its own clients stands for its log: for the mentions of them, and for
-- the history of its commits. It does so from a moment on that isn't after the newest input; so
-- the moment of the next input isn't before it, as moments never fall. And there are never more
-- clients than may be, nor were there at the last commit. The main words are `HasClients` and
-- `OwnStands`.
use Rattle.std.specs.Prelude.{◌≡◌, ℕ, ◌≤◌, List, [], ◌∷◌, length}
use Rattle.mesh_base.specs.declared.address.Mac.{Mac}
use Rattle.mesh_model.specs.Acts.Choosing.{acts_of}
use Rattle.mesh_model.specs.Acts.Rows.{Own}
use Rattle.mesh_model.specs.Clients.Limits.{clients_limit}
use Rattle.mesh_model.specs.Clients.Log.{Given, Log}
use Rattle.mesh_model.specs.Clients.Mentions.{Mention, mentions}
use Rattle.mesh_model.specs.Clients.Present.{present_clients}
use Rattle.mesh_model.specs.Commits.Announcements.{told_changes}
use Rattle.mesh_model.specs.Commits.History.{History, history}
use Rattle.mesh_model.specs.Commits.Versions.{last_commit}
use Rattle.mesh_model.specs.Routes.Queries.{Queries}
use Rattle.tt_local.specs.Locals.{LocalsStand, LocalsView}

-- the moment of the newest input of a log, 0 before the first
abbrev pub newest_moment : Log → ℕ
newest_moment [] = 0
newest_moment (entry ∷ older) = entry.moment

-- a log with one more input, and the acts that the node then puts
abbrev pub with_input : Queries → Mac → Log → ℕ → Given → Log
with_input q me log now given =
    record { moment = now; given = given; acts = acts_of q me log now given } ∷ log

-- from a moment on no more clients are present than may be, and no more were at the last commit
pub record AreFew (mentions : List Mention) (history : History) (since : ℕ) : Type 0 where
  pub present : (now : ℕ) → since ≤ now → length (present_clients mentions now) ≤ clients_limit
  pub committed : length (last_commit history.commits).table ≤ clients_limit

-- the local clients are those of the node of an address by a log
pub record HasClients (locals : LocalsView) (me : Mac) (log : Log) : Type 0 where
  pub since : ℕ
  pub stand : LocalsStand locals (mentions me log) (history me log) since
  pub settled : since ≤ newest_moment log
  pub few : AreFew (mentions me log) (history me log) (newest_moment log)

-- the local clients at a moment are those of a node
pub record OwnStands (locals : LocalsView) (own : Own) (now : ℕ) : Type 0 where
  pub history : History
  pub since : ℕ
  pub stand : LocalsStand locals own.mentions history since
  pub settled : since ≤ now
  pub last : own.last ≡ last_commit history.commits
  pub told : own.told ≡ told_changes history
  pub few : length own.last.table ≤ clients_limit
