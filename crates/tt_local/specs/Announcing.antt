-- What an announcement tells of a node's history. The main word is `IsAnnouncement`.
use Rattle.std.specs.Prelude.{◌≡◌}
use Rattle.mesh_model.specs.Commits.Announcements.{announced_changes}
use Rattle.mesh_model.specs.Commits.History.{History}
use Rattle.mesh_model.specs.Commits.Versions.{last_commit}
use Rattle.mesh_model.specs.Tables.Sums.{sums_of}
use Rattle.tt_table.specs.Sums.{named_sums}
use Rattle.tt_table.specs.declared.announcement.Announcement.{Announcement}

-- an announcement tells what the next message of a history does: the last commit's byte, the
-- checksums of its VLANs that have entries, and the changes that the message carries
pub record IsAnnouncement (history : History) (told : Announcement) : Type 0 where
  pub byte : told.byte ≡ (last_commit history.commits).byte
  pub sums : named_sums told.sums ≡ sums_of (last_commit history.commits).table
  pub changes : told.changes ≡ announced_changes history
