-- What is read of a translation table. The main word is `Tells`.
use Rattle.std.specs.Global.{Vec}
use Rattle.std.specs.Prelude.{◌≡◌, ℕ, List}
use Rattle.mesh_base.specs.declared.address.Mac.{Mac}
use Rattle.mesh_model.specs.Knowledge.Told.{Message, message_changes, stamp_told}
use Rattle.mesh_model.specs.Packets.Bodies.{TtData}
use Rattle.tt_global.specs.Kept.{stamp_in}
use Rattle.tt_table.specs.declared.announcement.Announcement.{Announcement}

-- an announcement has the byte, the sums and the changes of a translation table
pub record Tells (announced : Announcement) (table : TtData) : Type 0 where
  pub stamp : stamp_in announced ≡ stamp_told table
  pub changes : announced.changes ≡ message_changes table

-- the originator message with a translation table
abbrev pub message : Mac → TtData → Message
message orig table = record { orig = orig; table = table }

-- the bytes of a vector
abbrev pub bytes_of : Vec ℕ → List ℕ
bytes_of vector = vector.items
