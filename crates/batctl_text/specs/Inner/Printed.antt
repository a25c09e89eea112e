-- What the steps of printing leave.
use Rattle.std.specs.Prelude.{◌≡◌, ◌++◌, ℕ, Bool, List, Option, is_some}
use Rattle.std.specs.List.{concat}
use Rattle.mesh_base.specs.declared.client.Key.{Key}
use Rattle.mesh_model.specs.Packets.Bodies.{TtChange}
use Rattle.mesh_model.specs.Packets.Containers.{Container}
use Rattle.mesh_model.specs.Packets.Contents.{Content}
use Rattle.mesh_model.specs.Text.ContainerLines.{content_lines}

-- the lines of a container that tells this were appended, and `whole` says whether it tells any
pub record IsPrinted (old new : List ℕ) (container : Container) (content : Option Content)
    (whole : Bool) : Type 0 where
  pub whole_is : whole ≡ is_some content
  pub text_is : new ≡ old ++ concat (content_lines container content)

-- the flags of a record as they stand, and its client
abbrev pub flags_and_client : TtChange → ℕ × Key
flags_and_client change = (change.flags, change.key)
