-- Named under a signature by `unfolding model_on_literals`, it lets the definitions compute on a scenario that is
-- written out.
use Rattle.std.specs.Prelude.{⊤}
use lib.Utf8.{encode}
use Rattle.std.specs.Fmt.{digits}
use Rattle.std.specs.Str.{chars, is_utf8}
use Rattle.hex.specs.Hex.{encode_with}
use Rattle.mesh_model.specs.Acts.FrameRows.{frame_acts}
use Rattle.mesh_model.specs.Scenario.Commands.{command_of_line}
use Rattle.mesh_model.specs.Text.Messages.{halt_text}
use Rattle.mesh_model.specs.Run.PlainRun.{line_outcome, plain_run}
use Rattle.mesh_model.specs.Text.Tables.{age_text, flags_text, local_header, local_line, sum_text, vid_text, vlan_line}

unfoldable pub model_on_literals : ⊤
unfolding encode digits chars is_utf8 encode_with command_of_line halt_text line_outcome plain_run age_text flags_text
    frame_acts local_header local_line sum_text vid_text vlan_line
model_on_literals = tt
