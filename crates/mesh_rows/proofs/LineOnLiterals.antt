-- Named under a signature by `unfolding line_on_literals`, it lets the reading of a line compute on a line that is written
-- out.
use Rattle.std.specs.Prelude.{⊤}
use lib.Utf8.{encode}
use Rattle.std.specs.Str.{chars, is_utf8}
use Rattle.hex.specs.Hex.{decode_pairs}
use Rattle.mesh_model.specs.Scenario.Commands.{command_of_line}

unfoldable pub line_on_literals : ⊤
unfolding encode chars is_utf8 decode_pairs command_of_line
line_on_literals = tt
